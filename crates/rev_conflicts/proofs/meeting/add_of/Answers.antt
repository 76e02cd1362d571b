use Rattle.std.proofs.Common.{ℕ, List, get_or, Contains, ◌⊎◌, inl, inr, subst}
use Rattle.std.specs.Prelude.{◌↔◌}
use Rattle.std.specs.Global.{Vec}
use Rattle.rev_graph.proofs.StepLemmas.{all-within}
use Rattle.rev_ranks.specs.Graph.{graph_of}
use Rattle.rev_conflicts.proofs.MeetLemmas.{InFiles, InFolders, sound-found, whole-found}
use Rattle.rev_conflicts.proofs.meeting.add_of.Goals as goal

pub mark_direct-requires-clause-inside : goal.mark_direct-requires-clause-inside
mark_direct-requires-clause-inside c = all-within c.args.graph.now.manifest.builds c.args.steps.now c.requires.steps

pub returns-clause-stays : goal.returns-clause-stays
returns-clause-stays c = λ k h. (c.in_ok-add_each-2.ensures k).1 (inl ((c.in_ok-add_each.ensures k).1 (inl h)))

pub returns-clause-sound : goal.returns-clause-sound
returns-clause-sound c =
    let builds = c.args.graph.now.manifest.builds in
    let early = c.args.early.now in
    let edges = c.args.edges.now in
    let u = c.args.used_by in
    let user : ℕ = get_or c.args.edges.now c.args.used_by 0 in
    let nf = c.in_ok-in_files.in_files.items in
    let ng = c.in_ok-in_folders.in_folders.items in
    let F = graph_of c.args.files.now.lists.items in
    let G = graph_of c.args.folders.now.lists.items in
    let one : (k : List ℕ) → Contains c.add_each.new.found k ↔ (Contains c.args.found.now k ⊎ InFiles c.args.graph.now.manifest.builds c.args.early.now c.args.edges.now (get_or c.args.edges.now c.args.used_by 0) c.args.used_by (graph_of c.args.files.now.lists.items) c.in_ok-in_files.in_files.items k) = λ k.
    subst (λ (ls : List (Vec ℕ)). Contains c.add_each.new.found k ↔ (Contains c.args.found.now k ⊎ InFiles builds early edges user u (graph_of ls) nf k)) c.deref-3.ensures.value
    (subst (λ (ns : List ℕ). Contains c.add_each.new.found k ↔ (Contains c.args.found.now k ⊎ InFiles builds early edges user u (graph_of c.deref-3.result.now) ns k)) c.deref-4.ensures.value (c.in_ok-add_each.ensures k)) in
    let two : (k : List ℕ) → Contains c.add_each-2.new.found k ↔ (Contains c.add_each.new.found k ⊎ InFolders c.args.graph.now.manifest.builds c.args.early.now c.args.edges.now (get_or c.args.edges.now c.args.used_by 0) c.args.used_by (graph_of c.args.folders.now.lists.items) c.in_ok-in_folders.in_folders.items k) = λ k.
    subst (λ (ls : List (Vec ℕ)). Contains c.add_each-2.new.found k ↔ (Contains c.add_each.new.found k ⊎ InFolders builds early edges user u (graph_of ls) ng k)) c.deref-5.ensures.value
    (subst (λ (ns : List ℕ). Contains c.add_each-2.new.found k ↔ (Contains c.add_each.new.found k ⊎ InFolders builds early edges user u (graph_of c.deref-5.result.now) ns k)) c.deref-6.ensures.value (c.in_ok-add_each-2.ensures k)) in
    λ k. sound-found builds early edges u c.args.command.now F G nf ng c.in_ok-in_files.ensures c.in_ok-in_folders.ensures k (one k).0 (two k).0

pub returns-clause-whole : goal.returns-clause-whole
returns-clause-whole c =
    let builds = c.args.graph.now.manifest.builds in
    let early = c.args.early.now in
    let edges = c.args.edges.now in
    let u = c.args.used_by in
    let user : ℕ = get_or c.args.edges.now c.args.used_by 0 in
    let nf = c.in_ok-in_files.in_files.items in
    let ng = c.in_ok-in_folders.in_folders.items in
    let F = graph_of c.args.files.now.lists.items in
    let G = graph_of c.args.folders.now.lists.items in
    let one : (k : List ℕ) → Contains c.add_each.new.found k ↔ (Contains c.args.found.now k ⊎ InFiles c.args.graph.now.manifest.builds c.args.early.now c.args.edges.now (get_or c.args.edges.now c.args.used_by 0) c.args.used_by (graph_of c.args.files.now.lists.items) c.in_ok-in_files.in_files.items k) = λ k.
    subst (λ (ls : List (Vec ℕ)). Contains c.add_each.new.found k ↔ (Contains c.args.found.now k ⊎ InFiles builds early edges user u (graph_of ls) nf k)) c.deref-3.ensures.value
    (subst (λ (ns : List ℕ). Contains c.add_each.new.found k ↔ (Contains c.args.found.now k ⊎ InFiles builds early edges user u (graph_of c.deref-3.result.now) ns k)) c.deref-4.ensures.value (c.in_ok-add_each.ensures k)) in
    let two : (k : List ℕ) → Contains c.add_each-2.new.found k ↔ (Contains c.add_each.new.found k ⊎ InFolders c.args.graph.now.manifest.builds c.args.early.now c.args.edges.now (get_or c.args.edges.now c.args.used_by 0) c.args.used_by (graph_of c.args.folders.now.lists.items) c.in_ok-in_folders.in_folders.items k) = λ k.
    subst (λ (ls : List (Vec ℕ)). Contains c.add_each-2.new.found k ↔ (Contains c.add_each.new.found k ⊎ InFolders builds early edges user u (graph_of ls) ng k)) c.deref-5.ensures.value
    (subst (λ (ns : List ℕ). Contains c.add_each-2.new.found k ↔ (Contains c.add_each.new.found k ⊎ InFolders builds early edges user u (graph_of c.deref-5.result.now) ns k)) c.deref-6.ensures.value (c.in_ok-add_each-2.ensures k)) in
    λ place k uses key. whole-found builds early edges u c.args.command.now F G nf ng c.in_ok-in_files.ensures c.in_ok-in_folders.ensures place k (λ s. (one k).1 (inr s)) (λ b. (two k).1 (inl b)) (λ s. (two k).1 (inr s)) uses key
