use Rattle.std.proofs.Common.{◌≡◌, ◌<◌, ℕ, Bool, List, length, get_or, sym, subst, ◌∙◌}
use Rattle.std.specs.Global.{Vec}
use Rattle.std.specs.List.{filter_map}
use Rattle.std.proofs.lemmas.List.Elements.{All-from_recursion, Contains-get_or}
use Rattle.rev_waits.proofs.WaitLemmas.{ok-more}
use Rattle.rev_observed.specs.CommandValues.{CommandValue}
use Rattle.rev_conflicts.specs.declared.conflict.Conflict.{Conflict}
use Rattle.rev_conflicts.specs.declared.told.Told.{Told}
use Rattle.rev_conflicts.specs.Answer.{AreConflicts}
use Rattle.rev_conflicts.specs.Tables.{AreEarly, AreMet, scene, with_kind}
use Rattle.rev_conflicts.proofs.AnswerLemmas.{are-conflicts}
use Rattle.rev_conflicts.proofs.KindLemmas.{joined-length}
use Rattle.rev_conflicts.proofs.answer.conflicts.Goals as goal

pub with_kinds-requires-clause-met : goal.with_kinds-requires-clause-met
with_kinds-requires-clause-met c =
    let same : c.deref-2.result.now ≡ c.deref-4.result.now = c.deref-2.ensures.value ∙ sym c.deref-4.ensures.value in
    let one : AreMet c.args.graph.now.manifest.builds c.deref-4.result.now c.args.edges.now c.paths-paths.result.now c.args.hidden.now c.commands-commands.result.now c.in_ok-told.told.items =
    subst (λ (ms : List Bool). AreMet c.args.graph.now.manifest.builds ms c.args.edges.now c.paths-paths.result.now c.args.hidden.now c.commands-commands.result.now c.in_ok-told.told.items) same c.in_ok-told.ensures in
    let are : AreMet c.args.graph.now.manifest.builds c.deref-4.result.now c.args.edges.now c.paths-paths.result.now c.args.hidden.now c.commands-commands.result.now c.deref-5.result.now =
    subst (λ (ts : List Told). AreMet c.args.graph.now.manifest.builds c.deref-4.result.now c.args.edges.now c.paths-paths.result.now c.args.hidden.now c.commands-commands.result.now ts) (sym c.deref-5.ensures.value) one in
    λ k d within. are.sound (get_or c.deref-5.result.now k d) (Contains-get_or c.deref-5.result.now k d within)

pub returns : goal.returns
returns c =
    let builds = c.args.graph.now.manifest.builds in
    let files = c.args.files.now in
    let edges = c.args.edges.now in
    let hidden = c.args.hidden.now in
    let P = c.paths-paths.result.now in
    let C = c.commands-commands.result.now in
    let same : c.deref-2.result.now ≡ c.deref-4.result.now = c.deref-2.ensures.value ∙ sym c.deref-4.ensures.value in
    let one : AreMet c.args.graph.now.manifest.builds c.deref-4.result.now c.args.edges.now c.paths-paths.result.now c.args.hidden.now c.commands-commands.result.now c.in_ok-told.told.items =
    subst (λ (ms : List Bool). AreMet builds ms edges P hidden C c.in_ok-told.told.items) same c.in_ok-told.ensures in
    let are : AreMet c.args.graph.now.manifest.builds c.deref-4.result.now c.args.edges.now c.paths-paths.result.now c.args.hidden.now c.commands-commands.result.now c.deref-5.result.now =
    subst (λ (ts : List Told). AreMet builds c.deref-4.result.now edges P hidden C ts) (sym c.deref-5.ensures.value) one in
    let early : AreEarly c.args.graph.now.manifest.builds c.args.files.now c.deref-4.result.now = subst (λ (ms : List Bool). AreEarly builds files ms) (sym c.deref-4.ensures.value) c.in_ok-early.ensures in
    ok-more (λ (v : Vec Conflict). v.items ≡ filter_map (with_kind (scene builds files P C edges hidden)) c.deref-5.result.now)
    (λ (v : Vec Conflict). AreConflicts (scene builds files c.args.observation.now.paths c.args.observation.now.commands edges hidden) v.items)
    (λ v is.
    subst (λ (ps : List (List ℕ)). AreConflicts (scene builds files ps c.args.observation.now.commands edges hidden) v.items) c.paths-paths.ensures.same
    (subst (λ (cs : List CommandValue). AreConflicts (scene builds files P cs edges hidden) v.items) c.commands-commands.ensures.same
    (are-conflicts (scene builds files P C edges hidden) c.deref-4.result.now early c.deref-5.result.now are v.items is)))
    c.with_kinds.result c.with_kinds.ensures

pub found_in-requires-clause-edges : goal.found_in-requires-clause-edges
found_in-requires-clause-edges c = All-from_recursion (λ edge. edge < length c.args.graph.now.manifest.builds) c.args.edges.now c.requires.within

pub found_in-requires-clause-each : goal.found_in-requires-clause-each
found_in-requires-clause-each c = joined-length c.args.graph.now.manifest.builds c.args.edges.now c.args.observation.now.commands c.commands-commands.result.now c.commands-commands.ensures.same c.requires.edges

pub with_kinds-requires-clause-edges : goal.with_kinds-requires-clause-edges
with_kinds-requires-clause-edges c = All-from_recursion (λ edge. edge < length c.args.graph.now.manifest.builds) c.args.edges.now c.requires.within

pub with_kinds-requires-clause-each : goal.with_kinds-requires-clause-each
with_kinds-requires-clause-each c = joined-length c.args.graph.now.manifest.builds c.args.edges.now c.args.observation.now.commands c.commands-commands.result.now c.commands-commands.ensures.same c.requires.edges
