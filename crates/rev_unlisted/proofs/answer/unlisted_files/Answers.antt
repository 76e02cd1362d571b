use Rattle.std.proofs.Common.{◌≡◌, List, ℕ, length, map, sym, ap, subst, ◌∙◌}
use Rattle.std.specs.Global.{Vec}
use Rattle.std.specs.Borrow.{Bor}
use Rattle.std.proofs.lemmas.List.{length-map}
use Rattle.std.proofs.lemmas.List.FromFn.{length-map-range_with_len}
use Rattle.rev_manifest.specs.Manifest.{BuildValue, ManifestValue}
use Rattle.rev_observed.specs.CommandValues.{CommandValue}
use Rattle.rev_conflicts.specs.Tables.{scene}
use Rattle.rev_undeclared.proofs.AnswerLemmas.{ok-more}
use Rattle.rev_unlisted.specs.declared.input.Unlisted.{Unlisted}
use Rattle.rev_unlisted.specs.Answer.{AreUnlisted, lists_in}
use Rattle.rev_unlisted.specs.Found.{AreFound, names_of}
use Rattle.rev_unlisted.specs.Joined.{extended_in, joined_in}
use Rattle.rev_unlisted.proofs.AnswerLemmas.{are-unlisted}
use Rattle.rev_unlisted.proofs.JoinLemmas.{chosen-joined, listed-each}
use Rattle.rev_unlisted.proofs.answer.unlisted_files.Goals as goal

pub extended_lists-requires : goal.extended_lists-requires
extended_lists-requires c =
    ap length c.deref.ensures.value
    ∙ listed-each c.in_ok-lists.lists.items (lists_in c.args.history.now.timeline) (length c.args.history.now.timeline.manifest.builds) c.in_ok-lists.ensures
    (length-map-range_with_len _ 0 (length c.args.history.now.timeline.manifest.builds))
    ∙ ap (λ (m : ManifestValue). length m.builds) (sym c.graph-graph.ensures)

pub joined_lists-requires : goal.joined_lists-requires
joined_lists-requires c =
    let lists : length c.in_ok-lists.lists.items ≡ length c.args.history.now.timeline.manifest.builds =
    listed-each c.in_ok-lists.lists.items (lists_in c.args.history.now.timeline) (length c.args.history.now.timeline.manifest.builds) c.in_ok-lists.ensures
    (length-map-range_with_len _ 0 (length c.args.history.now.timeline.manifest.builds)) in
    ap length c.deref-3.ensures.value ∙ sym (length-map c.in_ok-extended.extended.items (λ (v : Vec (List ℕ)). v.items)) ∙ ap length c.in_ok-extended.ensures
    ∙ length-map-range_with_len _ 0 (length c.graph-graph.result.now.manifest.builds) ∙ ap (λ (m : ManifestValue). length m.builds) c.graph-graph.ensures
    ∙ sym lists ∙ sym (ap length c.deref-2.ensures.value)

pub found_in-requires-clause-lists : goal.found_in-requires-clause-lists
found_in-requires-clause-lists c =
    let lists : length c.in_ok-lists.lists.items ≡ length c.args.history.now.timeline.manifest.builds =
    listed-each c.in_ok-lists.lists.items (lists_in c.args.history.now.timeline) (length c.args.history.now.timeline.manifest.builds) c.in_ok-lists.ensures
    (length-map-range_with_len _ 0 (length c.args.history.now.timeline.manifest.builds)) in
    ap length c.deref-4.ensures.value ∙ sym (length-map c.in_ok-joined.joined.items (λ (s : Bor (List (List ℕ))). s.now)) ∙ ap length c.in_ok-joined.ensures
    ∙ length-map-range_with_len _ 0 (length c.deref-2.result.now) ∙ ap length c.deref-2.ensures.value ∙ lists
    ∙ ap (λ (m : ManifestValue). length m.builds) (sym c.graph-graph.ensures)

pub returns : goal.returns
returns c =
    let builds = c.graph-graph.result.now.manifest.builds in
    let names = c.args.names.now.entries in
    let files = c.args.files.now in
    let edges = c.args.edges.now in
    let hidden = c.args.hidden.now in
    let P = c.paths-paths.result.now in
    let C = c.commands-commands.result.now in
    let each : length c.deref-2.result.now ≡ length c.graph-graph.result.now.manifest.builds =
    ap length c.deref-2.ensures.value
    ∙ listed-each c.in_ok-lists.lists.items (lists_in c.args.history.now.timeline) (length c.args.history.now.timeline.manifest.builds) c.in_ok-lists.ensures
    (length-map-range_with_len _ 0 (length c.args.history.now.timeline.manifest.builds))
    ∙ ap (λ (m : ManifestValue). length m.builds) (sym c.graph-graph.ensures) in
    let extended : map (λ (v : Vec (List ℕ)). v.items) c.deref-3.result.now ≡ extended_in c.graph-graph.result.now.manifest.builds (names_of c.deref-2.result.now) c.args.names.now.entries =
    ap (map (λ (v : Vec (List ℕ)). v.items)) c.deref-3.ensures.value ∙ c.in_ok-extended.ensures
    ∙ ap (λ (ls : List (Bor (List (List ℕ)))). extended_in builds (names_of ls) names) (c.deref.ensures.value ∙ sym c.deref-2.ensures.value) in
    let lists : names_of c.deref-4.result.now ≡ joined_in c.graph-graph.result.now.manifest.builds (lists_in c.args.history.now.timeline) c.args.names.now.entries =
    ap names_of c.deref-4.ensures.value ∙ c.in_ok-joined.ensures
    ∙ chosen-joined builds (names_of c.deref-2.result.now) (map (λ (v : Vec (List ℕ)). v.items) c.deref-3.result.now) names (length c.deref-2.result.now) each extended
    ∙ ap (λ (ls : List (List (List ℕ))). joined_in builds ls names) (ap names_of c.deref-2.ensures.value ∙ c.in_ok-lists.ensures) in
    ok-more (λ (v : Vec Unlisted). AreFound (scene builds files P C edges hidden) c.args.builds.now (names_of c.deref-4.result.now) c.in_ok-stronger.stronger v.items)
    (λ (v : Vec Unlisted). AreUnlisted (scene c.args.history.now.timeline.manifest.builds files c.args.observation.now.paths c.args.observation.now.commands edges hidden) c.args.builds.now (joined_in c.args.history.now.timeline.manifest.builds (lists_in c.args.history.now.timeline) names) c.args.conflicts.now c.args.undeclared.now v.items)
    (λ v is.
    subst (λ (bs : List BuildValue). AreUnlisted (scene bs files c.args.observation.now.paths c.args.observation.now.commands edges hidden) c.args.builds.now (joined_in bs (lists_in c.args.history.now.timeline) names) c.args.conflicts.now c.args.undeclared.now v.items) (ap (λ (m : ManifestValue). m.builds) c.graph-graph.ensures)
    (subst (λ (ps : List (List ℕ)). AreUnlisted (scene builds files ps c.args.observation.now.commands edges hidden) c.args.builds.now (joined_in builds (lists_in c.args.history.now.timeline) names) c.args.conflicts.now c.args.undeclared.now v.items) c.paths-paths.ensures.same
    (subst (λ (cs : List CommandValue). AreUnlisted (scene builds files P cs edges hidden) c.args.builds.now (joined_in builds (lists_in c.args.history.now.timeline) names) c.args.conflicts.now c.args.undeclared.now v.items) c.commands-commands.ensures.same
    (subst (λ (ls : List (List (List ℕ))). AreUnlisted (scene builds files P C edges hidden) c.args.builds.now ls c.args.conflicts.now c.args.undeclared.now v.items) lists
    (are-unlisted (scene builds files P C edges hidden) c.args.builds.now (names_of c.deref-4.result.now) c.args.conflicts.now c.args.undeclared.now c.in_ok-stronger.stronger v.items c.in_ok-stronger.ensures is)))))
    c.found_in.result c.found_in.ensures
