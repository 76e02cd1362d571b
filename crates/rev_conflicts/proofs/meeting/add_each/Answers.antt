use Rattle.std.proofs.Common.{◌≡◌, ℕ, ◌+◌, List, length, get_or, Contains, ◌⊎◌, sym, subst, ◌∙◌, arith}
use Rattle.std.specs.Prelude.{◌↔◌}
use Rattle.rev_ranks.specs.Graph.{graph_of, successors_of}
use Rattle.rev_conflicts.specs.Tables.{IsKeyBy, SomeBelow, place_in}
use Rattle.rev_conflicts.proofs.Some.{either-more, some-more, some-skip}
use Rattle.rev_conflicts.proofs.MeetLemmas.{at-number, key-same, none-past}
use Rattle.rev_conflicts.proofs.meeting.add_each.Goals.{then-number-lists+in_ok-add_at, else-number-lists}
use Rattle.rev_conflicts.proofs.meeting.add_each.Goals as goal

pub loop-number-preserved : goal.loop-number-preserved
loop-number-preserved c =
    let builds = c.args.graph.now.manifest.builds in
    let early = c.args.early.now in
    let edges = c.args.edges.now in
    let user = c.args.user in
    let used_by = c.args.used_by in
    let lists = c.args.lists.now in
    let numbers = c.args.numbers.now in
    let n = c.loop-number.number-index in
    let number : ℕ = get_or c.args.numbers.now c.loop-number.number-index 0 in
    elim c.if-number-lists.branch [
      | then-number-lists+in_ok-add_at w ↦ λ k.
          subst (λ (fs : List (List ℕ)). Contains fs k ↔ (Contains c.args.found.now k ⊎ SomeBelow (λ i. IsKeyBy builds early edges user used_by (place_in c.args.of_folders (get_or numbers i 0)) (successors_of (graph_of lists) (get_or numbers i 0)) k) (n + 1))) (sym w.found-is)
          (some-more (λ i. IsKeyBy builds early edges user used_by (place_in c.args.of_folders (get_or numbers i 0)) (successors_of (graph_of lists) (get_or numbers i 0)) k) n (c.loop-number.invariant k)
          (either-more (w.in_ok-add_at.ensures k)
          (key-same builds early edges user used_by w.place_of-place.result (place_in c.args.of_folders number) w.as_slice-commands.result.now (successors_of (graph_of lists) number) k w.place_of-place.ensures
          (w.as_slice-commands.ensures.value ∙ sym (at-number lists number w.index-lists-number.result w.if-number-lists.true w.index-lists-number.is)))))
      | else-number-lists w ↦ λ k.
          subst (λ (fs : List (List ℕ)). Contains fs k ↔ (Contains c.args.found.now k ⊎ SomeBelow (λ i. IsKeyBy builds early edges user used_by (place_in c.args.of_folders (get_or numbers i 0)) (successors_of (graph_of lists) (get_or numbers i 0)) k) (n + 1))) (sym w.found-is)
          (some-skip (λ i. IsKeyBy builds early edges user used_by (place_in c.args.of_folders (get_or numbers i 0)) (successors_of (graph_of lists) (get_or numbers i 0)) k) n (c.loop-number.invariant k)
          (none-past builds early edges user used_by (place_in c.args.of_folders number) lists number k w.if-number-lists.false))
    ]

pub returns : goal.returns
returns c = λ k.
    let all : c.loop-number.number-index ≡ length c.args.numbers.now = omega (arith, c.loop-number-test.false, c.loop-number.auto.number-index-end) in
    subst (λ m. Contains c.loop-number.found k ↔ (Contains c.args.found.now k ⊎ SomeBelow (λ i. IsKeyBy c.args.graph.now.manifest.builds c.args.early.now c.args.edges.now c.args.user c.args.used_by (place_in c.args.of_folders (get_or c.args.numbers.now i 0)) (successors_of (graph_of c.args.lists.now) (get_or c.args.numbers.now i 0)) k) m)) all
    (c.loop-number.invariant k)
