use Rattle.std.proofs.Common.{◌≡◌, ℕ, ◌+◌, List, length, get_or, Contains, ◌⊎◌, sym, subst, ◌∙◌, arith, true≢false}
use Rattle.std.specs.Prelude.{◌↔◌}
use Rattle.rev_conflicts.specs.Tables.{SomeBelow}
use Rattle.rev_conflicts.proofs.Some.{either-more, some-more, some-skip}
use Rattle.rev_conflicts.proofs.MeetLemmas.{ByOne, keys-by}
use Rattle.rev_conflicts.proofs.meeting.add_at.Goals.{then-is_apart+in_ok-add, else-is_apart}
use Rattle.rev_conflicts.proofs.meeting.add_at.Goals as goal

pub loop-command-preserved : goal.loop-command-preserved
loop-command-preserved c =
    let builds = c.args.graph.now.manifest.builds in
    let early = c.args.early.now in
    let edges = c.args.edges.now in
    let commands = c.args.commands.now in
    let n = c.loop-command.command-index in
    elim c.if-is_apart.branch [
      | then-is_apart+in_ok-add w ↦ λ k.
          subst (λ (fs : List (List ℕ)). Contains fs k ↔ (Contains c.args.found.now k ⊎ SomeBelow (λ i. ByOne builds early edges c.args.user c.args.used_by c.args.place (get_or commands i 0) k) (n + 1))) (sym w.found-is)
          (some-more (λ i. ByOne builds early edges c.args.user c.args.used_by c.args.place (get_or commands i 0) k) n (c.loop-command.invariant k)
          (either-more (w.in_ok-add.ensures k) (λ e. (c.is_apart.ensures.0 w.if-is_apart.true, e), λ both. both.1)))
      | else-is_apart w ↦ λ k.
          subst (λ (fs : List (List ℕ)). Contains fs k ↔ (Contains c.args.found.now k ⊎ SomeBelow (λ i. ByOne builds early edges c.args.user c.args.used_by c.args.place (get_or commands i 0) k) (n + 1))) (sym w.found-is)
          (some-skip (λ i. ByOne builds early edges c.args.user c.args.used_by c.args.place (get_or commands i 0) k) n (c.loop-command.invariant k)
          (λ both. true≢false (sym (c.is_apart.ensures.1 both.0) ∙ w.if-is_apart.false)))
    ]

pub returns : goal.returns
returns c = λ k.
    let builds = c.args.graph.now.manifest.builds in
    let early = c.args.early.now in
    let edges = c.args.edges.now in
    let commands = c.args.commands.now in
    let all : c.loop-command.command-index ≡ length c.args.commands.now = omega (arith, c.loop-command-test.false, c.loop-command.auto.command-index-end) in
    either-more
    (subst (λ m. Contains c.loop-command.found k ↔ (Contains c.args.found.now k ⊎ SomeBelow (λ i. ByOne builds early edges c.args.user c.args.used_by c.args.place (get_or commands i 0) k) m)) all (c.loop-command.invariant k))
    (keys-by builds early edges c.args.user c.args.used_by c.args.place commands k)
