use Rattle.std.proofs.Common.{◌≡◌, true}
use Rattle.std.specs.List.{list_all, range_with_len}
use Rattle.rev_ranks.specs.Sets.{is_marked}
use Rattle.rev_needless.specs.Staying.{implies}
use Rattle.rev_needless.proofs.marks.commands_still_marked.Given as goal

abbrev pub invariant-loop-node : goal.invariant-loop-node
invariant-loop-node l =
    list_all (λ n. implies (is_marked l.commands n) (implies (is_marked l.before n) (is_marked l.after n))) (range_with_len 0 l.node) ≡ true
