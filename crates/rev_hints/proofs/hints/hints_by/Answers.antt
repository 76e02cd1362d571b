use Rattle.std.proofs.Common.{map, arith}
use Rattle.rev_hints.specs.Changes.{change_in}
use Rattle.rev_hints.specs.Hints.{hint_value}
use Rattle.rev_hints.proofs.HintLemmas.{all-users}
use Rattle.rev_hints.proofs.hints.hints_by.Goals as goal

pub returns : goal.returns
returns c =
    all-users c.args.graph.now.manifest.builds c.args.cells.now.state (change_in c.args.changes.now.entries) c.loop-user.user (map hint_value c.loop-user.hints.items)
    (omega (arith, c.loop-user-test.false, c.loop-user.auto.user-end, c.edges-user-end.ensures.edges)) c.loop-user.invariant.hints
