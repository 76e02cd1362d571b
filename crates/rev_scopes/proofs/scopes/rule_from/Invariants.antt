use Rattle.std.proofs.Common.{◌≡◌, ◌<◌, length}
use Rattle.rev_scopes.specs.Scopes.{rule_in}
use Rattle.rev_scopes.proofs.scopes.rule_from.Given as goal

abbrev pub invariant-loop-rule : goal.invariant-loop-rule
invariant-loop-rule l = (l.number < length l.scopes) × (rule_in l.scopes l.number l.name ≡ rule_in l.scopes l.scope l.name)

abbrev pub decreases-loop-rule : goal.decreases-loop-rule
decreases-loop-rule l = l.number
