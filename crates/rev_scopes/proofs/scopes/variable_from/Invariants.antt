use Rattle.std.proofs.Common.{◌≡◌, ◌<◌, length}
use Rattle.rev_scopes.specs.Scopes.{binding_in}
use Rattle.rev_scopes.proofs.scopes.variable_from.Given as goal

abbrev pub invariant-loop-value : goal.invariant-loop-value
invariant-loop-value l = (l.number < length l.scopes) × (binding_in l.scopes l.number l.name ≡ binding_in l.scopes l.scope l.name)

abbrev pub decreases-loop-value : goal.decreases-loop-value
decreases-loop-value l = l.number
