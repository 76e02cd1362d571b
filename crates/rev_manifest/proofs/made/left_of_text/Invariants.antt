use Rattle.std.proofs.Common.{◌≡◌, length}
use Rattle.rev_scopes.specs.Scopes.{variable_in}
use Rattle.rev_scopes.specs.Expansion.{expanded}
use Rattle.rev_manifest.specs.Made.{left_of}
use Rattle.rev_manifest.proofs.made.left_of_text.Given as goal

abbrev pub invariant-loop-piece : goal.invariant-loop-piece
invariant-loop-piece l =
    left_of l.left (length (expanded (variable_in l.scopes l.scope) l.rest)) ≡ left_of l.room (length (expanded (variable_in l.scopes l.scope) l.text))

abbrev pub decreases-loop-piece : goal.decreases-loop-piece
decreases-loop-piece l = length l.rest
