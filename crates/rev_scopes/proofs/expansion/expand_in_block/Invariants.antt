use Rattle.std.proofs.Common.{◌≡◌, length}
use Rattle.rev_scopes.specs.Scopes.{variable_in}
use Rattle.rev_scopes.specs.Expansion.{expanded, in_block, limited, appended}
use Rattle.rev_scopes.proofs.expansion.expand_in_block.Given as goal

-- what stands so far, with what the rest stands for
abbrev pub invariant-loop-piece : goal.invariant-loop-piece
invariant-loop-piece l =
    appended l.growth (expanded (in_block l.block (variable_in l.scopes l.scope)) l.rest) ≡ limited (expanded (in_block l.block (variable_in l.scopes l.scope)) l.fn.text)

abbrev pub decreases-loop-piece : goal.decreases-loop-piece
decreases-loop-piece l = length l.rest
