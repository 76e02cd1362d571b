use Rattle.std.proofs.Common.{◌≡◌, ◌++◌, length}
use Rattle.rev_scopes.specs.Expansion.{expanded}
use Rattle.rev_dyndep.specs.Told.{no_value}
use Rattle.rev_dyndep.proofs.paths.value_of.Given as goal

-- what stands so far, with what the rest stands for
abbrev pub invariant-loop-piece : goal.invariant-loop-piece
invariant-loop-piece l = l.value.items ++ expanded no_value l.rest ≡ expanded no_value l.fn.text

abbrev pub decreases-loop-piece : goal.decreases-loop-piece
decreases-loop-piece l = length l.rest
