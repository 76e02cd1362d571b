use Rattle.std.proofs.Common.{◌≡◌, length}
use Rattle.rev_named.specs.Words.{undotted}
use Rattle.rev_named.proofs.words.undotted.Given as goal

abbrev pub invariant-loop-last : goal.invariant-loop-last
invariant-loop-last l = undotted l.rest ≡ undotted l.piece

abbrev pub decreases-loop-last : goal.decreases-loop-last
decreases-loop-last l = length l.rest
