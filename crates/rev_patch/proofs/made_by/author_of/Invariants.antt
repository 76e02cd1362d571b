use Rattle.std.proofs.Common.{◌≡◌, length}
use Rattle.rev_patch.specs.Author.{author}
use Rattle.rev_patch.proofs.made_by.author_of.Given as goal

abbrev pub invariant-loop-line : goal.invariant-loop-line
invariant-loop-line l = author l.rest ≡ author l.text

abbrev pub decreases-loop-line : goal.decreases-loop-line
decreases-loop-line l = length l.rest
