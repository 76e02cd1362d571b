use Rattle.std.proofs.Common.{◌≡◌, length}
use Rattle.rev_patch.specs.Author.{has_word}
use Rattle.rev_patch.proofs.made_by.has_word.Given as goal

abbrev pub invariant-loop-behind : goal.invariant-loop-behind
invariant-loop-behind l = has_word l.word l.rest ≡ has_word l.word l.line

abbrev pub decreases-loop-behind : goal.decreases-loop-behind
decreases-loop-behind l = length l.rest
