use Rattle.std.proofs.Common.{◌≡◌, ◌+◌, length}
use Rattle.rev_patch.specs.Statement.{tokens}
use Rattle.rev_patch.specs.Read.{no_signs, signs_after}
use Rattle.rev_patch.proofs.statement.signs_of.Given as goal

-- what was seen, with what is left, is what is seen of the whole line
abbrev pub invariant-loop-first : goal.invariant-loop-first
invariant-loop-first l =
    (signs_after l.signs l.at (tokens l.rest) ≡ signs_after no_signs 0 (tokens l.line)) × (l.at + length l.rest ≡ length l.line)

abbrev pub decreases-loop-first : goal.decreases-loop-first
decreases-loop-first l = length l.rest
