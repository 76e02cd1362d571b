use Rattle.std.proofs.Common.{◌≡◌, ◌++◌, length}
use Rattle.rev_syntax.specs.Lines.{file_lines}
use Rattle.rev_syntax.specs.Joining.{texts}
use Rattle.rev_syntax.proofs.lines.file_lines.Given as goal

-- what is read, and the lines of what is left
abbrev pub invariant-loop-rest : goal.invariant-loop-rest
invariant-loop-rest l = texts l.lines.items ++ file_lines l.rest ≡ file_lines l.content

abbrev pub decreases-loop-rest : goal.decreases-loop-rest
decreases-loop-rest l = length l.rest
