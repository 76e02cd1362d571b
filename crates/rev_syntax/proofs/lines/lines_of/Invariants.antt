use Rattle.std.proofs.Common.{◌≡◌, ◌++◌, ◌+◌, drop}
use Rattle.rev_syntax.specs.Lines.{lines_of}
use Rattle.rev_syntax.specs.Joining.{texts, lines_after}
use Rattle.rev_syntax.proofs.lines.lines_of.Given as goal

-- the lines so far, and those of what is left
abbrev pub invariant-loop-i : goal.invariant-loop-i
invariant-loop-i l = l.lines.items ++ lines_after l.unended (l.i + 1) (texts (drop l.i l.raw-items)) ≡ lines_of l.content
