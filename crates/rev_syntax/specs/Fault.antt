-- The numbers of the faults of the syntax.
use Rattle.std.specs.Prelude.{ℕ}
use Rattle.rev_syntax.specs.declared.fault.SyntaxKind.{SyntaxKind}
use Rattle.rev_syntax.specs.declared.fault.SyntaxKind.TheVariants.{Syntax, Tab, BadEscape}

abbrev pub code_of : SyntaxKind → ℕ
code_of Syntax = 10
code_of Tab = 11
code_of BadEscape = 12
