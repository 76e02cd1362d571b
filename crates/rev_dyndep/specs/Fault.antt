-- The numbers of the faults of a dyndep file.
use Rattle.std.specs.Prelude.{ℕ}
use Rattle.rev_dyndep.specs.declared.fault.DyndepKind.{DyndepKind}
use Rattle.rev_dyndep.specs.declared.fault.DyndepKind.TheVariants.{EmptyPath, LongPath, Syntax, Tab, BadEscape, NoVersion, NotDyndep, OtherBinding}

abbrev pub code_of : DyndepKind → ℕ
code_of EmptyPath = 1
code_of LongPath = 2
code_of Syntax = 10
code_of Tab = 11
code_of BadEscape = 12
code_of NoVersion = 120
code_of NotDyndep = 121
code_of OtherBinding = 122
