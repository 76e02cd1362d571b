-- The numbers of the faults of a manifest.
use Rattle.std.specs.Prelude.{ℕ}
use Rattle.rev_manifest.specs.declared.fault.FaultKind.{FaultKind}
use Rattle.rev_manifest.specs.declared.fault.FaultKind.TheVariants.{EmptyPath, LongPath, Syntax, Tab, BadEscape, UnknownRule, DoubleRule, UnknownVariable, NoCommand, VariableCycle, UnknownPool, BadDepth, NoFile, IncludeDepth, Unsupported, TooLarge, DoublePool}

abbrev pub code_of : FaultKind → ℕ
code_of EmptyPath = 1
code_of LongPath = 2
code_of Syntax = 10
code_of Tab = 11
code_of BadEscape = 12
code_of UnknownRule = 13
code_of DoubleRule = 14
code_of UnknownVariable = 15
code_of NoCommand = 16
code_of VariableCycle = 17
code_of UnknownPool = 18
code_of BadDepth = 19
code_of NoFile = 20
code_of IncludeDepth = 21
code_of Unsupported = 22
code_of TooLarge = 23
code_of DoublePool = 24
