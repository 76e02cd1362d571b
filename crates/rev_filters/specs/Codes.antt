-- The numbers of faults.
use Rattle.std.specs.Prelude.{ℕ}
use Rattle.rev_filters.specs.declared.faults.FaultKind.{FaultKind}
use Rattle.rev_filters.specs.declared.faults.FaultKind.TheVariants.{Syntax, Long}

abbrev pub code_of : FaultKind → ℕ
code_of Syntax = 100
code_of Long = 106
