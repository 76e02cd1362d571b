-- The numbers of the faults of lanes on threads.
use Rattle.std.specs.Prelude.{ℕ}
use Rattle.rev_workers.specs.declared.fault.CloseCode.{CloseCode}
use Rattle.rev_workers.specs.declared.fault.CloseCode.TheVariants as code

abbrev pub number_of : CloseCode → ℕ
number_of code.LaneMissing = 110
number_of code.LaneMismatch = 111
number_of code.LaneStopped = 112
