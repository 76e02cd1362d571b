-- Cells of events, noted as they are asked for.
use Rattle.std.specs.Prelude.{◌≡◌, ℕ, List, Some, IfSome, nat_eq}
use Rattle.std.specs.HashSet.{HashSet}
use Rattle.std.specs.Map.{lookup}
use Rattle.rev_cells.specs.declared.cell.Cell.{Cell}
use Rattle.rev_footprint.specs.Value.{FootprintValue}
use Rattle.rev_history.specs.Timeline.{Timeline, kept_footprint}
use Rattle.rev_held.specs.Several.{IsNamed}

-- the keys are the cells that the event of a kept number reads or writes
abbrev pub IsNoted : Timeline → ℕ → List Cell → Type 0
IsNoted t n keys = (f : FootprintValue) → Some f ≡ kept_footprint t n → IsNamed f keys

-- so it is with each number under which some stand
abbrev pub AreNoted : {S : Type 0} → Timeline → List (ℕ × HashSet Cell S) → Type 0
AreNoted t entries = (n : ℕ) → IfSome (lookup (nat_eq n) entries) (λ set. IsNoted t n set.keys)
