-- Rows of marks: which ends of some bytes pass.
use Rattle.std.specs.Prelude.{◌≡◌, ℕ, ◌+◌, ◌≤◌, Bool, false, List, length, drop, slice_index_or}

-- a mark for each end of the bytes, from all of them to none: it is set exactly where that end passes
pub record IsRow (passes : List ℕ → Bool) (bytes : List ℕ) (row : List Bool) : Type 0 where
  pub each : length row ≡ length bytes + 1
  pub at : (k : ℕ) → k ≤ length bytes → slice_index_or row k false ≡ passes (drop k bytes)
