-- How a journal is kept.
use Rattle.std.specs.Prelude.{◌≡◌, ℕ, ◌<◌, List, length, map, slice_get, Some, IfSome, vec_len, vec_capacity}
use Rattle.std.specs.List.{AllByRecursion}
use Rattle.rev_desk.specs.declared.journal.Journal.{Journal}
use Rattle.rev_desk.specs.Names.{lane_numbers}

-- the lists of numbers, by lane
abbrev pub lists_of : Journal → List (List ℕ)
lists_of j = map (λ v. v.items) j.numbers.items

-- Beside each lane stand the numbers of its entries, and each entry is of a lane.
pub record IsIndexed (j : Journal) : Type 0 where
  pub numbers : (lane : ℕ) → lane < length j.numbers.items
      → slice_get (lists_of j) lane ≡ Some (lane_numbers j.entries.items lane)
  pub lanes : AllByRecursion (λ e. e.lane < length j.numbers.items) j.entries.items

-- an entry of the lane can be added without memory
pub record HasRoom (j : Journal) (lane : ℕ) : Type 0 where
  pub entries : vec_len j.entries < vec_capacity j.entries
  pub numbers : IfSome (slice_get j.numbers.items lane) (λ v. vec_len v < vec_capacity v)
