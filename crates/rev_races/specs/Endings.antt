-- Paths that end alike.
use Rattle.std.specs.Prelude.{◌≡◌, ℕ, ◌+◌, ◌-◌, ◌*◌, ◌%◌, Bool, true, List, drop, length, nat_lt, slice_index_or, Some, if◌then◌else◌}
use Rattle.std.specs.Int.{from_le_bytes, w64}
use Rattle.rev_manifest.specs.Builds.{BuildValue}
use Rattle.rev_graph.specs.Graph.{producer_of}
use Rattle.rev_ranks.specs.Sets.{is_marked}

-- the byte that stands so far from the end of a path, from 1; 0 where the path is shorter
abbrev pub byte_from_end : List ℕ → ℕ → ℕ
byte_from_end path back = if nat_lt (length path) back then 0 else slice_index_or path (length path - back) 0

-- what a path of less than eight bytes ends by: its last byte, and the three before the last but one
unfoldable pub short_ending : List ℕ → ℕ
short_ending path =
    (byte_from_end path 1 + byte_from_end path 3 * 31 + byte_from_end path 4 * 961 + byte_from_end path 5 * 29791) % 1048573

-- what a path with these last eight bytes ends by: the number that they are, the first of them the lowest
unfoldable pub long_ending : List ℕ → ℕ
long_ending last = from_le_bytes w64 last % 1048573

-- the ending of a path, which is a number below the prime 1,048,573
unfoldable pub ending : List ℕ → ℕ
ending path = if nat_lt (length path) 8 then short_ending path else long_ending (drop (length path - 8) path)

-- There is a mark for the ending of each path that an edge produces.
pub record AreEndings (builds : List BuildValue) (endings : List Bool) : Type 0 where
  pub each : (path : List ℕ) (edge : ℕ) → producer_of builds path ≡ Some edge → is_marked endings (ending path) ≡ true
