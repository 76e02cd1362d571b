-- The order in which `run` takes the commands of a trace's lanes: the first command of each lane in rising number of
-- the lanes, then the second command of each lane that has one, and so on.
use Rattle.std.specs.Prelude.{ℕ, ◌<◌, max, List, [], ◌∷◌, length, Option, Some, None, slice_get}
use Rattle.std.specs.List.{AllByRecursion, enumerate_from, flat_map, range_with_len}

-- the length of the longest lane
abbrev pub longest : {A : Type 0} → List (List A) → ℕ
longest [] = 0
longest (commands ∷ lanes) = max (length commands) (longest lanes)

-- a command with the number of its lane, where there is one
abbrev pub turn_of : {A : Type 0} → ℕ → Option A → List (ℕ × A)
turn_of lane None = []
turn_of lane (Some command) = (lane, command) ∷ []

-- the commands at a place of their lanes, in rising number of the lanes, the first of which has the given number
abbrev pub round_from : {A : Type 0} → ℕ → ℕ → List (List A) → List (ℕ × A)
round_from first place lanes = flat_map (λ lane. turn_of lane.0 (slice_get lane.1 place)) (enumerate_from first lanes)

-- the same of all lanes
abbrev pub round : {A : Type 0} → ℕ → List (List A) → List (ℕ × A)
round place lanes = round_from 0 place lanes

-- each turn is of a lane below this number
abbrev pub AreOf : {A : Type 0} → ℕ → List (ℕ × A) → Type 0
AreOf count turns = AllByRecursion (λ turn. turn.0 < count) turns

-- all commands, in the order of their turns
abbrev pub turns : {A : Type 0} → List (List A) → List (ℕ × A)
turns lanes = flat_map (λ place. round place lanes) (range_with_len 0 (longest lanes))
