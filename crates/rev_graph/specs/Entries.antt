-- A table of paths: each known path once, with its producer.
use Rattle.std.specs.Prelude.{ℕ, Bool, List, Option, Some, None, is_some, unwrap_or, bytes_eq, if◌then◌else◌}
use Rattle.std.specs.Map.{lookup}

-- what the table has for a path
abbrev pub entry : List (List ℕ × Option ℕ) → List ℕ → Option (Option ℕ)
entry entries path = lookup (bytes_eq path) entries

abbrev pub has_entry : List (List ℕ × Option ℕ) → List ℕ → Bool
has_entry entries path = is_some (entry entries path)

-- the producer of a path, by the table
abbrev pub produced_by : List (List ℕ × Option ℕ) → List ℕ → Option ℕ
produced_by entries path = unwrap_or (entry entries path) None

-- a value where a test holds
abbrev pub given : {A : Type 0} → Bool → A → Option A
given holds x = if holds then Some x else None
