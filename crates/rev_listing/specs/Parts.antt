-- Paths that may be missing.
use Rattle.std.specs.Prelude.{ℕ, List, [], Option, Some, None}

-- the bytes of a path, none where there is no path
abbrev pub path_bytes : Option (List ℕ) → List ℕ
path_bytes None = []
path_bytes (Some path) = path
