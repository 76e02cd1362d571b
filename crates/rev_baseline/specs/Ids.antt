-- Stable names of findings.
use Rattle.std.specs.Prelude.{ℕ, List, [], ◌∷◌, ◌++◌}
use Rattle.std.specs.Int.{from_be_bytes, w64}
use Rattle.sha2.specs.Sha256.{sha256}

-- the kind, the path, and the names of maker and user, with a zero between each two
abbrev pub parts_of : List ℕ → List ℕ → List ℕ → List ℕ → List ℕ
parts_of kind path maker user = (((((kind ++ 0 ∷ []) ++ path) ++ 0 ∷ []) ++ maker) ++ 0 ∷ []) ++ user

-- the first eight bytes of the SHA-256 of these, as a number: the others do not count for it
abbrev pub id_of : List ℕ → List ℕ → List ℕ → List ℕ → ℕ
id_of kind path maker user = from_be_bytes w64 (sha256 (parts_of kind path maker user))
