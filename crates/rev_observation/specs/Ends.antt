-- The last line of a whole observation.
use Rattle.std.specs.Prelude.{ℕ, ◌-◌, ◌∷◌, ◌++◌, Bool, bytes_eq, codes, decimal, get_or, length, take, List, []}
use Rattle.std.specs.List.{flat_map}
use Rattle.hex.specs.Hex.{encode_lower}
use Rattle.sha2.specs.Sha256.{sha256}
use Rattle.rev_fields.specs.Fields.{spaced}
use Rattle.rev_observation.specs.Observations.{ObservationValue}

-- a line and the LF at its end
abbrev pub ended : List ℕ → List ℕ
ended line = line ++ 10 ∷ []

-- the 64 digits of the SHA-256 of lines, each with the LF at its end
abbrev pub sum_of : List (List ℕ) → List ℕ
sum_of lines = encode_lower (sha256 (flat_map ended lines))

-- `end PATHS EDGES LINES SUM`, as it has to stand behind such lines
abbrev pub end_line : ObservationValue → List (List ℕ) → List ℕ
end_line o before =
    codes "end" ++ spaced (decimal (length o.entries.paths)) ++ spaced (decimal (length o.commands))
    ++ spaced (decimal (length before)) ++ spaced (sum_of before)

-- Whether the last of lines, one at least, is the one that has to stand behind those before it.
abbrev pub is_complete : ObservationValue → List (List ℕ) → Bool
is_complete o lines =
    bytes_eq (end_line o (take (length lines - 1) lines)) (get_or lines (length lines - 1) [])
