-- How a name stands in what people read: bytes that a terminal could take for more than a letter are written out.
use Rattle.std.specs.Prelude.{ℕ, Bool, ◌&&◌, ◌==◌, ◌+◌, ◌/◌, ◌%◌, nat_lt, if◌then◌else◌, List, [], ◌∷◌, ◌++◌, Option, Some, None}
use Rattle.std.specs.List.{flat_map}
use Rattle.rev_fields.specs.Fields.{letter_of}

-- a visible ASCII byte
abbrev pub is_visible : ℕ → Bool
is_visible b = nat_lt 32 b && nat_lt b 127

-- a digit of a number to the base 16, `0` to `9` and `a` to `f`
abbrev pub hex_digit : ℕ → ℕ
hex_digit n = if nat_lt n 10 then 48 + n else 87 + n

-- `\x` and both digits of a byte
abbrev pub hex_byte : ℕ → List ℕ
hex_byte b = 92 ∷ 120 ∷ hex_digit (b / 16) ∷ hex_digit (b % 16) ∷ []

-- a byte that has no letter: as it is where it is visible
abbrev pub shown_by : ℕ → Option ℕ → List ℕ
shown_by b None = if is_visible b then b ∷ [] else hex_byte b
shown_by b (Some letter) = 92 ∷ letter ∷ []

-- a byte: by its letter where fields have one for it, as `\s` for a space
abbrev pub shown_byte : ℕ → List ℕ
shown_byte b = shown_by b (letter_of b)

abbrev pub shown : List ℕ → List ℕ
shown name = flat_map shown_byte name
