-- How names and texts from outside stand in words: bytes that a terminal could take for more than a letter are written
-- out.
use Rattle.std.specs.Prelude.{ℕ, Bool, ◌&&◌, ◌==◌, ◌+◌, ◌/◌, ◌%◌, nat_lt, if◌then◌else◌, List, [], ◌∷◌, Option, Some, None}
use Rattle.std.specs.List.{flat_map}
use Rattle.rev_fields.specs.Fields.{letter_of}

-- a visible ASCII byte
abbrev pub is_visible : ℕ → Bool
is_visible b = nat_lt 32 b && nat_lt b 127

-- a digit of a number to the base 16, `0` to `9` and `a` to `f`
abbrev pub hex_digit : ℕ → ℕ
hex_digit n = if nat_lt n 10 then 48 + n else 87 + n

-- `\x` and both digits of a byte
abbrev pub hex_byte : ℕ → List ℕ
hex_byte b = 92 ∷ 120 ∷ hex_digit (b / 16) ∷ hex_digit (b % 16) ∷ []

-- a byte that has no letter: as it is where it is visible
abbrev pub name_by : ℕ → Option ℕ → List ℕ
name_by b None = if is_visible b then b ∷ [] else hex_byte b
name_by b (Some letter) = 92 ∷ letter ∷ []

-- a byte of a name: by its letter where there is one, as `\s` for a space
abbrev pub name_byte : ℕ → List ℕ
name_byte b = name_by b (letter_of b)

-- a byte of a text: a space stays a space
abbrev pub text_byte : ℕ → List ℕ
text_byte b = if b == 32 then 32 ∷ [] else name_byte b

abbrev pub name_words : List ℕ → List ℕ
name_words name = flat_map name_byte name

abbrev pub text_words : List ℕ → List ℕ
text_words text = flat_map text_byte text
