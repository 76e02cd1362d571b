-- How text stands at a terminal: bytes that a terminal could take for more than a letter are written out.
use Rattle.std.specs.Prelude.{ℕ, Bool, ◌&&◌, ◌||◌, ◌==◌, ◌+◌, ◌/◌, ◌%◌, nat_lt, if◌then◌else◌, List, [], ◌∷◌}

-- the end of a line, a space, or a visible ASCII byte
abbrev pub is_harmless : ℕ → Bool
is_harmless b = b == 10 || (nat_lt 31 b && nat_lt b 127)

-- a digit of a number to the base 16, `0` to `9` and `a` to `f`
abbrev pub hex_digit : ℕ → ℕ
hex_digit n = if nat_lt n 10 then 48 + n else 87 + n

-- a byte: as it is where it is harmless, and else as `\x` and both digits
abbrev pub visible_byte : ℕ → List ℕ
visible_byte b = if is_harmless b then b ∷ [] else 92 ∷ 120 ∷ hex_digit (b / 16) ∷ hex_digit (b % 16) ∷ []
