-- Strings of JSON.
use Rattle.std.specs.Prelude.{ℕ, Bool, ◌&&◌, ◌==◌, nat_le, nat_lt, if◌then◌else◌, List, [], ◌∷◌, ◌++◌}
use Rattle.std.specs.List.{flat_map}
use Rattle.rev_document_words.specs.Escape.{hex_byte}

-- printable ASCII
abbrev pub is_plain : ℕ → Bool
is_plain b = nat_le 32 b && nat_lt b 127

-- a byte between the quotes: a quote and a backslash behind a backslash, and what is not printable as `\x1b`
abbrev pub inside_byte : ℕ → List ℕ
inside_byte b =
    if b == 34 then 92 ∷ 34 ∷ [] else if b == 92 then 92 ∷ 92 ∷ [] else if is_plain b then b ∷ [] else 92 ∷ hex_byte b

abbrev pub inside : List ℕ → List ℕ
inside words = flat_map inside_byte words

abbrev pub json_string : List ℕ → List ℕ
json_string words = 34 ∷ inside words ++ 34 ∷ []
