-- What is written is read again.
use Rattle.std.specs.Prelude.{◌≡◌, ℕ, ◌<◌, ◌≤◌, ◌^◌, List, length, map, decimal, All, Some, Ok}
use Rattle.rev_fields.specs.Fields.{field_text, text_of, texts_of, line_of}
use Rattle.rev_fields.specs.Numbers.{number_below, numbers_below, numbers_text}

-- a line of fields is read as the texts that were written
abbrev pub LinesAreRead : Type 0
LinesAreRead = (texts : List (List ℕ)) → 0 < length texts → texts_of (line_of (map field_text texts)) ≡ Some texts

-- a field that writes a text is the only one that writes it
abbrev pub OneField : Type 0
OneField = (field text : List ℕ) → text_of field ≡ Some text → field_text text ≡ field

-- a number in decimal digits is read as that number
abbrev pub NumbersAreRead : Type 0
NumbersAreRead = (limit n : ℕ) → limit ≤ 2 ^ 64 → n < limit → number_below limit (decimal n) ≡ Ok n

-- and so are numbers with commas between them, where there are any
abbrev pub NumberListsAreRead : Type 0
NumberListsAreRead =
    (limit : ℕ) (ns : List ℕ) → limit ≤ 2 ^ 64 → 0 < length ns → All (λ n. n < limit) ns
    → numbers_below limit (numbers_text ns) ≡ Ok ns
