-- Fields, the parts of a line between single spaces. A field writes a text: each byte as it is, but for five bytes that
-- are written as a backslash and a letter, and but for the empty text, which is written as a backslash and a `0`.
use Rattle.std.specs.Prelude.{ℕ, ◌==◌, if◌then◌else◌, bytes_eq, List, [], ◌∷◌, ◌++◌, Option, Some, None}
use Rattle.std.specs.Option.{option_map, is_some}
use Rattle.std.specs.List.{slice_split, flat_map}

-- the letter for a byte that does not stand for itself: space `s`, tab `t`, LF `n`, CR `r`, backslash `\`
abbrev pub letter_of : ℕ → Option ℕ
letter_of b =
    if b == 32 then Some 115
    else (if b == 9 then Some 116
    else (if b == 10 then Some 110 else (if b == 13 then Some 114 else (if b == 92 then Some 92 else None))))

-- the byte that a letter after a backslash stands for
abbrev pub byte_of : ℕ → Option ℕ
byte_of l =
    if l == 115 then Some 32
    else (if l == 116 then Some 9
    else (if l == 110 then Some 10 else (if l == 114 then Some 13 else (if l == 92 then Some 92 else None))))

-- a byte as it stands in a field, by its letter if it has one
abbrev pub written_as : ℕ → Option ℕ → List ℕ
written_as b None = b ∷ []
written_as b (Some l) = 92 ∷ l ∷ []

-- a byte as it stands in a field
abbrev pub written_byte : ℕ → List ℕ
written_byte b = written_as b (letter_of b)

-- the field that writes the empty text
abbrev pub empty_field : List ℕ
empty_field = 92 ∷ 48 ∷ []

-- the field that writes a text
abbrev pub field_text : List ℕ → List ℕ
field_text [] = empty_field
field_text (b ∷ bs) = flat_map written_byte (b ∷ bs)

-- a byte before a text, where there are both
abbrev pub before_text : Option ℕ → Option (List ℕ) → Option (List ℕ)
before_text None text = None
before_text (Some b) text = option_map (λ bs. b ∷ bs) text

-- the text that the bytes of a field write, but for the field of the empty text
abbrev pub unescaped : List ℕ → Option (List ℕ)
unescaped [] = Some []
unescaped (b ∷ []) = if is_some (letter_of b) then None else Some (b ∷ [])
unescaped (b ∷ c ∷ bs) =
    if b == 92 then before_text (byte_of c) (unescaped bs)
    else (if is_some (letter_of b) then None else before_text (Some b) (unescaped (c ∷ bs)))

-- the text that a field writes, if it writes one
abbrev pub text_of : List ℕ → Option (List ℕ)
text_of [] = None
text_of (b ∷ bs) = if bytes_eq (b ∷ bs) empty_field then Some [] else unescaped (b ∷ bs)

-- a text before others, where there are all of them
abbrev pub before_texts : Option (List ℕ) → Option (List (List ℕ)) → Option (List (List ℕ))
before_texts None texts = None
before_texts (Some t) texts = option_map (λ ts. t ∷ ts) texts

-- all of the texts, if each field writes one
abbrev pub all_texts : List (List ℕ) → Option (List (List ℕ))
all_texts [] = Some []
all_texts (field ∷ fields) = before_texts (text_of field) (all_texts fields)

-- the texts of a line's fields, if it is made of fields
abbrev pub texts_of : List ℕ → Option (List (List ℕ))
texts_of line = all_texts (slice_split (λ b. b == 32) line)

-- a field as it follows another
abbrev pub spaced : List ℕ → List ℕ
spaced field = 32 ∷ field

-- a line of fields, with one space between each two
abbrev pub line_of : List (List ℕ) → List ℕ
line_of [] = []
line_of (field ∷ fields) = field ++ flat_map spaced fields
