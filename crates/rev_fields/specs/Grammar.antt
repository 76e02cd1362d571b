-- What texts, lines and numbers are made of: the grammar below the words, as relations of bytes and values.
use Rattle.std.specs.Prelude.{◌≡◌, ◌↔◌, ℕ, ◌<◌, ◌≤◌, ◌^◌, ◌==◌, Bool, true, not, decimal, map, List, [], ◌∷◌, ◌++◌, Some, Ok}
use Rattle.std.specs.List.{AllByRecursion, list_any, slice_split}
use Rattle.rev_fields.specs.Fields.{field_text, texts_of}
use Rattle.rev_fields.specs.Numbers.{number_below, numbers_below}

-- whether a byte is not among others
abbrev pub lacks : ℕ → List ℕ → Bool
lacks mark bytes = not (list_any (λ b. b == mark) bytes)

-- Bytes are these parts: a certain byte stands between each two, and in none of them. There is one part at least.
pub data AreParts : ℕ → List ℕ → List (List ℕ) → Type 0 where
  LastPart : {mark : ℕ} {part : List ℕ} → lacks mark part ≡ true → AreParts mark part (part ∷ [])
  OnePart : {mark : ℕ} {part bytes : List ℕ} {parts : List (List ℕ)} → lacks mark part ≡ true
      → AreParts mark bytes parts
      → AreParts mark (part ++ mark ∷ bytes) (part ∷ parts)

-- A text is these lines, with LF between each two. Behind an LF at the end stands one more line, which is empty.
abbrev pub AreLines : List ℕ → List (List ℕ) → Type 0
AreLines text lines = AreParts 10 text lines

-- a line is fields that write these texts, with one space between each two
abbrev pub IsLine : List ℕ → List (List ℕ) → Type 0
IsLine line texts = AreParts 32 line (map field_text texts)

-- a text is a number below the limit: its decimal digits, with no zero in front of others
abbrev pub IsNumber : ℕ → List ℕ → ℕ → Type 0
IsNumber limit text n = (text ≡ decimal n) × (n < limit)

-- a text is numbers below the limit, with a comma between each two
abbrev pub AreNumbers : ℕ → List ℕ → List ℕ → Type 0
AreNumbers limit text ns = AreParts 44 text (map decimal ns) × AllByRecursion (λ n. n < limit) ns

-- bytes have certain parts exactly where they are these
abbrev pub PartsAreCut : Type 0
PartsAreCut =
    (mark : ℕ) (bytes : List ℕ) (parts : List (List ℕ))
    → (slice_split (λ b. b == mark) bytes ≡ parts) ↔ AreParts mark bytes parts

-- a line is read as certain texts exactly where it is fields that write these
abbrev pub FieldsAreRead : Type 0
FieldsAreRead = (line : List ℕ) (texts : List (List ℕ)) → (texts_of line ≡ Some texts) ↔ IsLine line texts

-- a text is read as a number exactly where it is the digits of that number
abbrev pub DigitsAreRead : Type 0
DigitsAreRead =
    (limit : ℕ) (text : List ℕ) (n : ℕ) → limit ≤ 2 ^ 64 → (number_below limit text ≡ Ok n) ↔ IsNumber limit text n

-- and as numbers exactly where it is their digits with commas between them
abbrev pub DigitListsAreRead : Type 0
DigitListsAreRead =
    (limit : ℕ) (text ns : List ℕ) → limit ≤ 2 ^ 64 → (numbers_below limit text ≡ Ok ns) ↔ AreNumbers limit text ns
