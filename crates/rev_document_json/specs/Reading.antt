-- How a string of JSON is read, and how the bytes of a name or of a text are had back from it.
use Rattle.std.specs.Prelude.{◌≡◌, ℕ, ◌<◌, ◌+◌, ◌-◌, ◌*◌, ◌==◌, ◌||◌, Bool, true, false, nat_lt, if◌then◌else◌, List, [], ◌∷◌, ◌++◌, Option, Some, None}
use Rattle.std.specs.List.{AllByRecursion}
use Rattle.std.specs.Option.{option_map}
use Rattle.rev_document_words.specs.Escape.{name_words, text_words}
use Rattle.rev_document_json.specs.Strings.{is_plain, json_string}

-- JSON
-- a byte before what is read behind it
abbrev pub behind : ℕ → Option (List ℕ × List ℕ) → Option (List ℕ × List ℕ)
behind b read = option_map (λ (r : List ℕ × List ℕ). (b ∷ r.0, r.1)) read

-- What is read up to the closing quote, and what follows it. A backslash stands before a quote or a backslash alone,
-- and every byte is printable ASCII. So this reads a part of JSON, and each reader of JSON reads that part so.
abbrev pub read_inside : Bool → List ℕ → Option (List ℕ × List ℕ)
read_inside slash [] = None
read_inside true (b ∷ bs) = if b == 34 || b == 92 then behind b (read_inside false bs) else None
read_inside false (b ∷ bs) =
    if b == 34 then Some ([], bs)
    else if b == 92 then read_inside true bs
    else if is_plain b then behind b (read_inside false bs) else None

abbrev pub read_string : List ℕ → Option (List ℕ × List ℕ)
read_string [] = None
read_string (b ∷ bs) = if b == 34 then read_inside false bs else None

-- THE BYTES OF A NAME OR A TEXT
-- where a reader stands: behind no backslash, behind one, behind `\x`, and behind `\x` and a digit
pub data State : Type 0 where
  Plain : State
  Slash : State
  Hex : State
  Digit : ℕ → State

abbrev pub digit_value : ℕ → ℕ
digit_value d = if nat_lt d 58 then d - 48 else d - 87

-- the byte of a letter behind a backslash: `s`, `t`, `n`, `r` and the backslash itself
abbrev pub letter_value : ℕ → ℕ
letter_value l =
    if l == 115 then 32 else if l == 116 then 9 else if l == 110 then 10 else if l == 114 then 13 else l

abbrev pub bytes_from : State → List ℕ → List ℕ
bytes_from state [] = []
bytes_from Plain (b ∷ bs) = if b == 92 then bytes_from Slash bs else b ∷ bytes_from Plain bs
bytes_from Slash (b ∷ bs) = if b == 120 then bytes_from Hex bs else letter_value b ∷ bytes_from Plain bs
bytes_from Hex (b ∷ bs) = bytes_from (Digit (digit_value b)) bs
bytes_from (Digit high) (b ∷ bs) = (16 * high + digit_value b) ∷ bytes_from Plain bs

-- the bytes of a name or a text that JSON has as a string, and what follows the string
abbrev pub read_bytes : List ℕ → Option (List ℕ × List ℕ)
read_bytes json = option_map (λ (r : List ℕ × List ℕ). (bytes_from Plain r.0, r.1)) (read_string json)

abbrev pub IsByte : ℕ → Type 0
IsByte b = b < 256

-- each name is had back from its string, whatever its bytes are and whatever follows
abbrev pub NamesAreRead : Type 0
NamesAreRead =
    (name rest : List ℕ) → AllByRecursion IsByte name
    → read_bytes (json_string (name_words name) ++ rest) ≡ Some (name, rest)

-- and so is each text
abbrev pub TextsAreRead : Type 0
TextsAreRead =
    (text rest : List ℕ) → AllByRecursion IsByte text
    → read_bytes (json_string (text_words text) ++ rest) ≡ Some (text, rest)
