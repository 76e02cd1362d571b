-- How names and words stand in XML: the five bytes that XML takes for its own by their references.
use Rattle.std.specs.Prelude.{◌≢◌, ◌<◌, ℕ, ◌==◌, ◌||◌, if◌then◌else◌, List, [], ◌∷◌, ◌++◌, codes}
use Rattle.std.specs.List.{AllByRecursion, flat_map}
use Rattle.rev_shown.specs.Shown.{shown, shown_byte}

-- a byte: `&`, `<`, `>` and both quotes by a reference, every other as `shown_byte` has it, by visible ASCII alone
abbrev pub escaped_byte : ℕ → List ℕ
escaped_byte b =
    if b == 38 then codes "&amp;" else
    if b == 60 then codes "&lt;" else
    if b == 62 then codes "&gt;" else
    if b == 34 then codes "&quot;" else
    if b == 39 then codes "&apos;" else shown_byte b

abbrev pub escaped : List ℕ → List ℕ
escaped name = flat_map escaped_byte name

-- Words in which names stand as they are shown already: a space and a backslash stay.
abbrev pub word_byte : (ℕ → List ℕ) → ℕ → List ℕ
word_byte other b = if b == 32 || b == 92 then b ∷ [] else other b

abbrev pub escaped_words : List ℕ → List ℕ
escaped_words words = flat_map (word_byte escaped_byte) words

-- WHAT A READER OF XML MAKES OF IT
-- A letter stands for itself: printable ASCII without the five bytes of XML.
pub record IsLetter (b : ℕ) : Type 0 where
  pub printable : 31 < b
  pub ascii : b < 127
  pub no_ampersand : b ≢ 38
  pub no_less : b ≢ 60
  pub no_greater : b ≢ 62
  pub no_quote : b ≢ 34
  pub no_apostrophe : b ≢ 39

-- A text reads as a value: letter by letter, and each of five references as its byte. There is no other rule, so a text
-- that reads as anything has no tag in it, no end of a quoted value and no control byte.
pub data Reads : List ℕ → List ℕ → Type 0 where
  nothing : Reads [] []
  letter : (b : ℕ) (text value : List ℕ) → IsLetter b → Reads text value → Reads (b ∷ text) (b ∷ value)
  ampersand : (text value : List ℕ) → Reads text value → Reads (codes "&amp;" ++ text) (38 ∷ value)
  less : (text value : List ℕ) → Reads text value → Reads (codes "&lt;" ++ text) (60 ∷ value)
  greater : (text value : List ℕ) → Reads text value → Reads (codes "&gt;" ++ text) (62 ∷ value)
  quote : (text value : List ℕ) → Reads text value → Reads (codes "&quot;" ++ text) (34 ∷ value)
  apostrophe : (text value : List ℕ) → Reads text value → Reads (codes "&apos;" ++ text) (39 ∷ value)

abbrev pub IsByte : ℕ → Type 0
IsByte b = b < 256

-- every name reads as it is shown to people
abbrev pub NamesAreRead : Type 0
NamesAreRead = (name : List ℕ) → AllByRecursion IsByte name → Reads (escaped name) (shown name)

-- words read as they are, but for bytes that are no printable ASCII
abbrev pub WordsAreRead : Type 0
WordsAreRead =
    (words : List ℕ) → AllByRecursion IsByte words → Reads (escaped_words words) (flat_map (word_byte shown_byte) words)
