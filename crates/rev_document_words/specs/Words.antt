-- A document as words: the words of its parts, one after another.
use Rattle.std.specs.Prelude.{ℕ, Bool, not, ◌&&◌, ◌||◌, ◌==◌, if◌then◌else◌, List, [], ◌∷◌, ◌++◌, codes, decimal}
use Rattle.std.specs.List.{flat_map}
use Rattle.rev_document.specs.declared.part.Part.{Part}
use Rattle.rev_document.specs.declared.part.Tone.{Tone}
use Rattle.rev_document.specs.declared.part.Tone.TheVariants as tone
use Rattle.rev_document.specs.declared.part.Value.{Value}
use Rattle.rev_document.specs.declared.part.Value.TheVariants as value
use Rattle.rev_document_words.specs.Escape.{name_words, text_words}
use Rattle.rev_document_words.specs.declared.look.Look.{Look}

-- a noun behind a number of things: with an `s`, except behind 1
abbrev pub counted : ℕ → List ℕ → List ℕ
counted count noun = decimal count ++ codes " " ++ noun ++ (if count == 1 then [] else codes "s")

-- a line of a file
abbrev pub place_words : List ℕ → ℕ → List ℕ
place_words file line = name_words file ++ codes ":" ++ decimal line

-- a part without colours, on a screen that has room for all
abbrev pub plain_words : Value → List ℕ
plain_words (value.Words words) = words.now
plain_words (value.Text text) = text_words text
plain_words (value.Name name) = name_words name
plain_words (value.Number number) = decimal number
plain_words (value.Event number) = decimal number
plain_words (value.Time time) = decimal time ++ codes " ms"
plain_words (value.Count count noun) = counted count noun.now
plain_words (value.Place file line) = place_words file line
plain_words (value.Flag flag) = []
plain_words value.Null = []
plain_words (value.Open shape) = []
plain_words (value.Close shape) = []
plain_words value.Line = 10 ∷ []
plain_words (value.Paint tone) = []
plain_words (value.Rest before left after) = []

-- the escape sequence of a tone
abbrev pub tone_codes : Tone → List ℕ
tone_codes tone.Plain = 27 ∷ codes "[0m"
tone_codes tone.Wrong = 27 ∷ codes "[1;31m"
tone_codes tone.Maybe = 27 ∷ codes "[33m"
tone_codes tone.Well = 27 ∷ codes "[32m"
tone_codes tone.Certain = 27 ∷ codes "[1;32m"
tone_codes tone.Number = 27 ∷ codes "[1m"
tone_codes tone.Place = 27 ∷ codes "[36m"

-- the line that says how many details are left out, where some are
abbrev pub rest_words : List ℕ → ℕ → List ℕ → List ℕ
rest_words before left after = if left == 0 then [] else before ++ decimal left ++ after ++ 10 ∷ []

-- words in a tone, where colours are wanted
abbrev pub painted : Look → Tone → List ℕ → List ℕ
painted look t words = if look.is_coloured then tone_codes t ++ words ++ tone_codes tone.Plain else words

-- A part with a look: tones are for colours alone, and the number of details is for a screen that leaves these out.
abbrev pub value_words : Look → Value → List ℕ
value_words look (value.Paint tone) = if look.is_coloured then tone_codes tone else []
value_words look (value.Rest before left after) = if look.is_all then [] else rest_words before.now left after.now
value_words look (value.Words words) = plain_words (value.Words words)
value_words look (value.Text text) = plain_words (value.Text text)
value_words look (value.Name name) = plain_words (value.Name name)
value_words look (value.Number number) = plain_words (value.Number number)
value_words look (value.Event number) = plain_words (value.Event number)
value_words look (value.Time time) = plain_words (value.Time time)
value_words look (value.Count count noun) = plain_words (value.Count count noun)
value_words look (value.Place file line) = painted look tone.Place (place_words file line)
value_words look (value.Flag flag) = []
value_words look value.Null = []
value_words look (value.Open shape) = []
value_words look (value.Close shape) = []
value_words look value.Line = plain_words value.Line

-- a part that words have, and that is no detail of those that a screen leaves out
abbrev pub is_shown : Look → Part → Bool
is_shown look part = part.is_said && (look.is_all || not part.is_detail)

abbrev pub part_words : Look → Part → List ℕ
part_words look part = if is_shown look part then value_words look part.value else []

abbrev pub document_words : Look → List Part → List ℕ
document_words look parts = flat_map (part_words look) parts
