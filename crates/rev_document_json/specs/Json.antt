-- A document as JSON: an object a line.
use Rattle.std.specs.Prelude.{ℕ, Bool, true, false, if◌then◌else◌, List, [], ◌∷◌, ◌++◌, codes, decimal}
use Rattle.std.specs.List.{flat_map}
use Rattle.rev_document.specs.declared.level.Shape.{Shape}
use Rattle.rev_document.specs.declared.level.Shape.TheVariants as shape
use Rattle.rev_document.specs.declared.part.Part.{Part}
use Rattle.rev_document.specs.declared.part.Place.{Place}
use Rattle.rev_document.specs.declared.part.Place.TheVariants as place
use Rattle.rev_document.specs.declared.part.Value.{Value}
use Rattle.rev_document.specs.declared.part.Value.TheVariants as value
use Rattle.rev_document_words.specs.Words.{plain_words}
use Rattle.rev_document_json.specs.Strings.{inside, json_string}

-- the beginning and the end of a group
abbrev pub begin : Shape → List ℕ
begin shape.Top = []
begin shape.Object = codes "{"
begin shape.List = codes "["
begin shape.Phrase = codes "\""

abbrev pub end_of : Shape → List ℕ
end_of shape.Top = []
end_of shape.Object = codes "}"
end_of shape.List = codes "]"
end_of shape.Phrase = codes "\""

-- a value: numbers and truths as such, groups by their ends, and all else as a string of its words
abbrev pub value_json : Value → List ℕ
value_json (value.Number number) = decimal number
value_json (value.Event number) = decimal number
value_json (value.Time time) = decimal time
value_json (value.Count count noun) = decimal count
value_json (value.Flag flag) = if flag then codes "true" else codes "false"
value_json value.Null = codes "null"
value_json (value.Open s) = begin s
value_json (value.Close s) = end_of s
value_json (value.Words words) = json_string (plain_words (value.Words words))
value_json (value.Text text) = json_string (plain_words (value.Text text))
value_json (value.Name name) = json_string (plain_words (value.Name name))
value_json (value.Place file line) = json_string (plain_words (value.Place file line))
value_json value.Line = json_string (plain_words value.Line)
value_json (value.Paint tone) = json_string (plain_words (value.Paint tone))
value_json (value.Rest before left after) = json_string (plain_words (value.Rest before left after))

-- a comma, except before the first of a group
abbrev pub comma : Bool → List ℕ
comma first = if first then [] else codes ","

-- a value at its place
abbrev pub placed : Place → Value → List ℕ
placed place.Nowhere v = []
placed place.Top v = value_json v
placed (place.Member name first) v = comma first ++ json_string name.now ++ codes ":" ++ value_json v
placed (place.Element first) v = comma first ++ value_json v
placed place.Inside v = inside (plain_words v)
placed place.End v = value_json v
placed place.LineEnd v = value_json v ++ codes "\n"

abbrev pub part_json : Part → List ℕ
part_json part = placed part.place part.value

abbrev pub document_json : List Part → List ℕ
document_json parts = flat_map part_json parts
