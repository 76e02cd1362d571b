-- What a baseline says, line by line.
use Rattle.std.specs.Prelude.{ℕ, ◌==◌, ◌&&◌, Bool, true, not, if◌then◌else◌, List, [], ◌∷◌, drop, map, Option, Some, None, bytes_eq, codes, is_some, nat_eq}
use Rattle.std.specs.Int.{from_be_bytes, w64}
use Rattle.std.specs.List.{filter_map, list_all, slice_split}
use Rattle.std.specs.Option.{option_map}
use Rattle.std.specs.Result.{result_ok}
use Rattle.hex.specs.Hex.{decode_sized}
use Rattle.indexmap.specs.IndexSet.{insert_all}
use Rattle.rev_fields.specs.Lines.{is_blank, lines_of}
use Rattle.rev_filters.specs.Texts.{patterns_of}

-- the words of a line, with a space between each two
abbrev pub words_of : List ℕ → List (List ℕ)
words_of line = slice_split (λ b. b == 32) line

-- the finding that a line knows: its first word has 16 hexadecimal digits, which are a number of eight bytes
abbrev pub id_in : List (List ℕ) → Option ℕ
id_in [] = None
id_in (word ∷ rest) = option_map (from_be_bytes w64) (result_ok (decode_sized word 8))

-- the pattern that a line ignores, as `--ignore *.pyc compiled copies`: a reason has to stand behind it
abbrev pub pattern_in : List (List ℕ) → Option (List ℕ)
pattern_in [] = None
pattern_in (word ∷ []) = None
pattern_in (word ∷ pattern ∷ reason) =
    if bytes_eq word (codes "--ignore") && (not (is_blank pattern) && not (list_all is_blank reason)) then Some pattern
    else None

-- an empty line says nothing, and so does one that begins with `#`
abbrev pub is_remark : List ℕ → Bool
is_remark [] = true
is_remark (b ∷ bs) = b == 35

-- the line is none of those that may stand there
abbrev pub is_odd : List ℕ → Bool
is_odd line =
    not (is_remark line) && (not (is_some (id_in (words_of line))) && not (is_some (pattern_in (words_of line))))

-- the findings that a text knows, each once, and the patterns that it ignores, behind its first line
abbrev pub known_of : List (List ℕ) → List ℕ
known_of lines = insert_all nat_eq [] (filter_map (λ line. id_in (words_of line)) lines)

abbrev pub ignored_of : List (List ℕ) → List (List (List ℕ))
ignored_of lines = map patterns_of (filter_map (λ line. pattern_in (words_of line)) lines)

abbrev pub behind_head : List ℕ → List (List ℕ)
behind_head text = drop 1 (lines_of text)
