-- The lines of a manifest.
use Rattle.std.specs.Prelude.{ℕ, suc, Bool, true, false, ◌||◌, ◌==◌, List, [], ◌∷◌, ◌++◌, if◌then◌else◌}
use Rattle.std.specs.List.{slice_split}
use Rattle.rev_syntax.specs.Bytes.{is_byte, without_spaces, is_empty, begins_with}

-- a line as the grammar sees it, after joining
pub record LineValue : Type 0 where
  -- the number of its first line in the file, from 1
  pub number : ℕ
  pub text : List ℕ
  -- whether it ends: the last line of a file does not where it has a `$` alone at its end
  pub ended : Bool

-- a text without the CR at its end, if there is one
abbrev pub without_return : List ℕ → List ℕ
without_return [] = []
without_return (b ∷ []) = if b == 13 then [] else b ∷ []
without_return (b ∷ c ∷ cs) = b ∷ without_return (c ∷ cs)

-- of the pieces round the line feeds each ends in a line feed but the last, which is a line only where it has a byte
abbrev pub lines_of_pieces : List (List ℕ) → List (List ℕ)
lines_of_pieces [] = []
lines_of_pieces (piece ∷ []) = if is_empty piece then [] else piece ∷ []
lines_of_pieces (piece ∷ next ∷ more) = without_return piece ∷ lines_of_pieces (next ∷ more)

-- the lines as they stand in the file: it is split at its line feeds, and one CR before a line feed goes with it
abbrev pub file_lines : List ℕ → List (List ℕ)
file_lines content = lines_of_pieces (slice_split (is_byte 10) content)

-- a line of spaces alone, or whose first byte after spaces is `#`
abbrev pub is_dropped : List ℕ → Bool
is_dropped line = is_empty (without_spaces line) || begins_with 35 (without_spaces line)

-- whether a line ends in a `$` that no `$` before it takes along: each `$` takes the byte after it along
abbrev pub ends_alone : List ℕ → Bool
ends_alone [] = false
ends_alone (b ∷ []) = b == 36
ends_alone (b ∷ c ∷ cs) = if b == 36 then ends_alone cs else ends_alone (c ∷ cs)

abbrev pub without_last : List ℕ → List ℕ
without_last [] = []
without_last (b ∷ []) = []
without_last (b ∷ c ∷ cs) = b ∷ without_last (c ∷ cs)

-- a text before the first of these lines, which takes its number
abbrev pub before_first : ℕ → List ℕ → List LineValue → List LineValue
before_first number text [] = record { number = number; text = text; ended = false } ∷ []
before_first number text (line ∷ lines) = record { number = number; text = text ++ line.text; ended = line.ended } ∷ lines

-- a line that ends in a `$` alone is joined with what follows, and the `$` goes
abbrev pub joined : ℕ → List ℕ → List LineValue → List LineValue
joined number text lines =
    if ends_alone text then before_first number (without_last text) lines else record { number = number; text = text; ended = true } ∷ lines

-- the lines from the one of that number on, the first of which continues a line or not.
-- One that continues loses its leading spaces, and is never dropped.
abbrev pub lines_from : Bool → ℕ → List (List ℕ) → List LineValue
lines_from false number [] = []
lines_from true number [] = record { number = number; text = []; ended = false } ∷ []
lines_from false number (line ∷ lines) =
    if is_dropped line then lines_from false (suc number) lines
    else joined number line (lines_from (ends_alone line) (suc number) lines)
lines_from true number (line ∷ lines) =
    joined number (without_spaces line) (lines_from (ends_alone (without_spaces line)) (suc number) lines)

-- the lines of a file, joined and numbered
abbrev pub lines_of : List ℕ → List LineValue
lines_of content = lines_from false 1 (file_lines content)
