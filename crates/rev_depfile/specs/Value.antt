-- What a depfile says: its prerequisites, or its first fault.
use Rattle.std.specs.Prelude.{ℕ, nat_lt, Bool, not, ◌&&◌, List, [], ◌∷◌, map, length, bytes_eq, Option, Some, None, if◌then◌else◌}
use Rattle.std.specs.List.{list_any, flat_map}
use Rattle.std.specs.Option.{option_or}
use Rattle.rev_paths.specs.Canonical.{canonical}
pub use Rattle.rev_paths.specs.Mentions.{first_mentions}
use Rattle.rev_depfile.specs.declared.fault.DepfileFault.{DepfileFault}
use Rattle.rev_depfile.specs.declared.fault.DepfileFault.TheVariants.{NoColon, OtherTarget, LongPath}
use Rattle.rev_depfile.specs.declared.sign.Sign.{Sign}
use Rattle.rev_depfile.specs.Lines.{lines, words, before_colon, from_colon, word_text, word_at}
use Rattle.rev_paths.specs.declared.name.TheConstants.Name.{MAX_BYTES}

-- a path with more than 4,096 bytes as it is written
abbrev pub is_long : List Sign → Bool
is_long word = nat_lt MAX_BYTES (length (word_text word))

-- the canonical path of a word
abbrev pub path_of : List Sign → List ℕ
path_of word = canonical (word_text word)

-- A target is an output where its canonical path is one of them. A target that is too long is none.
abbrev pub is_output : List (List ℕ) → List Sign → Bool
is_output outputs word = not (is_long word) && list_any (bytes_eq (path_of word)) outputs

-- A line with words and no separating colon is a fault at its first word.
abbrev pub colon_fault : List (List Sign) → Option DepfileFault
colon_fault [] = None
colon_fault (word ∷ ws) = Some (NoColon (word_at word))

-- A prerequisite that is too long is a fault at its first byte.
abbrev pub long_fault : List (List Sign) → Option DepfileFault
long_fault [] = None
long_fault (word ∷ ws) = if is_long word then Some (LongPath (word_at word)) else long_fault ws

-- where a line begins: at its first target, or at its colon where no target stands
abbrev pub line_at : List (List Sign) → Sign → ℕ
line_at [] colon = colon.at
line_at (word ∷ ws) colon = word_at word

-- A line without prerequisites has no fault. In another, some target must be an output, and then no prerequisite may be
-- too long.
abbrev pub rule_fault : List (List ℕ) → List (List Sign) → Sign → List (List Sign) → Option DepfileFault
rule_fault outputs targets colon [] = None
rule_fault outputs targets colon (w ∷ ws) =
    if list_any (is_output outputs) targets then long_fault (w ∷ ws) else Some (OtherTarget (line_at targets colon))

-- the fault of a line, by the words before its separating colon and by that colon with what follows
abbrev pub fault_by : List (List ℕ) → List (List Sign) → List Sign → Option DepfileFault
fault_by outputs targets [] = colon_fault targets
fault_by outputs targets (colon ∷ rest) = rule_fault outputs targets colon (words rest)

-- The targets of a line are the words before its separating colon, its prerequisites are those after.
abbrev pub line_fault : List (List ℕ) → List Sign → Option DepfileFault
line_fault outputs line = fault_by outputs (words (before_colon line)) (from_colon line)

-- the prerequisites behind a separating colon
abbrev pub paths_by : List Sign → List (List ℕ)
paths_by [] = []
paths_by (colon ∷ rest) = map path_of (words rest)

-- The paths of a line are those of its prerequisites.
abbrev pub line_paths : List Sign → List (List ℕ)
line_paths line = paths_by (from_colon line)

-- The first fault of lines is that of the first line that has one.
abbrev pub first_fault_in : List (List ℕ) → List (List Sign) → Option DepfileFault
first_fault_in outputs [] = None
first_fault_in outputs (line ∷ ls) = option_or (line_fault outputs line) (first_fault_in outputs ls)

-- The first fault of a text for an edge with these outputs is that of its lines.
abbrev pub first_fault : List (List ℕ) → List ℕ → Option DepfileFault
first_fault outputs text = first_fault_in outputs (lines text)

-- The prerequisites of a text are those of all its lines, each at its first mention.
abbrev pub prerequisites : List ℕ → List (List ℕ)
prerequisites text = first_mentions (flat_map line_paths (lines text))
