-- Lines: what one says by itself, and what all lines of a text say.
use Rattle.std.specs.Prelude.{ℕ, ◌==◌, Bool, true, false, ◌||◌, if◌then◌else◌, nat_lt, List, [], ◌∷◌, length, Option, Some, None, Result, Ok, Err}
use Rattle.std.specs.Result.{result_ok, result_err}
use Rattle.std.specs.List.{slice_split, filter_map}
use Rattle.rev_paths.specs.Canonical.{canonical}
use Rattle.rev_fields.specs.declared.faults.FaultKind.{FaultKind}
use Rattle.rev_fields.specs.declared.faults.FaultKind.TheVariants.{Syntax}
use Rattle.rev_fields.specs.Faults.{each_of}
use Rattle.rev_paths.specs.declared.name.TheConstants.Name.{MAX_BYTES}

-- the lines of a text, each ended by LF or by the text's end
abbrev pub lines_of : List ℕ → List (List ℕ)
lines_of text = slice_split (λ b. b == 10) text

abbrev pub is_blank : List ℕ → Bool
is_blank [] = true
is_blank (b ∷ bs) = false

-- a path, in canonical form: it has 1 to 4,096 bytes as it is given
abbrev pub path_of : List ℕ → Result (List ℕ) FaultKind
path_of text = if is_blank text || nat_lt MAX_BYTES (length text) then Err Syntax else Ok (canonical text)

-- paths, each in canonical form
abbrev pub paths_of : List (List ℕ) → Result (List (List ℕ)) FaultKind
paths_of texts = each_of path_of texts

-- what a line says, by what the texts of its fields say
abbrev pub read_as : {T : Type 0} → (List (List ℕ) → Result T FaultKind) → Option (List (List ℕ)) → Result T FaultKind
read_as said None = Err Syntax
read_as said (Some texts) = said texts

-- what is wrong with a line that has to be empty or to say something
abbrev pub wrong_by : {T : Type 0} → (List ℕ → Result T FaultKind) → List ℕ → Option FaultKind
wrong_by said line = if is_blank line then None else result_err (said line)

-- what the lines say that say something
abbrev pub said_by : {T : Type 0} → (List ℕ → Result T FaultKind) → List (List ℕ) → List T
said_by said lines = filter_map (λ line. result_ok (said line)) lines
