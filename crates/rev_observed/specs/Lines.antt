-- What one more line adds to what the lines before it say. Of one line a fault of syntax counts first, then one of a
-- number, then numbers that are no paths' or do not rise, and last a path or an edge that has its line already. A line
-- that may not stand at its place is a fault of syntax, whatever else is wrong with it.
use Rattle.std.specs.Prelude.{ℕ, ◌^◌, ◌&&◌, length, bytes_eq, codes, is_none, if◌then◌else◌, Bool, true, false, List, [], ◌∷◌, Option, Some, None, Result, Ok, Err}
use Rattle.rev_fields.specs.Fields.{texts_of}
use Rattle.rev_fields.specs.Lines.{path_of}
use Rattle.rev_fields.specs.Numbers.{number_below}
use Rattle.rev_observed.specs.declared.faults.FaultKind.{FaultKind}
use Rattle.rev_observed.specs.declared.faults.FaultKind.TheVariants.{Syntax, Range}
use Rattle.rev_observed.specs.declared.kind.Kind.{Kind}
use Rattle.rev_observed.specs.declared.path_set.PathRange.{PathRange}
use Rattle.rev_observed.specs.declared.word.Word.{Word}
use Rattle.rev_observed.specs.declared.word.Word.TheVariants as word
use Rattle.rev_observed.specs.CommandValues.{CommandValue, may_take, with_outside, with_uses}
use Rattle.rev_observed.specs.Faults.{◌>>=◌, of_fields}
use Rattle.rev_observed.specs.Observations.{ObservationValue, command_put, last_of, path_put, with_commands, with_last}
use Rattle.rev_observed.specs.PathSets.{are_rising}
use Rattle.rev_observed.specs.Ranges.{ranges_of}
use Rattle.rev_observed.specs.Within.{are_within}
use Rattle.rev_observed.specs.Words.{flags_said, word_of}

abbrev pub or_syntax : {T : Type 0} → Option T → Result T FaultKind
or_syntax None = Err Syntax
or_syntax (Some said) = Ok said

abbrev pub is_empty : List CommandValue → Bool
is_empty [] = true
is_empty (c ∷ cs) = false

-- `path PATH`, before all commands
abbrev pub path_added : ObservationValue → List (List ℕ) → Result ObservationValue FaultKind
path_added o [] = Err Syntax
path_added o (text ∷ []) =
    if is_empty o.commands then (of_fields (path_of text) >>= λ path. path_put o path) else Err Syntax
path_added o (text ∷ more ∷ rest) = Err Syntax

-- `edge OUT [FLAG...]`
abbrev pub edge_added : ObservationValue → List (List ℕ) → Result ObservationValue FaultKind
edge_added o [] = Err Syntax
edge_added o (text ∷ words) =
    of_fields (path_of text) >>= λ output. or_syntax (flags_said words) >>= λ flags. command_put o output flags

-- the set that ranges are, one at least, where there are so many paths
abbrev pub set_of : ℕ → List PathRange → Result (List PathRange) FaultKind
set_of count [] = Err Syntax
set_of count (r ∷ rs) = if are_rising (r ∷ rs) && are_within count (r ∷ rs) then Ok (r ∷ rs) else Err Range

-- numbers and ranges
abbrev pub set_said : ℕ → List (List ℕ) → Result (List PathRange) FaultKind
set_said count texts = of_fields (ranges_of texts) >>= λ ranges. set_of count ranges

-- `KIND NUMBER...`, behind lines of the last command
abbrev pub uses_behind : ObservationValue → Kind → List (List ℕ) → Option CommandValue → Result ObservationValue FaultKind
uses_behind o kind texts None = Err Syntax
uses_behind o kind texts (Some c) =
    if may_take kind c then (set_said (length o.paths) texts >>= λ ranges. Ok (with_commands o (with_last o.commands (with_uses c kind ranges))))
    else Err Syntax

abbrev pub uses_added : ObservationValue → Kind → List (List ℕ) → Result ObservationValue FaultKind
uses_added o kind texts = uses_behind o kind texts (last_of o.commands)

-- a number of 64 bits alone
abbrev pub count_said : List (List ℕ) → Result ℕ FaultKind
count_said [] = Err Syntax
count_said (text ∷ []) = of_fields (number_below (2 ^ 64) text)
count_said (text ∷ more ∷ rest) = Err Syntax

-- `outside N`, behind lines of the last command, of which none says it
abbrev pub outside_behind : ObservationValue → List (List ℕ) → Option CommandValue → Result ObservationValue FaultKind
outside_behind o texts None = Err Syntax
outside_behind o texts (Some c) =
    if is_none c.outside then (count_said texts >>= λ n. Ok (with_commands o (with_last o.commands (with_outside c n)))) else Err Syntax

abbrev pub outside_added : ObservationValue → List (List ℕ) → Result ObservationValue FaultKind
outside_added o texts = outside_behind o texts (last_of o.commands)

-- what a line adds that begins with this word
abbrev pub added_by : ObservationValue → Option Word → List (List ℕ) → Result ObservationValue FaultKind
added_by o None texts = Err Syntax
added_by o (Some word.Path) texts = path_added o texts
added_by o (Some word.Edge) texts = edge_added o texts
added_by o (Some (word.Kind kind)) texts = uses_added o kind texts
added_by o (Some word.Outside) texts = outside_added o texts

-- what a line adds whose fields have these texts
abbrev pub texts_added : ObservationValue → List (List ℕ) → Result ObservationValue FaultKind
texts_added o [] = Err Syntax
texts_added o (word ∷ texts) = added_by o (word_of word) texts

abbrev pub line_added : ObservationValue → List ℕ → Result ObservationValue FaultKind
line_added o line = or_syntax (texts_of line) >>= λ texts. texts_added o texts

-- the name in `by NAME`
abbrev pub by_said : List (List ℕ) → Result (List ℕ) FaultKind
by_said [] = Err Syntax
by_said (word ∷ []) = Err Syntax
by_said (word ∷ name ∷ []) = if bytes_eq word (codes "by") then Ok name else Err Syntax
by_said (word ∷ name ∷ more ∷ rest) = Err Syntax

abbrev pub by_line : List ℕ → Result (List ℕ) FaultKind
by_line line = or_syntax (texts_of line) >>= λ texts. by_said texts
