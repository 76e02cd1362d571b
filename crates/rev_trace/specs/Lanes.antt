-- The lines `lane N` that name lanes.
use Rattle.std.specs.Prelude.{ℕ, suc, ◌==◌, Bool, false, ◌&&◌, not, nat_eq, nat_lt, if◌then◌else◌, codes, List, [], ◌∷◌, ◌++◌, Option, Some, None, Result, Ok, Err, fold}
use Rattle.std.specs.List.{starts_with}
use Rattle.std.specs.Result.{result_ok}
use Rattle.rev_fields.specs.declared.faults.FaultKind.{FaultKind}
use Rattle.rev_fields.specs.declared.faults.FaultKind.TheVariants.{Syntax, Lane}
use Rattle.rev_fields.specs.Faults.{◌>>=◌}
use Rattle.rev_fields.specs.Fields.{texts_of}
use Rattle.rev_fields.specs.Lines.{read_as}
use Rattle.rev_trace.specs.declared.traces.TheConstants.Trace.{MAX_LANES}
use Rattle.rev_trace.specs.declared.version.Version.{Version}
use Rattle.rev_trace.specs.Commands.{short}
use Rattle.rev_trace.specs.Versions.{may_name}

-- whether a line is to name a lane: it begins with the word `lane` and goes on
abbrev pub opens_lane : List ℕ → Bool
opens_lane line = starts_with nat_eq line (codes "lane ")

-- the number in a line `lane N`, where its fields have these texts
abbrev pub lane_named : List (List ℕ) → Result ℕ FaultKind
lane_named [] = Err Syntax
lane_named (word ∷ []) = Err Syntax
lane_named (word ∷ number ∷ []) = short number
lane_named (word ∷ number ∷ more ∷ rest) = Err Syntax

-- the number in a line `lane N`
abbrev pub lane_number : List ℕ → Result ℕ FaultKind
lane_number line = read_as lane_named (texts_of line)

-- the lane that has this number, where it may be named and so many lanes are open already
abbrev pub lane_in_turn : Version → ℕ → ℕ → Result ℕ FaultKind
lane_in_turn version count n = if may_name version count n && nat_lt n MAX_LANES then Ok n else Err Lane

-- the lane that a line `lane N` names, where it may be named
abbrev pub lane_line : Version → ℕ → List ℕ → Result ℕ FaultKind
lane_line version count line = lane_number line >>= λ n. lane_in_turn version count n

-- how many lanes are open once this one is named: it is opened where it is the next
abbrev pub opened : ℕ → ℕ → ℕ
opened count n = if n == count then suc count else count

abbrev pub opened_of : ℕ → Result ℕ FaultKind → ℕ
opened_of count (Ok n) = opened count n
opened_of count (Err fault) = count

-- how many lanes are open behind a line, where so many are before it
abbrev pub opened_by : ℕ → List ℕ → ℕ
opened_by count line = if opens_lane line then opened_of count (lane_number line) else count

-- and behind lines
abbrev pub opened_in : ℕ → List (List ℕ) → ℕ
opened_in count lines = fold opened_by count lines

-- the lane in which a line stands that follows this one, where this one stands in that lane, if in any
abbrev pub lane_behind : Option ℕ → List ℕ → Option ℕ
lane_behind lane line = if opens_lane line then result_ok (lane_number line) else lane

abbrev pub is_lane : ℕ → Option ℕ → Bool
is_lane n None = false
is_lane n (Some m) = m == n

-- a line, where it is one of the lines of a lane: it stands in that lane, and names none
abbrev pub line_of_lane : ℕ → Option ℕ → List ℕ → List (List ℕ)
line_of_lane n lane line = if is_lane n lane && not (opens_lane line) then line ∷ [] else []

-- the lines of a lane among these, of which the first stands in this lane, if in any: those behind a line that names
-- it, up to the next that names one
abbrev pub lines_of_lane : ℕ → Option ℕ → List (List ℕ) → List (List ℕ)
lines_of_lane n lane [] = []
lines_of_lane n lane (line ∷ lines) = line_of_lane n lane line ++ lines_of_lane n (lane_behind lane line) lines
