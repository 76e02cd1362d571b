-- Traces: a first line that names the format and its version, then opening lines, then lines of lanes, each part of
-- them after the line that names its lane.
use Rattle.std.specs.Prelude.{◌≡◌, ℕ, ◌<◌, ◌≤◌, Bool, true, false, if◌then◌else◌, List, [], ◌∷◌, map, take, drop, length, Option, Some, None}
use Rattle.std.specs.Result.{result_err}
use Rattle.std.specs.List.{list_any, range_with_len, slice_index_or, before_first}
use Rattle.std.specs.Global.{Vec}
use Rattle.rev_cells.specs.Table.{Records}
use Rattle.rev_commands.specs.declared.command.Command.{Command}
use Rattle.rev_fields.specs.declared.faults.FaultKind.{FaultKind}
use Rattle.rev_fields.specs.declared.faults.FaultKind.TheVariants.{Header}
use Rattle.rev_fields.specs.declared.faults.TextFault.{TextFault}
use Rattle.rev_fields.specs.Faults.{first_fault}
use Rattle.rev_fields.specs.Lines.{lines_of, is_blank, said_by}
use Rattle.rev_trace.specs.declared.record.Record.{Record}
use Rattle.rev_trace.specs.declared.version.Version.{Version}
use Rattle.rev_trace.specs.Lanes.{lane_line, lines_of_lane, opened_in, opens_lane}
use Rattle.rev_trace.specs.Records.{HeadValue, record_line, head_of, opening_wrong}
use Rattle.rev_trace.specs.Versions.{held_line, is_first, version_of}

-- the lists that vectors hold
abbrev pub lanes_of : {T : Type 0} → List (Vec T) → List (List T)
lanes_of vectors = map (λ v. v.items) vectors

-- what a trace says
pub record TraceValue : Type 0 where
  pub opening : Records
  pub targets : List (List ℕ)
  pub lanes : List (List Command)

-- whether one of the lines names a lane
abbrev pub has_lane : List (List ℕ) → Bool
has_lane lines = list_any opens_lane lines

-- how many lanes the lines open
abbrev pub lane_count : List (List ℕ) → ℕ
lane_count lines = opened_in 0 lines

-- the records among the lines
abbrev pub records_in : List (List ℕ) → List Record
records_in lines = said_by record_line lines

-- what the opening lines among the lines make
abbrev pub head_in : List (List ℕ) → HeadValue
head_in lines = head_of (records_in lines)

-- the commands among the lines of a lane, where `plan` without a path means these targets
abbrev pub commands_in : Version → List (List ℕ) → List (List ℕ) → List Command
commands_in version targets lines = said_by (held_line version targets) lines

-- the commands of each lane among lines of which the first stands in this lane, if in any, where so many are open
abbrev pub lanes_from : Version → List (List ℕ) → ℕ → Option ℕ → List (List ℕ) → List (List Command)
lanes_from version targets count lane lines =
    map (λ n. commands_in version targets (lines_of_lane n lane lines)) (range_with_len 0 (opened_in count lines))

-- the commands of each lane: those of its lines, in their order
abbrev pub lanes_in : Version → List (List ℕ) → List (List ℕ) → List (List Command)
lanes_in version targets lines = lanes_from version targets 0 None lines

-- the lines before the first that names a lane
abbrev pub opening_lines : List (List ℕ) → List (List ℕ)
opening_lines lines = before_first opens_lane lines

-- what `plan` without a path means: the targets of the opening lines
abbrev pub targets_in : List (List ℕ) → List (List ℕ)
targets_in lines = (head_in (opening_lines lines)).targets

-- what is wrong with a line that is not empty, where these lines stand between it and the first:
-- it names a lane that may be named, or it is a command where a lane is open, and an opening line where none is
abbrev pub wrong_after : Version → List (List ℕ) → List (List ℕ) → List ℕ → Option FaultKind
wrong_after version targets before line =
    if opens_lane line then result_err (lane_line version (lane_count before) line)
    else (if has_lane before then result_err (held_line version targets line) else opening_wrong (head_in before) line)

-- the same of a line that may be empty
abbrev pub wrong_in : Version → List (List ℕ) → List (List ℕ) → List ℕ → Option FaultKind
wrong_in version targets before line = if is_blank line then None else wrong_after version targets before line

-- what is wrong with a line of a trace that stands after these lines: the first names the format and a version, and an
-- empty one is skipped
abbrev pub trace_wrong : List (List ℕ) → List (List ℕ) → List ℕ → Option FaultKind
trace_wrong targets [] line = if is_first line then None else Some Header
trace_wrong targets (first ∷ before) line = wrong_in (version_of first) targets before line

-- The first fault of a trace. Its lines are looked at in turn, each with the lines before it. Of one line a fault of
-- syntax counts before one of a number, that before a lane out of turn, and that before a second record; a line that
-- may not stand at its place is a fault of syntax, whatever else is wrong with it.
abbrev pub trace_fault : List ℕ → Option TextFault
trace_fault text =
    let lines = lines_of text in first_fault
    (λ place. trace_wrong (targets_in (drop 1 lines)) (take place lines) (slice_index_or lines place [])) (length lines)

-- what lines say that stand after the first, which names this version, and have no fault
abbrev pub value_of : Version → List (List ℕ) → TraceValue
value_of version lines =
    record {
      opening = (head_in (opening_lines lines)).opening;
      targets = targets_in lines;
      lanes = lanes_in version (targets_in lines) lines;
    }

-- what the lines of a trace say that has no fault
abbrev pub said_by_lines : List (List ℕ) → TraceValue
said_by_lines lines = value_of (version_of (slice_index_or lines 0 [])) (drop 1 lines)

-- what a trace says that has no fault
abbrev pub trace_of : List ℕ → TraceValue
trace_of text = said_by_lines (lines_of text)

-- what is wrong with the line at a place of those after the first
abbrev pub wrong_at : Version → List (List ℕ) → ℕ → Option FaultKind
wrong_at version lines place = wrong_in version (targets_in lines) (take place lines) (slice_index_or lines place [])

-- a head that has what so many lines after the first say, up to the line that opens the first lane or the end; none of
-- these lines has a fault, nor has the one that opens the lane
pub record IsOpened (version : Version) (lines : List (List ℕ)) (head : HeadValue) (count : ℕ) : Type 0 where
  pub within : count ≤ length lines
  pub no_lane : (k : ℕ) → k < count → opens_lane (slice_index_or lines k []) ≡ false
  pub ends : count < length lines → opens_lane (slice_index_or lines count []) ≡ true
  pub opens : count < length lines → wrong_at version lines count ≡ None
  pub sound : (k : ℕ) → k < count → wrong_at version lines k ≡ None
  pub head_is : head ≡ head_in (take count lines)

-- what is wrong with a line that may be empty, where so many lanes are open: it names one that may be named, or it is a
-- command
abbrev pub wrong_in_lane : Version → List (List ℕ) → ℕ → List ℕ → Option FaultKind
wrong_in_lane version targets count line =
    if is_blank line then None
    else (if opens_lane line then result_err (lane_line version count line)
    else result_err (held_line version targets line))

-- what is wrong with the line at a place of those after the one that opens the first lane
abbrev pub lane_wrong : Version → List (List ℕ) → List (List ℕ) → ℕ → Option FaultKind
lane_wrong version targets lines place =
    wrong_in_lane version targets (opened_in 1 (take place lines)) (slice_index_or lines place [])
