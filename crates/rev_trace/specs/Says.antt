-- Which texts say which traces, and where a text that says none first goes wrong.
use Rattle.std.specs.Prelude.{◌≡◌, ◌↔◌, ℕ, ◌+◌, ◌<◌, ◌^◌, ◌⊎◌, ◌==◌, Bool, true, false, ◌&&◌, bytes_eq, codes, decimal, fold, length, map, List, [], ◌∷◌, ◌++◌, Some, None}
use Rattle.std.specs.List.{filter, flat_map, list_any, range_with_len}
use Rattle.rev_commands.specs.declared.command.Command.{Command}
use Rattle.rev_fields.specs.declared.faults.FaultKind.{FaultKind}
use Rattle.rev_fields.specs.declared.faults.FaultKind.TheVariants.{Syntax, Number, Lane, DoubleRecord, Header}
use Rattle.rev_fields.specs.declared.faults.TextFault.{TextFault}
use Rattle.rev_fields.specs.Grammar.{AreLines, IsLine}
use Rattle.rev_trace.specs.declared.record.Record.{Record}
use Rattle.rev_trace.specs.declared.record.Record.TheVariants.{Jobs, Stamp, Built, Deps}
use Rattle.rev_trace.specs.declared.traces.TheConstants.Trace.{MAX_LANES}
use Rattle.rev_trace.specs.declared.version.Version.{Version}
use Rattle.rev_trace.specs.Grammar.{Look, Exact, Shape, LineSays, SaysRecord, SaysShort}
use Rattle.rev_trace.specs.Lanes.{opened}
use Rattle.rev_trace.specs.Records.{head_of}
use Rattle.rev_trace.specs.Traces.{TraceValue, trace_fault, trace_of}
use Rattle.rev_trace.specs.Versions.{first_line, may_hold, may_name}

-- the line that names the lane of a number
abbrev pub IsLaneLine : List ℕ → ℕ → Type 0
IsLaneLine line n = IsLine line (codes "lane" ∷ decimal n ∷ [])

abbrev pub gives_jobs : Record → Bool
gives_jobs (Jobs n) = true
gives_jobs _ = false

-- whether two records are of one kind for one path
abbrev pub doubles : Record → Record → Bool
doubles (Stamp p m) (Stamp q n) = bytes_eq p q
doubles (Built p m c) (Built q n d) = bytes_eq p q
doubles (Deps p m ps) (Deps q n qs) = bytes_eq p q
doubles _ _ = false

-- whether a record would give the number of jobs a second time, after these
abbrev pub is_second : List Record → Record → Bool
is_second records r = gives_jobs r && list_any gives_jobs records

-- whether one of these records is of the same kind for the same path
abbrev pub is_double : List Record → Record → Bool
is_double records r = list_any (doubles r) records

-- the number of jobs is given once at most, and each kind of record once at most for a path
abbrev pub AreOnce : List Record → Type 0
AreOnce records =
    (before after : List Record) (r : Record) → records ≡ before ++ r ∷ after → (is_second before r ≡ false)
    × (is_double before r ≡ false)

-- The opening lines say these records, line by line; empty lines say nothing.
pub data AreRecords : List (List ℕ) → List Record → Type 0 where
  NoRecord : AreRecords [] []
  EmptyInOpening : {lines : List (List ℕ)} {records : List Record} → AreRecords lines records
      → AreRecords ([] ∷ lines) records
  OneRecord : {line : List ℕ} (texts : List (List ℕ)) {r : Record} {lines : List (List ℕ)} {records : List Record}
      → IsLine line texts → SaysRecord Exact texts r → AreRecords lines records
      → AreRecords (line ∷ lines) (r ∷ records)

-- what stands behind one line that names a lane: commands of that lane
pub record Part : Type 0 where
  pub lane : ℕ
  pub commands : List Command

-- how many lanes are open behind parts, where so many are before them
abbrev pub opened_behind : ℕ → List Part → ℕ
opened_behind count parts = fold (λ count part. opened count part.lane) count parts

-- the commands of a lane: those of all parts that name it, in their order
abbrev pub commands_of_lane : ℕ → List Part → List Command
commands_of_lane n parts = flat_map (λ part. part.commands) (filter (λ part. part.lane == n) parts)

-- the commands of each lane that the parts open
abbrev pub lanes_of_parts : List Part → List (List Command)
lanes_of_parts parts = map (λ n. commands_of_lane n parts) (range_with_len 0 (opened_behind 0 parts))

-- The lines of one part say these commands, where `plan` without a path means these targets.
pub data AreCommands : Version → List (List ℕ) → List (List ℕ) → List Command → Type 0 where
  NoCommand : {version : Version} {targets : List (List ℕ)} → AreCommands version targets [] []
  EmptyInLane : {version : Version} {targets lines : List (List ℕ)} {commands : List Command}
      → AreCommands version targets lines commands → AreCommands version targets ([] ∷ lines) commands
  OneCommand : {version : Version} {targets : List (List ℕ)} {line : List ℕ} {c : Command} {lines : List (List ℕ)}
      {commands : List Command}
      → LineSays Exact targets line c → may_hold version c ≡ true → AreCommands version targets lines commands
      → AreCommands version targets (line ∷ lines) (c ∷ commands)

-- The lines are these parts, where so many lanes are open before: each the line that names its lane, and the lines of
-- its commands. The last lane that there may be is lane 62.
pub data ArePartsOfLanes : Version → List (List ℕ) → ℕ → List (List ℕ) → List Part → Type 0 where
  NoPart : {version : Version} {targets : List (List ℕ)} {n : ℕ} → ArePartsOfLanes version targets n [] []
  OnePart : {version : Version} {targets : List (List ℕ)} {n : ℕ} {line : List ℕ} {lines rest : List (List ℕ)}
      {part : Part} {parts : List Part}
      → may_name version n part.lane ≡ true → part.lane < MAX_LANES → IsLaneLine line part.lane
      → AreCommands version targets lines part.commands
      → ArePartsOfLanes version targets (opened n part.lane) rest parts
      → ArePartsOfLanes version targets n (line ∷ (lines ++ rest)) (part ∷ parts)

-- the lines after the first say these records, and then these parts of lanes
pub record SaysLines
    (version : Version) (lines : List (List ℕ)) (records : List Record) (parts : List Part)
    : Type 0 where
  pub opening : List (List ℕ)
  pub behind : List (List ℕ)
  pub whole : lines ≡ opening ++ behind
  pub are_records : AreRecords opening records
  pub once : AreOnce records
  pub are_parts : ArePartsOfLanes version (head_of records).targets 0 behind parts

-- A text says a trace: its first line names the format and a version, the others say records and parts of lanes, and
-- the trace has what the records make and the lanes of these parts.
pub record SaysTrace (text : List ℕ) (trace : TraceValue) : Type 0 where
  pub version : Version
  pub lines : List (List ℕ)
  pub are_lines : AreLines text (first_line version ∷ lines)
  pub records : List Record
  pub parts : List Part
  pub says : SaysLines version lines records parts
  pub opening_is : trace.opening ≡ (head_of records).opening
  pub targets_is : trace.targets ≡ (head_of records).targets
  pub lanes_is : trace.lanes ≡ lanes_of_parts parts

-- What may stand behind records and parts of lanes: an empty line, a line that names a lane, and one more record where
-- no lane is open, one more command where one is.
pub data Stands : Look → Version → List Record → List Part → List ℕ → Type 0 where
  StandsEmpty : {look : Look} {version : Version} {records : List Record} {parts : List Part}
      → Stands look version records parts []
  StandsLane : {look : Look} {version : Version} {records : List Record} {parts : List Part} {line : List ℕ}
      (text : List ℕ) (n : ℕ)
      → IsLine line (codes "lane" ∷ text ∷ []) → SaysShort look text n → Stands look version records parts line
  StandsRecord : {look : Look} {version : Version} {records : List Record} {line : List ℕ} (texts : List (List ℕ))
      (r : Record)
      → IsLine line texts → SaysRecord look texts r → is_second records r ≡ false
      → Stands look version records [] line
  StandsCommand : {look : Look} {version : Version} {records : List Record} {part : Part} {parts : List Part}
      {line : List ℕ} (c : Command)
      → LineSays look (head_of records).targets line c → may_hold version c ≡ true
      → Stands look version records (part ∷ parts) line

-- What is wrong with a line behind records and parts of lanes. It is no form that may stand there, even where any text
-- counts as a number; or it is one but for its numbers; or it names a lane that it may not, or one too many; or it is a
-- record once more.
pub data IsWrong : Version → List Record → List Part → List ℕ → FaultKind → Type 0 where
  NoForm : {version : Version} {records : List Record} {parts : List Part} {line : List ℕ}
      → (Stands Shape version records parts line → ⊥) → IsWrong version records parts line Syntax
  NoNumber : {version : Version} {records : List Record} {parts : List Part} {line : List ℕ}
      → Stands Shape version records parts line → (Stands Exact version records parts line → ⊥)
      → IsWrong version records parts line Number
  NoTurn : {version : Version} {records : List Record} {parts : List Part} {line : List ℕ} (n : ℕ)
      → IsLaneLine line n → n < 2 ^ 32 → (may_name version (opened_behind 0 parts) n ≡ true → n < MAX_LANES → ⊥)
      → IsWrong version records parts line Lane
  Twice : {version : Version} {records : List Record} {line : List ℕ} (texts : List (List ℕ)) (r : Record)
      → IsLine line texts → SaysRecord Exact texts r → is_double records r ≡ true
      → IsWrong version records [] line DoubleRecord

-- what is wrong with a line behind these, of which the first names the format and a version, and the others say records
-- and parts of lanes
pub data IsWrongBehind : List (List ℕ) → List ℕ → FaultKind → Type 0 where
  NoHeader : {line : List ℕ} → ((version : Version) → line ≡ first_line version → ⊥) → IsWrongBehind [] line Header
  WrongLine : {lines : List (List ℕ)} (version : Version) (records : List Record) (parts : List Part) {line : List ℕ}
      {kind : FaultKind}
      → SaysLines version lines records parts → IsWrong version records parts line kind
      → IsWrongBehind (first_line version ∷ lines) line kind

-- The first fault of a text: the lines before its line say the beginning of a trace, and it is wrong behind them.
pub record IsFirstFault (text : List ℕ) (fault : TextFault) : Type 0 where
  pub before : List (List ℕ)
  pub line : List ℕ
  pub after : List (List ℕ)
  pub are_lines : AreLines text (before ++ line ∷ after)
  pub number : fault.line ≡ length before + 1
  pub wrong : IsWrongBehind before line fault.kind

-- a text is read as a trace exactly where it says that trace
abbrev pub TracesAreSaid : Type 0
TracesAreSaid =
    (text : List ℕ) (trace : TraceValue) → ((trace_fault text ≡ None) × (trace_of text ≡ trace)) ↔ SaysTrace text trace

-- a text has a fault exactly where that is its first
abbrev pub FaultsAreFirst : Type 0
FaultsAreFirst = (text : List ℕ) (fault : TextFault) → (trace_fault text ≡ Some fault) ↔ IsFirstFault text fault

-- each text says a trace or has a first fault, one alone of these
abbrev pub OneOrTheOther : Type 0
OneOrTheOther =
    (text : List ℕ)
    → ((trace : TraceValue) × SaysTrace text trace × ((other : TraceValue) → SaysTrace text other → other ≡ trace)
    × ((fault : TextFault) → IsFirstFault text fault → ⊥))
    ⊎ ((fault : TextFault) × IsFirstFault text fault × ((other : TextFault) → IsFirstFault text other → other ≡ fault)
    × ((trace : TraceValue) → SaysTrace text trace → ⊥))
