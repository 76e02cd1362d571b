-- The report: what a run writes for files, a trace and a script, and its status.
use Rattle.std.specs.Prelude.{ℕ, ◌+◌, List, [], ◌∷◌, ◌++◌, drop, length, Option, Some, None, Result, Ok, Err, codes, decimal}
use Rattle.std.specs.List.{flat_map}
use Rattle.rev_listing.specs.Logs as logs
use Rattle.rev_listing.specs.Marks as marks
use Rattle.rev_listing.specs.Stamps as stamps
use Rattle.rev_listing.specs.Why as reasons
use Rattle.rev_cells.specs.State.{State}
use Rattle.rev_graph.specs.Graph.{producer_of}
use Rattle.rev_cells.specs.Table.{Records}
use Rattle.rev_events.specs.declared.refusal.Refusal.{Refusal}
use Rattle.rev_events.specs.declared.refusal.Refusal.TheVariants.{NoSuchEdge, NoSuchEvent}
use Rattle.rev_events.specs.Refusal as refusals
use Rattle.rev_history.specs.Timeline.{Timeline, cone_refusal, event_at, state_at}
use Rattle.rev_order_text.specs.Orders.{order_text}
use Rattle.rev_manifest.specs.declared.fault.ManifestFault.{ManifestFault}
use Rattle.rev_manifest.specs.Manifest as manifest
use Rattle.rev_manifest.specs.Manifest.{BuildValue, ManifestValue}
use Rattle.rev_graph.specs.Decided.{graph_fault}
use Rattle.rev_commands.specs.declared.command.Command.{Command}
use Rattle.rev_desk.specs.Machine.{DeskValue, named, opened_desk}
use Rattle.rev_script.specs.declared.script.Word.{Word}
use Rattle.rev_script.specs.declared.script.Word.TheVariants as word
use Rattle.rev_script.specs.declared.status.Status.{Status}
use Rattle.rev_script.specs.declared.status.Status.TheVariants.{Success, Fault}
use Rattle.rev_script.specs.Lines.{edges_fault_line, kept_line, manifest_fault_line, refused_line, text_fault_line}
use Rattle.rev_script.specs.Scripts.{script_fault, script_of}
use Rattle.rev_script.specs.Turns.{turns}
use Rattle.rev_trace.specs.Traces.{trace_fault, trace_of}
use Rattle.rev_report.specs.Answers.{after_answer, said_line}
use Rattle.rev_report.specs.Dependents.{dependents}
use Rattle.rev_report.specs.Runs.{after_turns, answers_text, taken}

-- The word `kept`: a line for each kept event, in rising number, with the command that it was.

abbrev pub kept_text : Timeline → List ℕ
kept_text t = flat_map (λ number. kept_line number (event_at t number)) t.kept

-- The words that ask of the history and its state.

-- the state of a desk's history, and the edges of its graph
abbrev pub state_now : DeskValue → State
state_now d = state_at d.history

abbrev pub builds_of : DeskValue → List BuildValue
builds_of d = d.history.manifest.builds

-- `why OUT`: refused where no edge has the output
abbrev pub why_edge : List BuildValue → State → Option ℕ → List ℕ
why_edge builds state None = refused_line (refusals.code_of NoSuchEdge)
why_edge builds state (Some edge) = reasons.why_text builds state edge

-- `dependents WHICH`: refused where no accepted event has the name, or it is not kept
abbrev pub dependents_line : ℕ → List ℕ → List ℕ
dependents_line n ms = codes "dependents " ++ decimal n ++ flat_map (λ m. codes " " ++ decimal m) ms ++ codes "\n"

abbrev pub dependents_unless : Option Refusal → Timeline → ℕ → List ℕ
dependents_unless (Some r) t n = refused_line (refusals.code_of r)
dependents_unless None t n = dependents_line n (dependents t n)

abbrev pub dependents_text : Timeline → ℕ → List ℕ
dependents_text t n = dependents_unless (cone_refusal t n) t n

abbrev pub named_text : Option ℕ → Timeline → List ℕ
named_text None t = refused_line (refusals.code_of NoSuchEvent)
named_text (Some n) t = dependents_text t n

-- The words of a script, where some turns of the trace's lanes are left; the script's own commands are of the given
-- lane.

-- what a word writes
abbrev pub word_text : ℕ → DeskValue → List (ℕ × Command) → Word → List ℕ
word_text lane d left (word.Command c) = said_line d lane c
word_text lane d left (word.Run most) = answers_text d (taken most d left)
word_text lane d left word.Kept = kept_text d.history
word_text lane d left word.Marks = marks.marks_text (builds_of d) (state_now d)
word_text lane d left word.Stamps = stamps.stamps_text (state_now d)
word_text lane d left word.Logs = logs.logs_text (state_now d)
word_text lane d left (word.Why out) = why_edge (builds_of d) (state_now d) (producer_of (builds_of d) out)
word_text lane d left (word.Dependents which) = named_text (named d.journal which) d.history
word_text lane d left (word.Order numbers) = order_text d.history numbers

-- the desk after a word
abbrev pub after_word : ℕ → DeskValue → List (ℕ × Command) → Word → DeskValue
after_word lane d left (word.Command c) = after_answer d lane c
after_word lane d left (word.Run most) = after_turns d (taken most d left)
after_word lane d left _ = d

-- the turns that are left after a word
abbrev pub left_after : DeskValue → List (ℕ × Command) → Word → List (ℕ × Command)
left_after d left (word.Run most) = drop (length (taken most d left)) left
left_after d left _ = left

-- what a script writes: its words in turn
abbrev pub script_text : ℕ → DeskValue → List (ℕ × Command) → List Word → List ℕ
script_text lane d left [] = []
script_text lane d left (w ∷ words) =
    word_text lane d left w ++ script_text lane (after_word lane d left w) (left_after d left w) words

-- What the words of a script write, for a trace with this opening and these lanes. The desk has one lane more than the
-- trace, the last, which is the script's.
abbrev pub session_text : ManifestValue → Records → List (List Command) → List Word → List ℕ
session_text manifest opening lanes words =
    script_text (length lanes) (opened_desk manifest opening.jobs opening.state (length lanes + 1)) (turns lanes) words

-- what is written, and the status
pub record Report : Type 0 where
  pub text : List ℕ
  pub status : Status

-- a fault, if there is one, is all of the report
abbrev pub unless_fault : {F : Type 0} → Option F → (F → List ℕ) → Report → Report
unless_fault None line report = report
unless_fault (Some f) line report = record { text = line f; status = Fault }

-- the report of a script, where the trace has been read
abbrev pub script_report : ManifestValue → Records → List (List Command) → List ℕ → Report
script_report manifest opening lanes script =
    unless_fault (script_fault script) (text_fault_line (codes "script"))
    (record { text = session_text manifest opening lanes (script_of script); status = Success })

-- the report of a trace and a script, where the manifest has been read
abbrev pub trace_report : ManifestValue → List ℕ → List ℕ → Report
trace_report manifest trace script =
    unless_fault (trace_fault trace) (text_fault_line (codes "trace"))
    (script_report manifest (trace_of trace).opening (trace_of trace).lanes script)

-- the report of a trace and a script, for the edges of a manifest that has been read
abbrev pub edges_report : ManifestValue → List ℕ → List ℕ → Report
edges_report manifest trace script =
    unless_fault (graph_fault manifest.builds) edges_fault_line (trace_report manifest trace script)

-- the report for a manifest that has been read
abbrev pub manifest_report : Result ManifestValue ManifestFault → List ℕ → List ℕ → Report
manifest_report (Ok manifest) trace script = edges_report manifest trace script
manifest_report (Err fault) trace script = record { text = []; status = Fault }

-- the report of files, their edges, a trace and a script, which are looked at in that order
abbrev pub report : List (List ℕ × List ℕ) → List ℕ → List ℕ → Report
report files trace script =
    unless_fault (manifest.first_fault files) (manifest_fault_line files)
    (manifest_report (manifest.manifest_of files) trace script)
