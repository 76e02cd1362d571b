-- The lines of a report.
use Rattle.std.specs.Prelude.{ℕ, List, [], ◌++◌, Option, Some, None, codes, decimal, slice_get}
use Rattle.rev_events.specs.declared.event.Event.{Event}
use Rattle.rev_fields.specs.declared.faults.TextFault.{TextFault}
use Rattle.rev_fields.specs.Faults.{code_of}
use Rattle.rev_fields.specs.Fields.{field_text}
use Rattle.rev_graph.specs.declared.fault.GraphFault.{GraphFault}
use Rattle.rev_graph.specs.Fault as graph_faults
use Rattle.rev_manifest.specs.declared.fault.ManifestFault.{ManifestFault}
use Rattle.rev_manifest.specs.Fault as manifest_faults
use Rattle.rev_trace.specs.Texts.{event_text}

-- the line of a kept event: its number, and the command that it was
abbrev pub kept_line : ℕ → Option Event → List ℕ
kept_line number None = []
kept_line number (Some e) = codes "kept " ++ decimal number ++ codes " " ++ event_text e ++ codes "\n"

-- a question that is refused
abbrev pub refused_line : ℕ → List ℕ
refused_line code = codes "refused " ++ decimal code ++ codes "\n"

-- Faults: one line, with the line and the number of the fault.

abbrev pub fault_line : List ℕ → ℕ → ℕ → List ℕ
fault_line what line code =
    codes "fault " ++ what ++ codes " " ++ decimal line ++ codes " " ++ decimal code ++ codes "\n"

-- the name of a file as it was given, or a dash where there is none
abbrev pub name_text : Option (List ℕ × List ℕ) → List ℕ
name_text None = codes "-"
name_text (Some file) = field_text file.0

abbrev pub manifest_fault_line : List (List ℕ × List ℕ) → ManifestFault → List ℕ
manifest_fault_line files f =
    fault_line (codes "manifest " ++ name_text (slice_get files f.file)) f.line (manifest_faults.code_of f.kind)

abbrev pub text_fault_line : List ℕ → TextFault → List ℕ
text_fault_line what f = fault_line what f.line (code_of f.kind)

-- the path that a fault of a graph names
abbrev pub path_text : Option (List ℕ) → List ℕ
path_text None = []
path_text (Some path) = codes " " ++ field_text path

abbrev pub graph_fault_line : ℕ → Option (List ℕ) → List ℕ
graph_fault_line code path = codes "fault graph " ++ decimal code ++ path_text path ++ codes "\n"

-- the line of a fault about edges; `Memory` is none
abbrev pub numbered_line : Option (List ℕ) → Option ℕ → List ℕ
numbered_line path None = []
numbered_line path (Some code) = graph_fault_line code path

abbrev pub edges_fault_line : GraphFault → List ℕ
edges_fault_line f = numbered_line (graph_faults.path_of f) (graph_faults.code_of f)

-- the line of a fault of lanes on threads: its number, and a lane
abbrev pub close_line : ℕ → ℕ → List ℕ
close_line code lane = codes "fault close " ++ decimal code ++ codes " " ++ decimal lane ++ codes "\n"
