-- What is written of a trace that is to be in version 2: that text, or the line of the trace's first fault.
use Rattle.std.specs.Prelude.{ℕ, List, codes, Option, Some, None}
use Rattle.rev_fields.specs.declared.faults.TextFault.{TextFault}
use Rattle.rev_script.specs.declared.status.Status.{Status}
use Rattle.rev_script.specs.declared.status.Status.TheVariants.{Success, Fault}
use Rattle.rev_script.specs.Lines.{text_fault_line}
use Rattle.rev_trace.specs.Migrated.{migrated}
use Rattle.rev_trace.specs.Traces.{trace_fault}

abbrev pub text_or_line : List ℕ → Option TextFault → List ℕ
text_or_line text None = text
text_or_line text (Some fault) = text_fault_line (codes "trace") fault

abbrev pub status_by : Option TextFault → Status
status_by None = Success
status_by (Some fault) = Fault

-- what is written, and the status
abbrev pub migrated_text : List ℕ → List ℕ
migrated_text trace = text_or_line (migrated trace) (trace_fault trace)

abbrev pub migrated_status : List ℕ → Status
migrated_status trace = status_by (trace_fault trace)
