-- Traces of version 1 in version 2.
use Rattle.std.specs.Prelude.{◌≡◌, ℕ, drop, length, List, [], ◌++◌, None}
use Rattle.std.specs.List.{slice_index_or}
use Rattle.rev_fields.specs.Lines.{lines_of}
use Rattle.rev_trace.specs.declared.version.Version.TheVariants.{Two}
use Rattle.rev_trace.specs.Traces.{trace_fault, trace_of}
use Rattle.rev_trace.specs.Versions.{first_line}

-- the first line of a text
abbrev pub line_one : List ℕ → List ℕ
line_one text = slice_index_or (lines_of text) 0 []

-- the text with the first line of version 2: what stands behind its own first line is kept, byte for byte
abbrev pub migrated : List ℕ → List ℕ
migrated text = first_line Two ++ drop (length (line_one text)) text

-- a text that is read as a trace is read as the same one in version 2
abbrev pub MigratedTracesAreRead : Type 0
MigratedTracesAreRead =
    (text : List ℕ)
    → trace_fault text ≡ None
    → (trace_fault (migrated text) ≡ None) × (trace_of (migrated text) ≡ trace_of text)

-- a text of version 2 stays as it is
abbrev pub MigratedStay : Type 0
MigratedStay = (text : List ℕ) → line_one text ≡ first_line Two → migrated text ≡ text
