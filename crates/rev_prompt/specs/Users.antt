-- Which commands read and write a path.
use Rattle.std.specs.Prelude.{◌≡◌, ℕ, List, length, map, nat_lt, Option, Some, None, if◌then◌else◌}
use Rattle.rev_graph.specs.Graph.{producer_of}
use Rattle.rev_history.specs.Timeline.{Timeline, state_at}
use Rattle.rev_looked.specs.Naming.{namings_of}
use Rattle.rev_looked.specs.Uses.{readers_of, writers_of}
use Rattle.rev_looked.specs.declared.uses.Use.{Use}
use Rattle.rev_observed.specs.Observations.{ObservationValue}
use Rattle.rev_prompt.specs.declared.answers.Answer.{Answer}
use Rattle.rev_prompt.specs.declared.answers.Answer.TheVariants as answer
use Rattle.rev_prompt.specs.declared.answers.Deed.{Deed}
use Rattle.rev_prompt.specs.declared.answers.Readers.{Readers}
use Rattle.rev_prompt.specs.declared.answers.Readers.TheVariants as readers
use Rattle.rev_prompt.specs.declared.answers.Span.{Span}
use Rattle.rev_prompt.specs.declared.answers.Writers.{Writers}
use Rattle.rev_prompt.specs.declared.answers.Writers.TheVariants as writers
use Rattle.rev_prompt.specs.Spans.{last_run}

-- the last run of an edge; none of what is no edge of the manifest
abbrev pub run_of : Timeline → ℕ → Option Span
run_of t edge = if nat_lt edge (length t.manifest.builds) then last_run t edge else None

-- what a command does, with the last run of its edge
abbrev pub deed_of : Timeline → Use → Deed
deed_of t u = record { edge = u.edge; kind = u.kind; run = run_of t u.edge }

-- by what was observed, each command that looks at the path; where nothing was, each edge that names it
abbrev pub AreReaders : Timeline → Option ObservationValue → List ℕ → List ℕ → Readers → Type 0
AreReaders t (Some o) edges path (readers.Observed deeds) =
    deeds.items ≡ map (deed_of t) (readers_of o.paths edges o.commands path)
AreReaders t None edges path (readers.Named namings) =
    namings.items ≡ namings_of t.manifest.builds (state_at t) path
AreReaders t _ edges path _ = ⊥

abbrev pub IsReaders : Timeline → Option ObservationValue → List ℕ → List ℕ → Answer → Type 0
IsReaders t o edges path (answer.Readers name readers) = (name ≡ path) × AreReaders t o edges path readers
IsReaders t o edges path _ = ⊥

-- by what was observed, each command that changes the path; where nothing was, the edge that has it as an output
abbrev pub AreWriters : Timeline → Option ObservationValue → List ℕ → List ℕ → Writers → Type 0
AreWriters t (Some o) edges path (writers.Observed deeds) =
    deeds.items ≡ map (deed_of t) (writers_of o.paths edges o.commands path)
AreWriters t None edges path (writers.Declared edge) = edge ≡ producer_of t.manifest.builds path
AreWriters t _ edges path _ = ⊥

abbrev pub IsWriters : Timeline → Option ObservationValue → List ℕ → List ℕ → Answer → Type 0
IsWriters t o edges path (answer.Writers name writers) = (name ≡ path) × AreWriters t o edges path writers
IsWriters t o edges path _ = ⊥
