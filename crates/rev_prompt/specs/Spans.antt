-- When commands ran.
use Rattle.std.specs.Prelude.{ℕ, ◌==◌, ◌&&◌, Bool, true, not, nat_lt, List, filter, find, map, reverse, Option, Some, None}
use Rattle.std.specs.Option.{option_map}
use Rattle.rev_history.specs.Timeline.{Timeline}
use Rattle.rev_runs.specs.Runs.{runs_of}
use Rattle.rev_runs.specs.declared.ran.Run.{Run}
use Rattle.rev_prompt.specs.declared.answers.Span.{Span}

abbrev pub span_of : Run → Span
span_of r = record { began = r.began; ended = r.ended }

-- the run is one of the edge, and it is kept
abbrev pub is_kept_of : ℕ → Run → Bool
is_kept_of edge r = r.kept && r.edge == edge

-- the last kept one of an edge's runs
abbrev pub last_in : ℕ → List Run → Option Span
last_in edge runs = option_map span_of (find (is_kept_of edge) (reverse runs))

abbrev pub last_run : Timeline → ℕ → Option Span
last_run t edge = last_in edge (runs_of t)

-- a run that began at this number began before another ended, which may still run
abbrev pub is_before_end : ℕ → Option ℕ → Bool
is_before_end began None = true
is_before_end began (Some ended) = nat_lt began ended

-- each of the two began before the other ended
abbrev pub overlaps : Span → Span → Bool
overlaps a b = is_before_end a.began b.ended && is_before_end b.began a.ended

-- the run is kept, is another one, and overlaps this one
abbrev pub is_beside : Span → Run → Bool
is_beside span r = r.kept && not (r.began == span.began) && overlaps (span_of r) span

abbrev pub others_in : Span → List Run → List Span
others_in span runs = map span_of (filter (is_beside span) runs)

-- the kept runs beside a run, in the order of their starts
abbrev pub runs_beside : Timeline → Span → List Span
runs_beside t span = others_in span (runs_of t)
