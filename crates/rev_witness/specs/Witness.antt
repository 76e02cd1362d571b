-- A witness: what happens from nothing, on one job, up to the start of an edge before which another is still to run.
use Rattle.std.specs.Prelude.{◌≡◌, ℕ, suc, ◌<◌, true, false, List, [], ◌∷◌, ◌++◌, length, is_none}
use Rattle.std.specs.List.{All}
use Rattle.rev_cells.specs.State.{State, mark_of}
use Rattle.rev_cells.specs.Table.{Records, no_records, with_record}
use Rattle.rev_cells.specs.declared.cell.Cell.TheVariants as cell
use Rattle.rev_cells.specs.declared.mark.Mark.TheVariants as mark
use Rattle.rev_cells.specs.declared.value.Value.TheVariants as value
use Rattle.rev_causal.specs.Machine.{Legal, run}
use Rattle.rev_events.specs.declared.event.Event.{Event}
use Rattle.rev_footprint.specs.Machine.{machine}
use Rattle.rev_graph.specs.Graph.{build_at, producer_of}
use Rattle.rev_history.specs.Timeline.{Numbered, Timeline, kept_events, last_of}
use Rattle.rev_manifest.specs.Manifest.{BuildValue, ManifestValue}
use Rattle.rev_races.specs.Laws.{HasSourcesAlone}
use Rattle.rev_races.specs.Races.{starts}

-- the records with the stamp 1 of each of these paths behind them
abbrev pub stamped : Records → List (List ℕ) → Records
stamped r [] = r
stamped r (path ∷ paths) = stamped (with_record r (cell.Stamp path) (value.Stamp 1)) paths

-- the opening on one job in which these paths have the stamp 1, and there is nothing else
abbrev pub opening_with : List (List ℕ) → Records
opening_with sources = stamped (no_records 1) sources

-- no edge makes any of these paths
abbrev pub AreSources : List BuildValue → List (List ℕ) → Type 0
AreSources builds paths = All (λ path. is_none (producer_of builds path) ≡ true) paths

-- an edge of the manifest that has a command
pub record IsCommand (manifest : ManifestValue) (edge : ℕ) : Type 0 where
  pub is_edge : edge < length manifest.builds
  pub plain : (build_at manifest.builds edge).phony ≡ false

-- the history is one of this manifest on one job, which began in this state
pub record BeganWith (manifest : ManifestValue) (opening : State) (t : Timeline) : Type 0 where
  pub manifest_is : t.manifest ≡ manifest
  pub jobs_are : t.jobs ≡ 1
  pub opening_is : t.opening ≡ opening

-- one event more happened, under the next number, and is kept
pub record HasHappened (e : Event) (t u : Timeline) : Type 0 where
  pub n : ℕ
  pub events : kept_events u ≡ kept_events t ++ (n, e) ∷ []
  pub last : last_of u.accepted ≡ suc (last_of t.accepted)

-- A witness that b can start before a: a history on one job that began with nothing but sources, whose events are
-- accepted one after the other, and of which the last starts b where a is still wanted.
pub record IsWitness (manifest : ManifestValue) (b a : ℕ) (sources : List (List ℕ)) (t : Timeline) : Type 0 where
  pub began : BeganWith manifest (opening_with sources).state t
  pub from_nothing : HasSourcesAlone manifest.builds t.opening
  pub before : Numbered
  pub n : ℕ
  pub e : Event
  pub events : kept_events t ≡ before ++ (n, e) ∷ []
  pub legal : Legal (machine manifest 1) t.opening (kept_events t)
  pub begins : starts manifest b e ≡ true
  pub wanted : mark_of (run (machine manifest 1) t.opening before) a ≡ mark.Wanted
