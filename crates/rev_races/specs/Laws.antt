-- What holds of waiting in every history.
use Rattle.std.specs.Prelude.{◌≡◌, ◌≢◌, ◌↔◌, ℕ, ◌<◌, Bool, true, false, ◌||◌, List, [], ◌∷◌, ◌++◌, length, Option, Some, None, is_none, if◌then◌else◌}
use Rattle.std.specs.FinMap.{get}
use Rattle.rev_cells.specs.declared.cell.Cell.{Cell}
use Rattle.rev_cells.specs.declared.cell.Cell.TheVariants as cell
use Rattle.std.specs.List.{AllByRecursion}
use Rattle.rev_manifest.specs.Manifest.{BuildValue, ManifestValue}
use Rattle.rev_graph.specs.Graph.{GraphValue, IsGraph, build_at, outputs_of, producer_of}
use Rattle.rev_cells.specs.State.{State, mark_of, deps_of, given_depth_of, is_halted}
use Rattle.rev_cells.specs.declared.mark.Mark.{Mark}
use Rattle.rev_cells.specs.declared.mark.Mark.TheVariants as mark
use Rattle.rev_dirty.specs.Inputs.{paths_in}
use Rattle.rev_dirty.specs.Reasons.{holds_at, is_missing}
use Rattle.rev_causal.specs.Machine.{Legal, run}
use Rattle.rev_events.specs.declared.event.Event.{Event}
use Rattle.rev_events.specs.Held.{IsHeldExactly, IsOpened}
use Rattle.rev_events.specs.Refusal.{is_settled, is_wanted_mark, is_through_mark}
use Rattle.rev_footprint.specs.Machine.{machine}
use Rattle.rev_history.specs.Timeline.{Numbered, Timeline, IsHistory, machine_at, kept_events}
use Rattle.rev_waits.specs.Waits.{Waits, waits}
use Rattle.rev_races.specs.Races.{IsRace, starts, is_plan, lists, recorded}

-- the test of waiting is exact
abbrev pub WaitsIsDecided : Type 0
WaitsIsDecided = (builds : List BuildValue) (b a : ℕ) → (waits builds b a ≡ true) ↔ Waits builds b a

-- the events before the first plan
abbrev pub until_plan : Numbered → Numbered
until_plan [] = []
until_plan (e ∷ es) = if is_plan e.1 then [] else e ∷ until_plan es

-- Where b starts in a legal list from an opening, and waits for a, then a is settled there, and does not start before
-- the next plan.
abbrev pub StartsWaitInLists : Type 0
StartsWaitInLists =
    (manifest : ManifestValue) (jobs : ℕ) (opening : State) (before later : Numbered) (n : ℕ) (e : Event) (a b : ℕ)
    → IsOpened opening → Legal (machine manifest jobs) opening (before ++ (n, e) ∷ later)
    → starts manifest b e ≡ true → Waits manifest.builds b a
    → (is_settled (mark_of (run (machine manifest jobs) opening before) a) ≡ true)
    × AllByRecursion (λ (l : ℕ × Event). starts manifest a l.1 ≡ false) (until_plan later)

-- The same of the kept events of a history.
abbrev pub StartsWait : Type 0
StartsWait =
    (t : Timeline) (before later : Numbered) (n : ℕ) (e : Event) (a b : ℕ) → IsHistory t → IsOpened t.opening
    → kept_events t ≡ before ++ (n, e) ∷ later → starts t.manifest b e ≡ true → Waits t.manifest.builds b a
    → (is_settled (mark_of (run (machine_at t) t.opening before) a) ≡ true)
    × AllByRecursion (λ (l : ℕ × Event). starts t.manifest a l.1 ≡ false) (until_plan later)

-- what an edge lists is what the deps record of its first output has at the end
abbrev pub ListsAreRecorded : Type 0
ListsAreRecorded =
    (graph : GraphValue) (jobs : ℕ) (opening : State) (events : Numbered) (edge : ℕ) → IsGraph graph
    → edge < length graph.manifest.builds → lists graph.manifest opening events edge
    ≡ recorded (run (machine graph.manifest jobs) opening events) (build_at graph.manifest.builds edge)

-- What may stand between an edge and its end: nothing, where it is settled; a pass, where it is phony; and its own run,
-- where it is wanted and its first output is missing.
pub data CanEnd (s : State) (build : BuildValue) (m : Mark) : Type 0 where
  settled : is_settled m ≡ true → CanEnd s build m
  passes : build.phony ≡ true → (is_wanted_mark m || is_through_mark m) ≡ true → CanEnd s build m
  runs : build.phony ≡ false → m ≡ mark.Wanted → holds_at (is_missing s) (outputs_of build) 0 ≡ true → CanEnd s build m

-- A build as an accepted plan leaves it where only sources are there: nothing runs, no deps record lists a path, no
-- pool was given the depth 0, and each edge can end.
pub record IsReady (manifest : ManifestValue) (s : State) : Type 0 where
  pub held : IsHeldExactly manifest s
  pub going : is_halted s ≡ false
  pub unlisted : (path : List ℕ) → paths_in (deps_of s path) ≡ []
  pub roomy : (pool : ℕ) → given_depth_of s pool ≢ Some 0
  pub marks : (edge : ℕ) → edge < length manifest.builds → CanEnd s (build_at manifest.builds edge) (mark_of s edge)

-- the first slot of a pool, where there is one
abbrev pub first_slot : Option (ℕ × ℕ) → Option ℕ
first_slot None = None
first_slot (Some pool) = Some 0

-- Events that end with a start of the edge are accepted on one job, and leave each other edge that it does not wait for
-- as it was.
pub record StartsAlone (manifest : ManifestValue) (s : State) (b : ℕ) : Type 0 where
  pub before : Numbered
  pub n : ℕ
  pub e : Event
  pub legal : Legal (machine manifest 1) s (before ++ (n, e) ∷ [])
  pub begins : starts manifest b e ≡ true
  pub apart : (x : ℕ) → (Waits manifest.builds b x → ⊥) → mark_of (run (machine manifest 1) s before) x ≡ mark_of s x

-- a wanted edge with a command can start with nothing done but what it waits for
abbrev pub WaitingIsEnough : Type 0
WaitingIsEnough =
    (graph : GraphValue) (s : State) (b : ℕ) → IsGraph graph → IsReady graph.manifest s
    → b < length graph.manifest.builds → (build_at graph.manifest.builds b).phony ≡ false → mark_of s b ≡ mark.Wanted → StartsAlone graph.manifest s b

-- where nothing was ever built: only paths that no edge makes have stamps, and all other cells are at their defaults
abbrev pub is_source_stamp : List BuildValue → Cell → Bool
is_source_stamp builds (cell.Stamp path) = is_none (producer_of builds path)
is_source_stamp builds _ = false

abbrev pub HasSourcesAlone : List BuildValue → State → Type 0
HasSourcesAlone builds s = (c : Cell) → is_source_stamp builds c ≡ false → get s c ≡ None

-- From nothing, events are accepted on one job that end with a start of b, before which a is still wanted.
pub record CanStartBefore (manifest : ManifestValue) (b a : ℕ) : Type 0 where
  pub opening : State
  pub from_nothing : HasSourcesAlone manifest.builds opening
  pub before : Numbered
  pub n : ℕ
  pub e : Event
  pub legal : Legal (machine manifest 1) opening (before ++ (n, e) ∷ [])
  pub begins : starts manifest b e ≡ true
  pub wanted : mark_of (run (machine manifest 1) opening before) a ≡ mark.Wanted

-- of two edges with commands, one waits for the other exactly where, from nothing, it cannot start before it
abbrev pub ExactFromNothing : Type 0
ExactFromNothing =
    (graph : GraphValue) (a b : ℕ) → IsGraph graph → a < length graph.manifest.builds
    → b < length graph.manifest.builds → (build_at graph.manifest.builds a).phony ≡ false
    → (build_at graph.manifest.builds b).phony ≡ false
    → (Waits graph.manifest.builds b a → ⊥) ↔ CanStartBefore graph.manifest b a

-- each race can come to pass: from nothing, the edge that lists the path can start before the one that makes it
abbrev pub RacesAreReal : Type 0
RacesAreReal =
    (graph : GraphValue) (files : List (List ℕ)) (opening : State) (events : Numbered) (b a : ℕ) (path : List ℕ)
    → IsGraph graph → IsRace graph.manifest files opening events b a path → CanStartBefore graph.manifest b a
