-- Laws of conflicts.
use Rattle.std.specs.Prelude.{◌≡◌, ◌≢◌, ◌⊎◌, ℕ, true, false, List, ◌∷◌, ◌++◌, Some, slice_get, slice_index_or}
use Rattle.std.specs.List.{AllByRecursion, Contains}
use Rattle.rev_manifest.specs.Manifest.{BuildValue}
use Rattle.rev_graph.specs.Graph.{GraphValue, IsGraph, producer_of}
use Rattle.rev_cells.specs.State.{State, mark_of}
use Rattle.rev_plan.specs.Plan.{is_running_mark}
use Rattle.rev_causal.specs.Machine.{run}
use Rattle.rev_events.specs.declared.event.Event.{Event}
use Rattle.rev_events.specs.Held.{IsOpened}
use Rattle.rev_history.specs.Timeline.{IsHistory, Numbered, Timeline, kept_events, machine_at}
use Rattle.rev_waits.specs.Waits.{Waits}
use Rattle.rev_observed.specs.CommandValues.{CommandValue}
use Rattle.rev_observed.specs.declared.kind.Kind.TheVariants.{Writes}
use Rattle.rev_races.specs.Races.{IsRace, is_plan, starts}
use Rattle.rev_conflicts.specs.declared.conflict.Conflict.{Conflict}
use Rattle.rev_conflicts.specs.declared.conflict.Look.{Look}
use Rattle.rev_conflicts.specs.declared.place.Place.TheVariants.{File}
use Rattle.rev_conflicts.specs.Places.{does, look_at}
use Rattle.rev_conflicts.specs.Conflicts.{Ran, Scene}
use Rattle.rev_conflicts.specs.Answer.{IsConflict}

-- WHO WROTE IT LAST
-- one of two edges waits for the other
abbrev pub AreOrdered : List BuildValue → ℕ → ℕ → Type 0
AreOrdered builds a b = Waits builds a b ⊎ Waits builds b a

-- Of the edges that leave a place, and of these and an edge b that has to do with it, each two are ordered: no two
-- unordered edges conflict there.
pub record NoneConflict (builds : List BuildValue) (leavers : List ℕ) (b : ℕ) : Type 0 where
  pub leavers_are : (x y : ℕ) → Contains leavers x → Contains leavers y → x ≢ y → AreOrdered builds x y
  pub user_is : (x : ℕ) → Contains leavers x → x ≢ b → AreOrdered builds x b

-- the last of them before b, by the build lines alone: b waits for it, and it waits for each other one for which b waits
pub record IsLast (builds : List BuildValue) (leavers : List ℕ) (b last : ℕ) : Type 0 where
  pub leaves : Contains leavers last
  pub before : Waits builds b last
  pub others : (x : ℕ) → Contains leavers x → x ≢ last → Waits builds b x → Waits builds last x

-- Of the edges for which b waits there is none that leaves the place, or there is the last one of them.
abbrev pub NoneOrLast : List BuildValue → List ℕ → ℕ → Type 0
NoneOrLast builds leavers b =
    ((x : ℕ) → Contains leavers x → Waits builds b x → ⊥) ⊎ ((last : ℕ) × IsLast builds leavers b last)

-- in every history, while b runs no other edge that leaves the place does
abbrev pub NoneBeside : Timeline → List ℕ → ℕ → Type 0
NoneBeside t leavers b =
    (before later : Numbered) (x : ℕ) → kept_events t ≡ before ++ later → Contains leavers x → x ≢ b
    → is_running_mark (mark_of (run (machine_at t) t.opening before) b) ≡ true
    → is_running_mark (mark_of (run (machine_at t) t.opening before) x) ≡ false

-- Where b starts after the last one did, and no plan stands between, no other edge that leaves the place starts between
-- the two: so what b finds there is what the last one left.
abbrev pub LastIsLast : Timeline → List ℕ → ℕ → ℕ → Type 0
LastIsLast t leavers b last =
    (early since later : Numbered) (k n : ℕ) (f e : Event) (x : ℕ)
    → kept_events t ≡ early ++ (k, f) ∷ (since ++ (n, e) ∷ later) → starts t.manifest last f ≡ true
    → starts t.manifest b e ≡ true → AllByRecursion (λ (l : ℕ × Event). is_plan l.1 ≡ false) since
    → Contains leavers x → x ≢ b → x ≢ last
    → AllByRecursion (λ (l : ℕ × Event). starts t.manifest x l.1 ≡ false) since

-- Where no two unordered edges conflict at a place, who leaves it last before b starts is the same in every history, and
-- none of the others is at work on it while b runs.
pub record WroteItLast (builds : List BuildValue) (leavers : List ℕ) (b : ℕ) : Type 0 where
  pub last : NoneOrLast builds leavers b
  pub beside : (t : Timeline) → IsHistory t → IsOpened t.opening → t.manifest.builds ≡ builds → NoneBeside t leavers b
  pub is_last : (t : Timeline) (last : ℕ) → IsHistory t → IsOpened t.opening → t.manifest.builds ≡ builds
      → IsLast builds leavers b last → LastIsLast t leavers b last

abbrev pub WhoWroteItLast : Type 0
WhoWroteItLast =
    (builds : List BuildValue) (leavers : List ℕ) (b : ℕ) → NoneConflict builds leavers b
    → WroteItLast builds leavers b

-- RACES ARE CONFLICTS
-- what is told of two edges at a place, in either order
pub record IsToldOf (s : Scene) (a b path : ℕ) : Type 0 where
  pub conflict : Conflict
  pub is : IsConflict s conflict
  pub place_is : conflict.place ≡ File path
  pub edges_are : ((conflict.maker ≡ a) × (conflict.user ≡ b)) ⊎ ((conflict.maker ≡ b) × (conflict.user ≡ a))

-- A race of a history, by its lists, is told by the observation too, where the user looks at what it lists, and the
-- maker leaves what it makes, and no filter hides the path.
abbrev pub RacesAreConflicts : Type 0
RacesAreConflicts =
    (s : Scene) (graph : GraphValue) (opening : State) (events : Numbered) (b a : ℕ) (path : List ℕ)
    (number made_by used_by : ℕ) (made used : CommandValue) (look : Look)
    → IsGraph graph → s.builds ≡ graph.manifest.builds
    → IsRace graph.manifest s.files opening events b a path
    → Ran s made_by a made → Ran s used_by b used
    → slice_get s.paths number ≡ Some path → slice_index_or s.hidden number false ≡ false
    → producer_of s.builds path ≡ Some a → does Writes made number ≡ true
    → look_at used (File number) ≡ Some look
    → IsToldOf s a b number
