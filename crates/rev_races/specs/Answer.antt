-- The answer: what is told, each once, in the order of the numbers of maker and user and of the path's place in the
-- user's list.
use Rattle.std.specs.Prelude.{◌≡◌, ◌≢◌, ℕ, ◌<◌, ◌↔◌, Bool, false, List, [], ◌∷◌, map, length, is_some, Some, slice_get, slice_index_or, if◌then◌else◌}
use Rattle.std.specs.List.{Contains, list_any}
use Rattle.std.specs.List.Sorted.{IsStrictlySortedBy}
use Rattle.std.specs.Ordering.{nat_cmp}
use Rattle.std.specs.Cmp.Lexicographic.{slice_cmp}
use Rattle.rev_manifest.specs.Manifest.{BuildValue, ManifestValue}
use Rattle.rev_cells.specs.State.{State}
use Rattle.rev_events.specs.declared.event.Event.{Event}
use Rattle.rev_history.specs.Timeline.{Numbered, Timeline, kept_events}
use Rattle.rev_waits.specs.Waits.{Waits}
use Rattle.rev_races.specs.declared.race.Kind.{Kind}
use Rattle.rev_races.specs.declared.race.Kind.TheVariants as kind
use Rattle.rev_races.specs.declared.race.Race.{Race}
use Rattle.rev_races.specs.Races.{IsOwn, IsRace, MakesOneOf, list_of, starts}

-- the event begins the edge's command, or, where that is asked, ends it well
abbrev pub is_noted : ManifestValue → Bool → ℕ → Event → Bool
is_noted manifest ended edge e = if ended then is_some (list_of manifest edge e) else starts manifest edge e

-- A mark for each edge: it has one exactly where a kept event does so.
pub record AreNoted (t : Timeline) (ended : Bool) (marks : List Bool) : Type 0 where
  pub each : length marks ≡ length t.manifest.builds
  pub exact : (edge : ℕ) → edge < length t.manifest.builds
      → slice_index_or marks edge false
      ≡ list_any (λ (e : ℕ × Event). is_noted t.manifest ended edge e.1) (kept_events t)

-- nothing orders a before b: it is not b, b does not wait for it, and it makes none of the files that are read before
-- all else
pub record IsUnordered (builds : List BuildValue) (files : List (List ℕ)) (b a : ℕ) : Type 0 where
  pub others : a ≢ b
  pub unordered : Waits builds b a → ⊥
  pub comes_later : MakesOneOf builds files a → ⊥

-- the edge is to be told beside b: it is b itself, or nothing orders it before
pub data IsToTell (builds : List BuildValue) (files : List (List ℕ)) (b a : ℕ) : Type 0 where
  itself : a ≡ b → IsToTell builds files b a
  another : IsUnordered builds files b a → IsToTell builds files b a

-- the path at this place stands at none before it
abbrev pub IsFirstPlace : List (List ℕ) → ℕ → Type 0
IsFirstPlace paths place =
    (before : ℕ) → before < place → slice_index_or paths before [] ≢ slice_index_or paths place []

-- A race by numbers: what b lists has at this place, and at none before it, a path that a makes, and nothing orders a
-- before b.
pub record IsRaceAt
    (manifest : ManifestValue) (files : List (List ℕ)) (opening : State) (events : Numbered) (b a place : ℕ)
    : Type 0 where
  pub path : List ℕ
  pub race : IsRace manifest files opening events b a path
  pub stands : slice_get race.all place ≡ Some path
  pub first : IsFirstPlace race.all place

-- An edge's own by numbers: what it lists has at this place, and at none before it, a path that it makes itself.
pub record IsOwnAt (manifest : ManifestValue) (opening : State) (events : Numbered) (edge place : ℕ) : Type 0 where
  pub path : List ℕ
  pub own : IsOwn manifest opening events edge path
  pub stands : slice_get own.all place ≡ Some path
  pub first : IsFirstPlace own.all place

-- What is told of b, a and a place of b's list, by its kind: a race, where a does not wait for b; a cycle, where it
-- does; and an edge's own.
pub data IsTold
    (manifest : ManifestValue) (files : List (List ℕ)) (opening : State) (events : Numbered) (b a place : ℕ)
    : Kind → Type 0 where
  races : IsRaceAt manifest files opening events b a place → (Waits manifest.builds a b → ⊥)
      → IsTold manifest files opening events b a place kind.Race
  cycles : IsRaceAt manifest files opening events b a place → Waits manifest.builds a b
      → IsTold manifest files opening events b a place kind.Cycle
  owns : a ≡ b → IsOwnAt manifest opening events b place → IsTold manifest files opening events b a place kind.Own

abbrev pub race_key : Race → List ℕ
race_key r = r.maker ∷ r.user ∷ r.place ∷ []

-- exactly what is to be told, each once, in the order of these numbers
pub record AreRaces
    (manifest : ManifestValue) (files : List (List ℕ)) (opening : State) (events : Numbered) (races : List Race)
    : Type 0 where
  pub exact : (r : Race) → Contains races r ↔ IsTold manifest files opening events r.user r.maker r.place r.kind
  pub rising : IsStrictlySortedBy (slice_cmp nat_cmp) (map race_key races)
