-- What follows where the conflicts of an observation tell no race and no clash.
use Rattle.std.specs.Prelude.{◌≡◌, ◌≢◌, ℕ, Bool, true, false, List, [], Some, slice_index_or}
use Rattle.std.specs.List.{Contains}
use Rattle.rev_paths.specs.Paths.{place_of}
use Rattle.rev_history.specs.Timeline.{Timeline}
use Rattle.rev_observed.specs.CommandValues.{CommandValue}
use Rattle.rev_conflicts.specs.declared.conflict.Conflict.{Conflict}
use Rattle.rev_conflicts.specs.declared.conflict.ConflictKind.{ConflictKind}
use Rattle.rev_conflicts.specs.declared.conflict.ConflictKind.TheVariants as kind
use Rattle.rev_conflicts.specs.declared.conflict.Look.{Look}
use Rattle.rev_conflicts.specs.declared.place.Place.TheVariants.{File, Entries}
use Rattle.rev_conflicts.specs.Answer.{AreConflicts}
use Rattle.rev_conflicts.specs.Conflicts.{Ran, Scene, runs_first}
use Rattle.rev_conflicts.specs.Places.{changes, folder_number, look_at}
use Rattle.rev_outcome.specs.Commands.{Command, Disk, Step}
use Rattle.rev_outcome.specs.Histories.{IsPlayed, Moment, end_of}
use Rattle.rev_outcome.specs.Schedules.{HasSameOutcome, IsComplete, leaves, uses}

-- THE OBSERVATION IS OF THESE STEPS
-- the command was seen to leave the path, to take it away, or to have it as a temporary, and no filter hides the path
pub record IsSeenToChange (s : Scene) (command : CommandValue) (path : List ℕ) : Type 0 where
  pub number : ℕ
  pub named : place_of path s.paths ≡ Some number
  pub changed : changes command number ≡ true
  pub shown : slice_index_or s.hidden number false ≡ false

-- it was seen to look at the path, or at the entries of the folder that has it
pub data IsSeenToLook (s : Scene) (command : CommandValue) (path : List ℕ) : Type 0 where
  at_file : {number : ℕ} {look : Look} → place_of path s.paths ≡ Some number
      → look_at command (File number) ≡ Some look → IsSeenToLook s command path
  at_entries : {number folder : ℕ} {look : Look} → place_of path s.paths ≡ Some number
      → folder_number s.paths number ≡ Some folder → look_at command (Entries folder) ≡ Some look
      → IsSeenToLook s command path

-- An edge's steps were observed: its command is in the observation, does not run before all else, and was seen to leave
-- what it left, and to look at what it looked at and another one left. A look at what it left itself need not be seen.
pub record IsObserved (s : Scene) (steps : ℕ → List Step) (edge : ℕ) : Type 0 where
  pub number : ℕ
  pub command : CommandValue
  pub ran : Ran s number edge command
  pub comes_later : runs_first s.builds s.files edge ≡ false
  pub changed : (path : List ℕ) → leaves path (steps edge) ≡ true → IsSeenToChange s command path
  pub looked : (path : List ℕ) (other : ℕ) → uses path (steps edge) ≡ true → leaves path (steps edge) ≡ false
      → other ≢ edge → leaves path (steps other) ≡ true → IsSeenToLook s command path

-- each edge that did a step was observed
abbrev pub AreObserved : Scene → (ℕ → List Step) → Type 0
AreObserved s steps = (edge : ℕ) → steps edge ≢ [] → IsObserved s steps edge

-- ONE OUTCOME BY THE ANSWER
-- neither of the two edges waits for the other
abbrev pub is_unordered : ConflictKind → Bool
is_unordered kind.Clash = true
is_unordered (kind.Race look change) = true
is_unordered (kind.Cycle look) = false
is_unordered (kind.Unstable look change) = false

abbrev pub NoneUnordered : List Conflict → Type 0
NoneUnordered conflicts = (c : Conflict) → Contains conflicts c → is_unordered c.kind ≡ false

-- Where the conflicts of an observation are no race and no clash, and the observation is that of a history which ends
-- with each command ended, each history of the same build lines, with the same commands from the same disk, has its
-- outcome.
abbrev pub NothingToldOneOutcome : Type 0
NothingToldOneOutcome =
    (s : Scene) (conflicts : List Conflict) (commands : ℕ → Command) (disk : Disk) (shown other : Timeline)
    (moments others : List Moment)
    → AreConflicts s conflicts → NoneUnordered conflicts → s.builds ≡ shown.manifest.builds
    → IsPlayed shown commands disk moments → IsComplete commands (end_of commands disk moments)
    → AreObserved s (end_of commands disk moments).steps
    → IsPlayed other commands disk others → other.manifest.builds ≡ shown.manifest.builds
    → HasSameOutcome commands (end_of commands disk moments) (end_of commands disk others)
