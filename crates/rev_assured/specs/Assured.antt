-- What a certificate assures.
use Rattle.std.specs.Prelude.{◌≡◌, ◌≢◌, ℕ, ◌<◌, Bool, true, false, List, [], length}
use Rattle.rev_ranks.specs.Sets.{is_marked}
use Rattle.rev_history.specs.Timeline.{Timeline}
use Rattle.rev_observed.specs.CommandValues.{CommandValue}
use Rattle.rev_observed.specs.Flags.{is_whole}
use Rattle.rev_conflicts.specs.Conflicts.{Ran, Scene}
use Rattle.rev_certified.specs.Certain.{IsCertain}
use Rattle.rev_outcome.specs.Commands.{Command, Disk, Step}
use Rattle.rev_outcome.specs.Histories.{IsPlayed, Moment, end_of}
use Rattle.rev_outcome.specs.Observed.{IsSeenToChange, IsSeenToLook}
use Rattle.rev_outcome.specs.Schedules.{HasSameOutcome, IsComplete, leaves, uses}

-- The observation of a command tells all that its edge did: it was seen to leave what it left, and to look at what it
-- looked at and another edge left. A look at what it left itself need not be seen.
pub record TellsAll (s : Scene) (steps : ℕ → List Step) (edge : ℕ) (command : CommandValue) : Type 0 where
  pub changed : (path : List ℕ) → leaves path (steps edge) ≡ true → IsSeenToChange s command path
  pub looked : (path : List ℕ) (other : ℕ) → uses path (steps edge) ≡ true → leaves path (steps edge) ≡ false
      → other ≢ edge → leaves path (steps other) ≡ true → IsSeenToLook s command path

-- An observation is trusted where each command without a flag tells all, and no edge did a step whose command is not
-- among those that began.
pub record IsTrusted (s : Scene) (began : List Bool) (steps : ℕ → List Step) : Type 0 where
  pub tell : (edge number : ℕ) (command : CommandValue) → Ran s number edge command
      → is_whole command.flags ≡ true → TellsAll s steps edge command
  pub edges : (edge : ℕ) → steps edge ≢ [] → edge < length s.builds
  pub begun : (edge : ℕ) → steps edge ≢ [] → is_marked began edge ≡ true

-- Where it is certain, and the observation is trusted, each history of the same build lines, with the same commands from
-- the same disk, has the outcome of the recorded one.
abbrev pub CertainOneOutcome : Type 0
CertainOneOutcome =
    (s : Scene) (needed began ended : List Bool) (commands : ℕ → Command) (disk : Disk) (shown other : Timeline)
    (moments others : List Moment)
    → IsCertain s needed began ended → s.builds ≡ shown.manifest.builds
    → IsPlayed shown commands disk moments → IsComplete commands (end_of commands disk moments)
    → IsTrusted s began (end_of commands disk moments).steps
    → IsPlayed other commands disk others → other.manifest.builds ≡ shown.manifest.builds
    → HasSameOutcome commands (end_of commands disk moments) (end_of commands disk others)
