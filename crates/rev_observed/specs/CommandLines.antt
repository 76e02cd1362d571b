-- The line of a command, by the command's place among the commands: the lines before it say an observation without such
-- a command, and with this line they say one that has it.
use Rattle.std.specs.Prelude.{◌≡◌, ℕ, ◌+◌, ◌<◌, ◌≤◌, List, ◌∷◌, ◌++◌, length, Ok}
use Rattle.rev_observed.specs.Lines.{line_added}
use Rattle.rev_observed.specs.Observations.{ObservationValue}
use Rattle.rev_observed.specs.Says.{LinesSay, Says}

pub record IsCommandLine (lines : List (List ℕ)) (place line : ℕ) : Type 0 where
  pub before : List (List ℕ)
  pub text : List ℕ
  pub after : List (List ℕ)
  pub whole : lines ≡ before ++ text ∷ after
  pub number : line ≡ length before + 1
  pub said : ObservationValue
  pub says : LinesSay before said
  pub missing : length said.commands ≤ place
  pub more : ObservationValue
  pub adds : line_added said text ≡ Ok more
  pub has : place < length more.commands

-- the same of lines behind the first two, of which the lines of a text are counted
pub record IsLineAmong (o : ObservationValue) (lines : List (List ℕ)) (place line : ℕ) : Type 0 where
  pub before : List (List ℕ)
  pub text : List ℕ
  pub after : List (List ℕ)
  pub whole : lines ≡ before ++ text ∷ after
  pub number : line ≡ length before + 3
  pub said : ObservationValue
  pub says : Says o before said
  pub missing : length said.commands ≤ place
  pub more : ObservationValue
  pub adds : line_added said text ≡ Ok more
  pub has : place < length more.commands
