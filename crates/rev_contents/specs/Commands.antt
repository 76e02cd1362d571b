-- Commands as functions of the replies that they have so far.
use Rattle.std.specs.Prelude.{◌≡◌, ◌↔◌, List, [], ◌∷◌, Contains}
use Rattle.rev_contents.specs.declared.looks.Left.{Left}
use Rattle.rev_contents.specs.Runs.{Knows, Question, Run, Step}

-- What a command does next: it asks a question, or ends and has left this.
pub data Act : Type 0 where
  Asks : Question → Act
  Ends : List Left → Act

-- A command decides what it does next by its questions and their replies so far, the oldest first, and by nothing else.
abbrev pub Command : Type 0
Command = List Step → Act

-- The command, whose questions get these replies in this order, asks them one by one and then has left this.
abbrev pub Does : Command → List Step → List Left → Type 0
Does command [] left = command [] ≡ Ends left
Does command (step ∷ steps) left =
    (command [] ≡ Asks step.question) × Does (λ later. command (step ∷ later)) steps left

-- The run is one of the command's: in some order of the run's questions the command asks these and no others, and leaves
-- what the run left.
pub record Explains (command : Command) (run : Run) : Type 0 where
  pub steps : List Step
  pub exact : (step : Step) → Contains steps step ↔ Knows run step
  pub does : Does command steps run.left
