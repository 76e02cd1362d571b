-- Commands that ask whether a folder is there before they make it.
use Rattle.std.specs.Prelude.{ℕ, Bool, true, false, List, [], ◌∷◌}
use Rattle.rev_world.specs.Commands.{Act, Act.Ask, Act.Leave, Act.Ensure, Act.End, Command, Disk, Look, Look.Entry, Place, Seen.Holds, Seen.Shows, Step, Step.Saw, Step.Left, Step.Ensured, Value, Value.Nothing, Value.File, Value.Folder, Value.Link}
use Rattle.rev_world.specs.Schedules.{HasSameOutcome, IsComplete, IsLegal, NoneConflict, World, opening, run}
use Rattle.rev_world.specs.Laws.{By, GoesThrough}

-- What a command that ensures folders did, read from the calls of one that asks first. Where the folder was missing, the
-- call that makes it is pending.
pub record Made : Type 0 where
  pub steps : List Step
  pub pending : Bool

-- The command asked for the folder. Where it was there, it is ensured. Where nothing was there, it is to be made next.
-- Where a file or a link was there, the command saw that.
abbrev pub by_look : Place → List Step → Look → Value → Made
by_look place steps look Nothing = record { steps = steps; pending = true }
by_look place steps look (File content) = record { steps = Saw look (Holds (File content)) ∷ steps; pending = false }
by_look place steps look Folder = record { steps = Ensured place ∷ steps; pending = false }
by_look place steps look (Link text) = record { steps = Saw look (Holds (Link text)) ∷ steps; pending = false }

abbrev pub as_done : List Step → Step → Made
as_done steps step = record { steps = step ∷ steps; pending = false }

abbrev pub by_first : Place → List Step → Step → Made
by_first place steps (Saw look (Holds value)) = by_look place steps look value
by_first place steps (Saw look (Shows shown)) = as_done steps (Saw look (Shows shown))
by_first place steps (Left left value) = as_done steps (Left left value)
by_first place steps (Ensured ensured) = as_done steps (Ensured ensured)

abbrev pub by_call : Act → List Step → Bool → Step → Made
by_call (Ensure place) steps false step = by_first place steps step
by_call (Ensure place) steps true step = as_done steps step
by_call (Ask look) steps pending step = as_done steps step
by_call (Leave place value) steps pending step = as_done steps step
by_call (End status) steps pending step = as_done steps step

abbrev pub made : Command → List Step → Made
made command [] = record { steps = []; pending = false }
made command (step ∷ calls) =
    by_call (command (made command calls).steps) (made command calls).steps (made command calls).pending step

-- The command that asks first: where the other one ensures a folder, it asks for the folder, and makes it only where
-- nothing was there.
abbrev pub next_call : Act → Bool → Act
next_call (Ensure place) false = Ask (Entry place)
next_call (Ensure place) true = Ensure place
next_call (Ask look) pending = Ask look
next_call (Leave place value) pending = Leave place value
next_call (End status) pending = End status

abbrev pub asking_first : Command → Command
asking_first command calls = next_call (command (made command calls).steps) (made command calls).pending

-- the world, with the calls read as steps of commands that ensure
abbrev pub as_made : (ℕ → Command) → World → World
as_made commands world = record { disk = world.disk; steps = λ edge. (made (commands edge) (world.steps edge)).steps }

-- Where commands ask before they make a folder, and do the same whatever they are told, the law holds of what they
-- ensure: such a look does not count. Any steps may stand between the look and the call that makes the folder.
abbrev pub MakersMayAsk : Type 0
MakersMayAsk =
    (waits : ℕ → ℕ → Bool) → GoesThrough waits
    → (commands : ℕ → Command) (disk : Disk) (schedule other : List ℕ)
    → IsLegal (By waits) (λ edge. asking_first (commands edge)) (opening disk) schedule
    → IsComplete (λ edge. asking_first (commands edge)) (run (λ edge. asking_first (commands edge)) (opening disk) schedule)
    → NoneConflict (By waits) (as_made commands (run (λ edge. asking_first (commands edge)) (opening disk) schedule)).steps
    → IsLegal (By waits) (λ edge. asking_first (commands edge)) (opening disk) other
    → HasSameOutcome commands (as_made commands (run (λ edge. asking_first (commands edge)) (opening disk) schedule))
    (as_made commands (run (λ edge. asking_first (commands edge)) (opening disk) other))
