-- Commands that ask whether a folder is there before they look for entries of it, as compilers do.
use Rattle.std.specs.Prelude.{◌≡◌, ◌≢◌, ℕ, Bool, true, false, List, [], ◌∷◌}
use Rattle.rev_world.specs.Commands.{Act, Act.Ask, Act.Leave, Act.Ensure, Act.End, Command, Disk, Look.Entry, Look.Way, Look.Names, Place, Seen.Holds, Seen.Shows, Step, Step.Saw, Step.Left, Step.Ensured, Value, Value.Nothing, Value.File, Value.Folder, Value.Link, is_entry_of}
use Rattle.rev_world.specs.Schedules.{HasSameOutcome, IsComplete, IsLegal, NoneConflict, World, after, opening, run}
use Rattle.rev_world.specs.Laws.{By, GoesThrough}
use Rattle.rev_world.specs.Making.{Made, as_done}

-- The command asked for its search folder. Where the folder was there, the command asks for its entries next. Else this
-- counts as a look at the entries that showed nothing.
abbrev pub by_folder : (Place → Bool) → List Step → Value → Made
by_folder test steps Folder = record { steps = steps; pending = true }
by_folder test steps Nothing = as_done steps (Saw (Names test) (Shows (λ place. Nothing)))
by_folder test steps (File content) = as_done steps (Saw (Names test) (Shows (λ place. Nothing)))
by_folder test steps (Link text) = as_done steps (Saw (Names test) (Shows (λ place. Nothing)))

abbrev pub by_first : (Place → Bool) → List Step → Step → Made
by_first test steps (Saw look (Holds value)) = by_folder test steps value
by_first test steps (Saw look (Shows shown)) = as_done steps (Saw look (Shows shown))
by_first test steps (Left left value) = as_done steps (Left left value)
by_first test steps (Ensured ensured) = as_done steps (Ensured ensured)

abbrev pub by_call : Act → List Step → Bool → Step → Made
by_call (Ask (Names test)) steps false step = by_first test steps step
by_call (Ask (Names test)) steps true step = as_done steps step
by_call (Ask (Entry place)) steps pending step = as_done steps step
by_call (Ask (Way place)) steps pending step = as_done steps step
by_call (Ensure place) steps pending step = as_done steps step
by_call (Leave place value) steps pending step = as_done steps step
by_call (End status) steps pending step = as_done steps step

abbrev pub found : Command → List Step → Made
found command [] = record { steps = []; pending = false }
found command (step ∷ calls) =
    by_call (command (found command calls).steps) (found command calls).steps (found command calls).pending step

-- The command that searches: where the other one asks for entries of its search folder, it asks for the folder, and for
-- the entries only where the folder was there.
abbrev pub next_call : Place → Act → Bool → Act
next_call search (Ask (Names test)) false = Ask (Entry search)
next_call search (Ask (Names test)) true = Ask (Names test)
next_call search (Ask (Entry place)) pending = Ask (Entry place)
next_call search (Ask (Way place)) pending = Ask (Way place)
next_call search (Ensure place) pending = Ensure place
next_call search (Leave place value) pending = Leave place value
next_call search (End status) pending = End status

abbrev pub searching : (ℕ → Place) → (ℕ → Command) → ℕ → Command
searching search commands edge calls =
    next_call (search edge) (commands edge (found (commands edge) calls).steps) (found (commands edge) calls).pending

abbrev pub as_found : (ℕ → Command) → World → World
as_found commands world = record { disk = world.disk; steps = λ edge. (found (commands edge) (world.steps edge)).steps }

-- each look by names is at entries of the search folder
abbrev pub AreSearched : (ℕ → Place) → (ℕ → Command) → Type 0
AreSearched search commands =
    (edge : ℕ) (steps : List Step) (test : Place → Bool) → commands edge steps ≡ Ask (Names test)
    → (place : Place) → test place ≡ true → is_entry_of (search edge) place ≡ true

-- Nothing stands below a place that is not a folder, as on each disk.
abbrev pub NothingBelow : Disk → Type 0
NothingBelow disk = (folder : Place) (name : List ℕ) → disk folder ≢ Folder → disk (name ∷ folder) ≡ Nothing

-- so it is all along a schedule
abbrev pub IsSound : (ℕ → Command) → World → List ℕ → Type 0
IsSound commands world [] = Unit {0}
IsSound commands world (edge ∷ edges) = NothingBelow world.disk × IsSound commands (after commands world edge) edges

-- Where commands ask for their search folder before its entries, and take a missing folder for an empty one, the law holds
-- of the entries: the look at the folder does not count. A folder that was missing counts as a listing that showed
-- nothing.
abbrev pub SearchersMayAsk : Type 0
SearchersMayAsk =
    (waits : ℕ → ℕ → Bool) → GoesThrough waits
    → (search : ℕ → Place) (commands : ℕ → Command) → AreSearched search commands
    → (disk : Disk) (schedule other : List ℕ)
    → IsLegal (By waits) (searching search commands) (opening disk) schedule
    → IsSound (searching search commands) (opening disk) schedule
    → IsComplete (searching search commands) (run (searching search commands) (opening disk) schedule)
    → NoneConflict (By waits) (as_found commands (run (searching search commands) (opening disk) schedule)).steps
    → IsLegal (By waits) (searching search commands) (opening disk) other
    → IsSound (searching search commands) (opening disk) other
    → HasSameOutcome commands (as_found commands (run (searching search commands) (opening disk) schedule))
    (as_found commands (run (searching search commands) (opening disk) other))
