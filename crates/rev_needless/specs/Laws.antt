-- What follows of needless orders.
use Rattle.std.specs.Prelude.{◌≡◌, ◌⊎◌, ℕ, Bool, true, List, []}
use Rattle.rev_ranks.specs.Graph.{Steps, graph_of}
use Rattle.rev_world.specs.Commands.{Command, Disk, Place}
use Rattle.rev_world.specs.Laws.{By}
use Rattle.rev_world.specs.Observed.{IsToldDetermined, NoneTold, TellsAll, Told, told_uses}
use Rattle.rev_world.specs.Schedules.{HasSameOutcome, IsComplete, IsLegal, opening, run}
use Rattle.rev_needless.specs.declared.known.Known.{Known}
use Rattle.rev_needless.specs.Needless.{IsNeedless}
use Rattle.rev_needless.specs.Staying.{waits}
use Rattle.rev_needless.specs.Without.{is_gone, without}

-- SETS
-- without a mark nothing changes
abbrev pub NothingIsNeedless : Type 0
NothingIsNeedless = (known : Known) → IsNeedless known []

-- each mark of the one set is one of the other
abbrev pub IsPart : List (List Bool) → List (List Bool) → Type 0
IsPart part gone = (n k : ℕ) → is_gone part n k ≡ true → is_gone gone n k ≡ true

-- So a line of a needless set can go alone. The converse is false: two lines that can each go alone need not go together.
abbrev pub PartIsNeedless : Type 0
PartIsNeedless =
    (known : Known) (part gone : List (List Bool)) → IsPart part gone → IsNeedless known gone → IsNeedless known part

-- OUTCOMES
-- the builds with all orders, and without the ones that have a mark
abbrev pub waits_with : Known → ℕ → ℕ → Bool
waits_with known = waits (graph_of known.steps.items)

abbrev pub waits_without : Known → List (List Bool) → ℕ → ℕ → Bool
waits_without known gone = waits (without (graph_of known.steps.items) gone)

-- the later one of the two has the other in its list
abbrev pub AreListed : Known → ℕ → ℕ → Type 0
AreListed known a b =
    (By (waits_with known) a b → Steps (graph_of known.conflicts.items) a b)
    × (By (waits_with known) b a → Steps (graph_of known.conflicts.items) b a)

-- The lists have what is told of commands at places. Of two commands, of which one leaves the place and the other uses it,
-- the later one has the other in its list. A command that asks for a folder has in its list one that determines that the
-- folder is there, or else it is so of the command and each one that ensures the folder.
pub record HasAll (known : Known) (told : ℕ → Told) : Type 0 where
  pub at_left : (a b : ℕ) (place : Place) → (told a).left place ≡ true → told_uses place (told b) ≡ true
      → AreListed known a b
  pub at_asked : (b : ℕ) (place : Place) → (told b).asked place ≡ true
      → ((d : IsToldDetermined (By (waits_with known)) told place b) × Steps (graph_of known.conflicts.items) b d.maker)
      ⊎ ((a : ℕ) → (told a).ensured place ≡ true → AreListed known a b)

-- Where no two commands conflict by what is told of them, and the lists have all of that, none conflict without needless
-- orders. Where what is told is all that the commands of one legal schedule did, each legal schedule of the build without
-- these orders, from the same disk, has its outcome.
pub record Assures (known : Known) (gone : List (List Bool)) (told : ℕ → Told) : Type 0 where
  pub none_told : NoneTold (By (waits_without known gone)) told
  pub one_outcome : (commands : ℕ → Command) (disk : Disk) (schedule other : List ℕ)
      → TellsAll told (run commands (opening disk) schedule).steps
      → IsLegal (By (waits_with known)) commands (opening disk) schedule
      → IsComplete commands (run commands (opening disk) schedule)
      → IsLegal (By (waits_without known gone)) commands (opening disk) other
      → HasSameOutcome commands (run commands (opening disk) schedule) (run commands (opening disk) other)

abbrev pub NeedlessOneOutcome : Type 0
NeedlessOneOutcome =
    (known : Known) (gone : List (List Bool)) (told : ℕ → Told)
    → NoneTold (By (waits_with known)) told → HasAll known told → IsNeedless known gone → Assures known gone told
