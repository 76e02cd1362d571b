-- Orders that no access needs.
use Rattle.std.specs.Prelude.{ℕ, Bool, List}
use Rattle.std.specs.List.{Contains}
use Rattle.rev_ranks.specs.Graph.{Reaches, Steps, graph_of}
use Rattle.rev_ranks.specs.Sets.{IsMarked}
use Rattle.rev_needless.specs.declared.known.Known.{Known}
use Rattle.rev_needless.specs.Without.{without}

-- in the build without the orders that have a mark, the one waits for the other, where it does with them
abbrev pub Stays : Known → List (List Bool) → ℕ → ℕ → Type 0
Stays known gone user maker =
    Reaches (graph_of known.steps.items) user maker → Reaches (without (graph_of known.steps.items) gone) user maker

-- A set of orders is needless where the build without all of them is so:
-- - no two commands conflict unordered that did not before: each still waits for those of its list, as it did
-- - each target still needs each command that it needed
-- - a command of which not all is known still waits for the same commands, and the same commands still wait for it
pub record IsNeedless (known : Known) (gone : List (List Bool)) : Type 0 where
  pub ordered : (user maker : ℕ) → Steps (graph_of known.conflicts.items) user maker → Stays known gone user maker
  pub reached : (target : ℕ) → Contains known.targets.items target
      → (command : ℕ) → IsMarked known.commands.items command → Stays known gone target command
  pub below : (unseen : ℕ) → Contains known.unseen.items unseen
      → (command : ℕ) → IsMarked known.commands.items command → Stays known gone unseen command
  pub above : (unseen : ℕ) → Contains known.unseen.items unseen
      → (command : ℕ) → IsMarked known.commands.items command → Stays known gone command unseen
