-- What a user is judged by.
use Rattle.std.specs.Prelude.{◌≡◌, ℕ, ◌<◌, Bool, true, false, ◌↔◌, List, length, slice_index_or}
use Rattle.std.specs.Global.{Vec}
use Rattle.std.specs.List.{All, filter}
use Rattle.rev_ranks.specs.Graph.{Reaches, graph_of}
use Rattle.rev_entry_conflicts.specs.declared.deed.Command.{Command}
use Rattle.rev_entry_conflicts.specs.declared.deed.Entry.{Entry}
use Rattle.rev_entry_conflicts.specs.declared.conflict.Kind.{Kind}
use Rattle.rev_entry_conflicts.specs.Conflicts.{is_kind, kind_at, places}
use Rattle.rev_entry_conflicts.specs.Deeds.{Scene, waits_in}

-- the scene of these
abbrev pub scene : List (Vec ℕ) → List Entry → List Command → Scene
scene steps entries commands = record { steps = graph_of steps; entries = entries; commands = commands }

-- each edge steps to edges
abbrev pub AreEdges : List (Vec ℕ) → Type 0
AreEdges steps = All (λ (v : Vec ℕ). All (λ s. s < length steps) v.items) steps

-- the edge of each command is one
abbrev pub AreOfEdges : List (Vec ℕ) → List Command → Type 0
AreOfEdges steps commands = All (λ (c : Command). c.edge < length steps) commands

-- exactly what a node reaches has a mark
pub record AreReached (graph : List (List ℕ)) (node : ℕ) (marks : List Bool) : Type 0 where
  pub each : length marks ≡ length graph
  pub exact : (n : ℕ) → (slice_index_or marks n false ≡ true) ↔ Reaches graph node n

-- a mark for each edge: whether an edge waits for it, and whether it waits for that edge
pub record IsOrder (steps : List (List ℕ)) (edge : ℕ) (waited waiting : List Bool) : Type 0 where
  pub each : length waited ≡ length steps
  pub also : length waiting ≡ length steps
  pub waited_is : (n : ℕ) → slice_index_or waited n false ≡ waits_in steps edge n
  pub waiting_is : (n : ℕ) → slice_index_or waiting n false ≡ waits_in steps n edge

-- A list has each entry at which the two conflict in some way.
abbrev pub AreEnough : Scene → Command → Command → List ℕ → Type 0
AreEnough s made used numbers =
    (kind : Kind) → filter (λ n. is_kind kind (kind_at s made used n)) numbers ≡ places s made used kind
