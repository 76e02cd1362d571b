use Rattle.std.proofs.Common.{◌≡◌, List, ℕ, take}
use Rattle.rev_graph.specs.Entries.{entry, given}
use Rattle.std.specs.Option.{option_or}
use Rattle.rev_graph.specs.Graph.{has_path}
use Rattle.rev_graph.proofs.table.add.Given as goal

abbrev pub invariant-loop-name : goal.invariant-loop-name
invariant-loop-name l =
    (path : List ℕ) → entry l.table.entries path ≡ option_or (entry l.initial.table.entries path) (given (has_path (take l.name-index l.names) path) l.value)
