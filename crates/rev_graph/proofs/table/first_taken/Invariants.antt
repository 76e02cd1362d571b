use Rattle.std.proofs.Common.{◌≡◌, drop, find}
use Rattle.rev_graph.specs.Entries.{has_entry}
use Rattle.rev_graph.proofs.table.first_taken.Given as goal

abbrev pub invariant-loop-name : goal.invariant-loop-name
invariant-loop-name l = find (has_entry l.table.entries) (drop l.name-index l.names) ≡ find (has_entry l.table.entries) l.names
