use Rattle.std.proofs.Common.{◌≡◌, take, map}
use Rattle.rev_ranks.specs.Graph.{graph_of}
use Rattle.rev_entry_conflicts.specs.Touches.{touched_in}
use Rattle.rev_entry_conflicts.proofs.answer.touched_each.Given as goal

abbrev pub invariant-loop-command : goal.invariant-loop-command
invariant-loop-command l = graph_of l.lists.items ≡ map (touched_in l.count) (take l.command-index l.commands)
