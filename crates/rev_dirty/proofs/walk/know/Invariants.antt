use Rattle.std.proofs.Common.{map}
use Rattle.rev_dirty.specs.declared.walk.Task.TheVariants.{Enter}
use Rattle.rev_dirty.specs.Walk.{IsWalk, GoesOn, work_left}
use Rattle.rev_dirty.proofs.walk.know.Given as goal

abbrev pub invariant-loop-task : goal.invariant-loop-task
invariant-loop-task l =
    record {
      walk : IsWalk l.graph.manifest.builds l.cells.state l.known.entries l.tasks.items;
      goes_on : GoesOn l.fn.known.entries (map Enter l.edges.items) l.known.entries l.tasks.items;
    }

abbrev pub decreases-loop-task : goal.decreases-loop-task
decreases-loop-task l = work_left l.graph.manifest.builds l.cells.state l.graph.ranks l.tasks.items
