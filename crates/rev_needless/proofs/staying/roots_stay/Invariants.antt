use Rattle.std.proofs.Common.{◌≡◌, true, take}
use Rattle.std.specs.List.{list_all}
use Rattle.rev_ranks.specs.Graph.{graph_of}
use Rattle.rev_needless.specs.Staying.{each_command, still_waits}
use Rattle.rev_needless.proofs.staying.roots_stay.Given as goal

abbrev pub invariant-loop-root : goal.invariant-loop-root
invariant-loop-root l = list_all (λ root. each_command l.commands (still_waits (graph_of l.before) (graph_of l.after) root)) (take l.root-index l.roots) ≡ true
