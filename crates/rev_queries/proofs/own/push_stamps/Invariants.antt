use Rattle.std.proofs.Common.{◌≡◌, ◌++◌, map, take}
use Rattle.rev_cells.specs.State.{stamp_of}
use Rattle.rev_queries.proofs.own.push_stamps.Given as goal

-- those of the paths so far
abbrev pub invariant-loop-path : goal.invariant-loop-path
invariant-loop-path l =
    l.stamps.items ≡ l.initial.stamps.items ++ map (stamp_of l.cells.state) (take l.path-index l.paths)
