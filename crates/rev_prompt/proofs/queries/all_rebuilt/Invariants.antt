use Rattle.std.proofs.Common.{◌≡◌, map, take}
use Rattle.rev_prompt.specs.Found.{rebuilt_of}
use Rattle.rev_prompt.proofs.queries.all_rebuilt.Given as goal

-- those so far
abbrev pub invariant-loop-rebuild : goal.invariant-loop-rebuild
invariant-loop-rebuild l =
    l.told.items ≡ map (rebuilt_of l.graph.manifest.builds l.cells.state) (take l.rebuild-index l.rebuilds)
