use Rattle.std.proofs.Common.{◌≡◌, ◌++◌, take}
use Rattle.std.specs.List.{filter_map}
use Rattle.rev_places.specs.Names.{own_of}
use Rattle.rev_places.proofs.names.push_own_names.Given as goal

abbrev pub invariant-loop-path : goal.invariant-loop-path
invariant-loop-path l = l.found.items ≡ l.initial.found.items ++ filter_map (own_of l.names.entries) (take l.path-index l.paths)
