use Rattle.std.proofs.Common.{◌≡◌, map, take}
use Rattle.rev_places.specs.Names.{own_name_of}
use Rattle.rev_places.proofs.names.own_names.Given as goal

abbrev pub invariant-loop-path : goal.invariant-loop-path
invariant-loop-path l = l.found.items ≡ map (own_name_of l.names.entries) (take l.path-index l.paths)
