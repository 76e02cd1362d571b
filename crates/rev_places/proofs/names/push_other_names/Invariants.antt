use Rattle.std.proofs.Common.{◌≡◌, ◌++◌, take}
use Rattle.std.specs.List.{filter_map}
use Rattle.rev_places.specs.Names.{other_of}
use Rattle.rev_places.proofs.names.push_other_names.Given as goal

abbrev pub invariant-loop-place : goal.invariant-loop-place
invariant-loop-place l =
    l.found.items ≡ l.initial.found.items ++ filter_map (other_of l.owns) (take l.place l.names.entries)
