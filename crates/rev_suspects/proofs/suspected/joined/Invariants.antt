use Rattle.std.proofs.Common.{◌≡◌, take}
use Rattle.std.specs.List.{flat_map}
use Rattle.rev_suspects.specs.Suspects.{lists_of}
use Rattle.rev_suspects.proofs.suspected.joined.Given as goal

abbrev pub invariant-loop-list : goal.invariant-loop-list
invariant-loop-list l = l.all.items ≡ flat_map (λ list. list) (lists_of (take l.list-index l.lists))
