use Rattle.std.proofs.Common.{◌≡◌, [], replicate}
use Rattle.rev_several.specs.Holders.{lists_of}
use Rattle.rev_several.proofs.shared.empty_lists.Given as goal

abbrev pub invariant-loop-number : goal.invariant-loop-number
invariant-loop-number l = lists_of l.lists.items ≡ replicate l.number []
