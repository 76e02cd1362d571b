use Rattle.std.proofs.Common.{◌≡◌, List, ℕ, map}
use Rattle.std.specs.List.{range_with_len}
use Rattle.std.specs.Global.{Vec}
use Rattle.rev_unlisted.specs.Found.{names_of}
use Rattle.rev_unlisted.specs.Joined.{chosen_at}
use Rattle.rev_unlisted.proofs.joining.joined_lists.Given as goal

abbrev pub invariant-loop-edge : goal.invariant-loop-edge
invariant-loop-edge l =
    names_of l.all.items
    ≡ map (chosen_at (names_of l.lists) (map (λ (each : Vec (List ℕ)). each.items) l.extended)) (range_with_len 0 l.edge)
