use Rattle.std.proofs.Common.{◌≡◌, List, ℕ, map}
use Rattle.std.specs.List.{range_with_len}
use Rattle.std.specs.Global.{Vec}
use Rattle.rev_unlisted.specs.Found.{names_of}
use Rattle.rev_unlisted.specs.Joined.{extended_at}
use Rattle.rev_unlisted.proofs.joining.extended_lists.Given as goal

abbrev pub invariant-loop-edge : goal.invariant-loop-edge
invariant-loop-edge l =
    map (λ (each : Vec (List ℕ)). each.items) l.all.items
    ≡ map (extended_at l.graph.manifest.builds (names_of l.lists) l.names.entries) (range_with_len 0 l.edge)
