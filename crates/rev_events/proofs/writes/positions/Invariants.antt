use Rattle.std.proofs.Common.{◌≡◌, ◌++◌, map}
use Rattle.std.specs.Prelude.{filter}
use Rattle.std.specs.List.{range_with_len}
use Rattle.rev_dirty.specs.Reasons.{holds_at}
use Rattle.rev_events.proofs.writes.positions.Given as goal

abbrev pub invariant-loop-position : goal.invariant-loop-position
invariant-loop-position l =
    l.positions.items ≡ l.initial.positions.items ++ map (λ n. n) (filter (holds_at (λ flag. flag) l.flags) (range_with_len 0 l.position))
