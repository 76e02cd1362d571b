use Rattle.std.proofs.Common.{◌≡◌, take, nat_lt}
use Rattle.std.specs.Prelude.{filter}
use Rattle.rev_held.proofs.ways.down_from.Given as goal

abbrev pub invariant-loop-one : goal.invariant-loop-one
invariant-loop-one l = l.down.items ≡ filter (λ k. nat_lt k l.number) (take l.one-index l.kept)
