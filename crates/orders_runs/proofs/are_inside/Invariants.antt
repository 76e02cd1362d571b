use Rattle.std.proofs.Common.{◌<◌, ℕ, get_or, length}
use Rattle.std.specs.Global.{Vec}
use Rattle.std.specs.List.{All}
use Rattle.orders_runs.proofs.are_inside.Given as goal

abbrev pub invariant-loop-node : goal.invariant-loop-node
invariant-loop-node l = (k : ℕ) (d : Vec ℕ) → k < l.node → All (λ s. s < length l.steps) (get_or l.steps k d).items
