use Rattle.std.proofs.Common.{◌<◌, ℕ, length, get_or}
use Rattle.std.specs.Global.{Vec}
use Rattle.std.specs.List.{All}
use Rattle.rev_needless.proofs.graphs.are_inside.Given as goal

abbrev pub invariant-loop-node : goal.invariant-loop-node
invariant-loop-node l = (n : ℕ) → n < l.node → (d : Vec ℕ) → All (λ s. s < length l.steps) (get_or l.steps n d).items
