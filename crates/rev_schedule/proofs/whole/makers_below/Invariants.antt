use Rattle.std.proofs.Common.{ℕ, ◌<◌, take}
use Rattle.std.specs.Global.{Vec}
use Rattle.std.specs.List.{All}
use Rattle.rev_schedule.proofs.whole.makers_below.Given as goal

abbrev pub invariant-loop-list : goal.invariant-loop-list
invariant-loop-list l = All (λ (v : Vec ℕ). All (λ n. n < l.bound) v.items) (take l.list-index l.makers)
