use Rattle.std.proofs.Common.{ℕ, drop}
use Rattle.rev_held.specs.Firsts.{IsDown}
use Rattle.rev_held.proofs.ways.go_down.Given as goal

-- above those that are left all is found
abbrev pub invariant-loop-one : goal.invariant-loop-one
invariant-loop-one l =
    (n : ℕ) → IsDown l.history.timeline n l.down l.initial.firsts l.initial.pairs.items → IsDown l.history.timeline n (drop l.one-index l.down) l.firsts l.pairs.items
