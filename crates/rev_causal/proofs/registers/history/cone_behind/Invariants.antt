use Rattle.std.proofs.Common.{◌≡◌, ◌++◌, ◌∷◌, drop, map}
use Rattle.rev_causal.specs.RegisterHistory.{entry_of}
use Rattle.rev_causal.proofs.JoinedFootprints.{cone_by}
use Rattle.rev_causal.proofs.registers.history.cone_behind.Given as goal

abbrev pub invariant-loop-k : goal.invariant-loop-k
invariant-loop-k l = l.numbers.items ++ cone_by l.members (map entry_of (drop l.k-index l.later)) ≡ l.first.number ∷ cone_by l.first.footprint (map entry_of l.later)
