use Rattle.std.proofs.Common.{◌≡◌, ◌<◌, ℕ, true}
use Rattle.rev_needless.specs.Without.{is_gone, marks_in}
use Rattle.rev_needless.proofs.parts.is_part.Given as goal

abbrev pub invariant-loop-node : goal.invariant-loop-node
invariant-loop-node l = (n : ℕ) → n < l.node → (k : ℕ) → is_gone (marks_in l.part) n k ≡ true → is_gone (marks_in l.whole) n k ≡ true
