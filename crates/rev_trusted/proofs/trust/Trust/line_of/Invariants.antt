use Rattle.std.proofs.Common.{◌≡◌, ◌+◌, ℕ, drop}
use Rattle.std.specs.Prelude.{position}
use Rattle.std.specs.Option.{option_map}
use Rattle.rev_trusted.specs.Trusts.{trusts}
use Rattle.rev_trusted.proofs.trust.Trust.line_of.Given as goal

abbrev pub invariant-loop-place : goal.invariant-loop-place
invariant-loop-place l = position (trusts l.flag) l.self.lines.items ≡ option_map (λ (n : ℕ). l.place + n) (position (trusts l.flag) (drop l.place l.self.lines.items))
