use Rattle.std.proofs.Common.{ℕ, List, subst, sym}
use Rattle.rev_causal.specs.Chosen.{IsRising}
use Rattle.rev_commands.specs.declared.point.Point.{Point}
use Rattle.rev_desk.specs.BreakKeys.{numbers_of}
use Rattle.rev_desk.proofs.desk.Desk.breaks.Goals as goal

pub returns-clause-rising : goal.returns-clause-rising
returns-clause-rising c = subst (λ (bs : List (ℕ × Point)). IsRising (numbers_of bs)) (sym c.standing.ensures) c.self.invariant.ready.breaks.rising
