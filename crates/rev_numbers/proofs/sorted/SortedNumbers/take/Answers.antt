use Rattle.std.proofs.Common.{sym, subst}
use Rattle.rev_causal.specs.Chosen.{IsRising}
use Rattle.rev_numbers.proofs.RisingLemmas.{rising_without}
use Rattle.rev_numbers.proofs.sorted.SortedNumbers.take.Goals as goal

pub invariant_of-self : goal.invariant_of-self
invariant_of-self c = subst IsRising (sym c.take_from.ensures) (rising_without c.args.number c.self.inside.numbers.items c.self.invariant)
