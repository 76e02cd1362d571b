use Rattle.rev_numbers.proofs.sorted.SortedNumbers.take_member.Goals as goal

pub invariant_of-self : goal.invariant_of-self
invariant_of-self c = c.take_member_from.ensures.order
