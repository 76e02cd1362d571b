use Rattle.std.proofs.Common.{ltb-true}
use Rattle.rev_numbers.proofs.RisingLemmas.{below-last}
use Rattle.rev_numbers.proofs.search.is_above_all.Goals as goal

pub returns-in-Some : goal.returns-in-Some
returns-in-Some c = λ less. below-last c.args.numbers.now c.in-Some.last.now c.args.number c.requires c.in-Some.ensures.value (ltb-true c.in-Some.last.now c.args.number less)
