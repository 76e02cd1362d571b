use Rattle.std.proofs.Common.{◌∙◌}
use Rattle.rev_numbers.proofs.RisingLemmas.{first_at}
use Rattle.rev_numbers.proofs.search.first_above.Goals as goal

pub returns : goal.returns
returns c =
    c.number_at.ensures
    ∙ first_at c.args.numbers.now c.place_above.result c.args.number c.place_above.ensures.within c.place_above.ensures.below c.place_above.ensures.above
