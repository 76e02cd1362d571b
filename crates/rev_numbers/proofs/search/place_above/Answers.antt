use Rattle.std.proofs.Common.{◌+◌}
use Rattle.rev_numbers.proofs.RisingLemmas.{IsPlaceAbove, place_after, place_from}
use Rattle.rev_numbers.proofs.search.place_above.Goals as goal

pub returns-in-Ok : goal.returns-in-Ok
returns-in-Ok c =
    let h : IsPlaceAbove c.args.numbers.now (c.in-Ok.place + 1) c.args.number = place_after c.args.numbers.now c.in-Ok.place c.args.number c.requires c.in-Ok.ensures.position in
    record { within = h.within; below = h.below; above = h.above }

pub returns-in-Err : goal.returns-in-Err
returns-in-Err c =
    let h : IsPlaceAbove c.args.numbers.now c.in-Err.place c.args.number = place_from c.args.numbers.now c.in-Err.place c.args.number c.requires c.in-Err.ensures.position in
    record { within = h.within; below = h.below; above = h.above }
