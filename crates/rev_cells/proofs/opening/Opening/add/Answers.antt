use Rattle.rev_cells.proofs.OpeningLemmas.{record_written}
use Rattle.rev_cells.proofs.opening.Opening.add.Goals as goal

pub invariant_of-self-2 : goal.invariant_of-self-2
invariant_of-self-2 c =
    record_written c.self.inside.cells c.reserve.new.self c.swap.new.self c.args.cell c.args.value c.requires.of_record c.in_ok-reserve.ensures.state
    c.in_ok-reserve.ensures.jobs c.swap.ensures.after c.self.invariant
