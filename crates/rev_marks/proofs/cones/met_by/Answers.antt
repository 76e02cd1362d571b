use Rattle.std.proofs.Common.{◌∙◌}
use Rattle.rev_marks.proofs.SameLemmas.{met-same}
use Rattle.rev_marks.proofs.cones.met_by.Goals as goal

pub returns : goal.returns
returns c = λ i.
    c.met.ensures i
    ∙ met-same c.args.footprint.now c.args.beside c.whole.result c.reads.result c.writes.result c.whole.ensures c.reads.ensures.same c.writes.ensures.same c.args.table.now i
