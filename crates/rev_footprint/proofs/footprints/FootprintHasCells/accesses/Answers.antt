use Rattle.std.proofs.Common.{◌∙◌}
use Rattle.rev_footprint.proofs.ConflictLemmas.{accessed_read}
use Rattle.rev_footprint.proofs.footprints.FootprintHasCells.accesses.Goals as goal

pub returns : goal.returns
returns c =
    c.is_among.ensures
    ∙ accessed_read c.args.self.now c.reads.result.now c.args.cell.now c.reads.ensures.same c.reads.ensures.first
