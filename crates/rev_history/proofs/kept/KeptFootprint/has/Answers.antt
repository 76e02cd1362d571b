use Rattle.std.proofs.Common.{◌∙◌}
use Rattle.rev_footprint.proofs.ConflictLemmas.{accessed_read}
use Rattle.rev_history.proofs.kept.KeptFootprint.has.Goals as goal

pub returns : goal.returns
returns c = c.has.ensures ∙ accessed_read c.args.self.now c.reads.result c.args.cell.now c.reads.ensures.same c.reads.ensures.first
