use Rattle.rev_suspects.proofs.MarkLemmas.{waited-marks}
use Rattle.rev_suspects.proofs.marks.waited_marks.Goals as goal

pub returns : goal.returns
returns c = waited-marks c.args.graph.now.manifest.builds c.args.edge c.in_ok-marks.marks.items c.in_ok-marks.ensures
