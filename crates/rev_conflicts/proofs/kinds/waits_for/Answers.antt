use Rattle.rev_races.proofs.KindLemmas.{marked-waits}
use Rattle.rev_conflicts.proofs.kinds.waits_for.Goals as goal

pub returns : goal.returns
returns c = marked-waits c.args.graph.now.manifest.builds c.args.maker c.args.edge c.args.waited.now c.requires.waited
