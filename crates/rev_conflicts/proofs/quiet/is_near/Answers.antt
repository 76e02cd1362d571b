use Rattle.std.proofs.Common.{inr}
use Rattle.rev_conflicts.proofs.QuietLemmas.{marked-waits}
use Rattle.rev_conflicts.proofs.quiet.is_near.Goals as goal

pub returns : goal.returns
returns c = λ h. inr (marked-waits c.args.graph.now.manifest.builds c.args.direct.now c.args.user c.args.edge c.requires (c.is_marked.ensures h))
