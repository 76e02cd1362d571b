use Rattle.rev_conflicts.proofs.QuietLemmas.{quiet-all, quiet-more}
use Rattle.rev_conflicts.proofs.quiet.is_quiet.Goals as goal

pub loop-command-preserved : goal.loop-command-preserved
loop-command-preserved c =
    quiet-more c.args.graph.now.manifest.builds c.args.edges.now c.args.commands.now c.args.user c.loop-command.command-index (c.is_quiet_one-quiet.ensures c.if-not-quiet.false) c.loop-command.invariant

pub returns : goal.returns
returns c = λ h. quiet-all c.args.graph.now.manifest.builds c.args.edges.now c.args.commands.now c.args.user c.loop-command.command-index c.loop-command-test.false c.loop-command.invariant
