use Rattle.rev_patched.proofs.AmendedLemmas.{amends-long}
use Rattle.rev_patched.proofs.amended.amends_listed.Goals as goal

pub returns-then-edges-others : goal.returns-then-edges-others
returns-then-edges-others c =
    amends-long 0 c.args.outs.now c.args.ins.now c.args.ords.now c.args.edges.now c.args.others.now c.if-edges-others.true
