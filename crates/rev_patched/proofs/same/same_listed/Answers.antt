use Rattle.rev_patched.proofs.SameLemmas.{same-long}
use Rattle.rev_patched.proofs.same.same_listed.Goals as goal

pub returns-then-edges-others : goal.returns-then-edges-others
returns-then-edges-others c = same-long 0 c.args.orders.now c.args.edges.now c.args.others.now c.if-edges-others.true
