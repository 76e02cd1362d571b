use Rattle.std.proofs.Common.{None, get_or, refl, arith}
use Rattle.rev_looked.specs.Users.{user_by}
use Rattle.rev_looked.proofs.UserLemmas.{seen-more}
use Rattle.rev_looked.proofs.user.add_looks.Goals as goal

pub loop-path-preserved : goal.loop-path-preserved
loop-path-preserved c =
    seen-more (λ path. user_by c.args.graph.now.manifest.builds c.args.all.now c.args.edge c.args.command.now c.args.later
    (get_or c.args.nexts.now path None) path) c.args.paths.now c.loop-path.path-index _ c.args.users.now.items
    c.loop-path.users.items _ c.user_by.result (omega arith) refl c.loop-path.invariant c.user_by.ensures c.in_ok-add.ensures
