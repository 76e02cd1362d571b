use Rattle.rev_ranks.specs.Graph.{graph_of}
use Rattle.rev_undeclared.proofs.LeftLemmas.{open-here}
use Rattle.rev_undeclared.proofs.left.put_open.Goals as goal

pub returns-in_ok-put : goal.returns-in_ok-put
returns-in_ok-put c =
    open-here c.args.paths.now c.args.hidden.now c.args.builds.now c.args.edge c.args.path c.args.command (graph_of c.args.lists.now.items) (graph_of c.put.new.lists.items)
    (c.in_ok-is_open.ensures.0 c.if-branch.true) c.in_ok-put.ensures
