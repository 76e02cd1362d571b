use Rattle.std.proofs.Common.{sym, ◌∙◌}
use Rattle.rev_history.proofs.Written.{each_fits, stored-is, writes_once}
use Rattle.rev_history.proofs.step.effect_if_accepted.Goals as goal

pub returns-clause-writes : goal.returns-clause-writes
returns-clause-writes c = sym (stored-is c.in_ok-writes.writes.items) ∙ c.in_ok-writes.ensures.writes

pub returns-clause-fits : goal.returns-clause-fits
returns-clause-fits c = each_fits c.in_ok-writes.writes.items c.in_ok-writes.ensures.fit

pub returns-clause-once : goal.returns-clause-once
returns-clause-once c =
    writes_once c.args.graph.now.manifest c.args.cells.now.state c.args.event.now c.in_ok-writes.writes.items c.edges-edges.ensures.graph.kept c.in_ok-writes.ensures.writes
