use Rattle.std.proofs.lemmas.Result.{err_from_is_err_and}
use Rattle.rev_history.specs.Timeline.{state_at}
use Rattle.rev_queries.proofs.RebuildLemmas.{memory-told, rebuilds-told, refused-told}
use Rattle.rev_queries.proofs.rebuild.rebuilds.Goals as goal

pub returns-in_err-cells-clause-refused : goal.returns-in_err-cells-clause-refused
returns-in_err-cells-clause-refused c =
    memory-told c.args.history.now.timeline.manifest (state_at c.args.history.now.timeline) c.args.targets.now
    c.args.paths.now c.from_residual.result (err_from_is_err_and c.from_residual.result c.from_residual.ensures.1)

pub returns-clause-rebuilds : goal.returns-clause-rebuilds
returns-clause-rebuilds c =
    rebuilds-told c.args.history.now.timeline.manifest c.graph.result.now.manifest (state_at c.args.history.now.timeline) c.args.targets.now
    c.args.paths.now c.cells.result.now.state c.in_ok-cells.cells.state c.planned.result c.graph.ensures c.cells.ensures.state
    c.in_ok-cells.ensures c.planned.ensures.rebuilds

pub returns-clause-refused : goal.returns-clause-refused
returns-clause-refused c =
    refused-told c.args.history.now.timeline.manifest c.graph.result.now.manifest (state_at c.args.history.now.timeline) c.args.targets.now
    c.args.paths.now c.cells.result.now.state c.in_ok-cells.cells.state c.planned.result c.graph.ensures c.cells.ensures.state
    c.in_ok-cells.ensures c.planned.ensures.refused
