use Rattle.std.proofs.Common.{◌∙◌}
use Rattle.rev_graph.specs.Graph.{build_at}
use Rattle.rev_queries.proofs.OwnLemmas.{older_is}
use Rattle.rev_queries.proofs.own.first_older.Goals as goal

pub returns : goal.returns
returns c =
    let graph = c.args.graph.now in
    c.older_by.ensures
    ∙ older_is graph.manifest.builds graph.ranks c.args.cells.now.state (build_at graph.manifest.builds c.args.edge) c.args.stamps.now c.greatest-newest.result
    c.first_below-output.result c.place_of-input.result c.requires.graph.ranked c.requires.stamps c.greatest-newest.ensures c.first_below-output.ensures c.place_of-input.ensures
