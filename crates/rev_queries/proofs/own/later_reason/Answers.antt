use Rattle.std.proofs.Common.{◌∙◌}
use Rattle.std.specs.Option.{option_or}
use Rattle.rev_queries.proofs.OwnLemmas.{own_is}
use Rattle.rev_queries.proofs.own.later_reason.Goals as goal

pub returns : goal.returns
returns c =
    let graph = c.args.graph.now in
    c.or.ensures ∙ (λ i. option_or (c.first_older.ensures i) (c.first_by_log.ensures i))
    ∙ own_is graph.manifest.builds graph.ranks c.args.cells.now.state c.args.edge c.args.stamps.now c.requires.graph.ranked c.requires.stamps c.requires.command c.requires.none
