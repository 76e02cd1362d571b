use Rattle.std.proofs.Common.{ap, ◌∙◌}
use Rattle.std.specs.Option.{option_map}
use Rattle.rev_cells.specs.declared.value.DepsRecord.{DepsRecord}
use Rattle.rev_graph.specs.Graph.{build_at}
use Rattle.rev_races.specs.Races.{recorded}
use Rattle.rev_races.proofs.AnswerLemmas.{lists-recorded}
use Rattle.rev_races.proofs.listing.listed.Goals as goal

pub returns : goal.returns
returns c =
    let edge = c.args.edge in
    c.paths_of.ensures ∙ ap (λ o. option_map (λ (deps : DepsRecord). deps.paths) o) c.deps_record-deps.ensures
    ∙ (λ i. recorded (c.cells.ensures.state i) (build_at (c.graph-2.ensures i).builds edge))
    ∙ lists-recorded c.args.history.now.timeline c.graph.result.now edge c.edges-edges.ensures.graph c.graph.ensures c.requires
