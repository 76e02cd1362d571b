use Rattle.std.proofs.Common.{sym, ap, ◌∙◌}
use Rattle.rev_graph.specs.Graph.{producer_of}
use Rattle.rev_conflicts.specs.Conflicts.{is_by}
use Rattle.rev_conflicts.proofs.KindLemmas.{name-at}
use Rattle.rev_conflicts.proofs.kinds.makes.Goals as goal

pub returns-in-Some : goal.returns-in-Some
returns-in-Some c =
    ap (is_by c.args.edge)
    (sym c.in-Some.is ∙ c.producer.ensures.value ∙ ap (producer_of c.args.graph.now.manifest.builds) (sym (name-at c.args.paths.now c.args.path c.path.result.now c.requires c.path.ensures.name)))

pub returns-in-None : goal.returns-in-None
returns-in-None c =
    ap (is_by c.args.edge)
    (sym c.in-None.is ∙ c.producer.ensures.value ∙ ap (producer_of c.args.graph.now.manifest.builds) (sym (name-at c.args.paths.now c.args.path c.path.result.now c.requires c.path.ensures.name)))
