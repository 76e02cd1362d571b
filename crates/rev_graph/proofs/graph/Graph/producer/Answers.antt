use Rattle.std.proofs.Common.{◌≡◌, None, ap, subst, ◌∙◌}
use Rattle.rev_graph.specs.Graph.{GraphValue, producer_of, first_double}
use Rattle.rev_graph.proofs.GraphLemmas.{produced-by}
use Rattle.rev_graph.proofs.ProducerLemmas.{producer-only, producer-produces}
use Rattle.rev_graph.proofs.graph.Graph.producer.Goals as goal

value : (c : goal.After-producer) → c.producer.result ≡ producer_of c.args.self.now.manifest.builds c.args.path.now
value c = c.producer.ensures ∙ produced-by c.self.inside.table.entries c.self.inside.manifest.builds c.args.path.now (c.self.invariant.entries c.args.path.now)
    ∙ ap (λ (g : GraphValue). producer_of g.manifest.builds c.args.path.now) c.self.view_is

pub returns-clause-has : goal.returns-clause-has
returns-clause-has c = producer-produces c.args.self.now.manifest.builds c.args.path.now c.producer.result (value c)

pub returns-clause-only : goal.returns-clause-only
returns-clause-only c = λ edge there.
    value c ∙ producer-only c.args.self.now.manifest.builds c.args.path.now edge (subst (λ (g : GraphValue). first_double g.manifest.builds ≡ None) c.self.view_is c.self.invariant.graph.single) there
