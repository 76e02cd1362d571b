use Rattle.rev_scopes.specs.Edges.{seen_edge}
use Rattle.rev_scopes.proofs.GivenLemmas.{given-values, given-within, path-within}
use Rattle.rev_scopes.proofs.edge_values.edge_variables.Goals as goal

pub returns-clause-values : goal.returns-clause-values
returns-clause-values c = given-values (seen_edge c.args.edge.now) c.in_ok-values.values c.in_ok-values-2.field-0 c.in_ok-values.ensures

pub returns-clause-within : goal.returns-clause-within
returns-clause-within c =
    given-within (seen_edge c.args.edge.now) c.in_ok-values.values c.in_ok-values-2.field-0 c.in_ok-values.ensures (path-within c.in_ok-values-2.field-0 c.in_ok-values-2.ensures.within)

pub returns-clause-response : goal.returns-clause-response
returns-clause-response c = c.in_ok-values-2.ensures.path
