use Rattle.std.proofs.Common.{ap, subst, ◌∙◌, ℕ, Err}
use Rattle.rev_ranks.specs.Graph.{AreRanks, Reaches}
use Rattle.rev_ranks.specs.Graph as nodes
use Rattle.rev_graph.proofs.StepLemmas.{all-within, ranked-edges, least-edge, node_way}
use Rattle.rev_graph.proofs.steps.ranks_by.Goals as goal

pub ranks-requires-clause-inside : goal.ranks-requires-clause-inside
ranks-requires-clause-inside c = all-within c.args.edges.now c.args.successors.now c.requires.successors

pub cycle_at-requires-clause-cycle : goal.cycle_at-requires-clause-cycle
cycle_at-requires-clause-cycle c =
    least-edge c.args.edges.now c.in-Err-Cycle.edge
    (subst (λ graph. nodes.IsLeastOnCycle graph c.in-Err-Cycle.edge) c.requires.successors (c.ranks.ensures.cycle c.in-Err-Cycle.edge (c.in-Err-Cycle.is ∙ ap Err c.in-Err-Cycle.field-0-is)))

pub returns-in-Ok-clause-ranked : goal.returns-in-Ok-clause-ranked
returns-in-Ok-clause-ranked c = ranked-edges c.args.edges.now c.in-Ok.ranks.items (subst (λ graph. AreRanks graph c.in-Ok.ranks.items) c.requires.successors c.in-Ok.ensures.ok)

pub returns-in-Ok-clause-acyclic : goal.returns-in-Ok-clause-acyclic
returns-in-Ok-clause-acyclic c = λ edge way.
    subst (λ graph. (n : ℕ) → Reaches graph n n → ⊥) c.requires.successors c.in-Ok.ensures.acyclic edge (node_way way)
