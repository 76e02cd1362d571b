use Rattle.rev_graph.proofs.StepLemmas.{all-within}
use Rattle.rev_suspects.proofs.marks.steps_back.Goals as goal

pub reversed-requires-clause-inside : goal.reversed-requires-clause-inside
reversed-requires-clause-inside c = all-within c.args.graph.now.manifest.builds c.args.steps.now c.requires
