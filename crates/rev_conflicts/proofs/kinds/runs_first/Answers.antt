use Rattle.rev_conflicts.proofs.kinds.runs_first.Goals as goal

pub returns : goal.returns
returns c = c.requires.early.exact c.args.edge
