use Rattle.rev_needless.proofs.walking.makers_first.Goals as goal

pub ranks-requires-clause-inside : goal.ranks-requires-clause-inside
ranks-requires-clause-inside c = c.is_graph-holds.ensures.inside c.if-not-holds.false

pub ranks-requires-clause-small : goal.ranks-requires-clause-small
ranks-requires-clause-small c = c.is_graph-holds.ensures.small c.if-not-holds.false
