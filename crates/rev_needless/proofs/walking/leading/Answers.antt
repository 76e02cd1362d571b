use Rattle.rev_needless.proofs.walking.leading.Goals as goal

pub leading_to-requires-clause-inside : goal.leading_to-requires-clause-inside
leading_to-requires-clause-inside c = c.is_graph-holds.ensures.inside c.if-not-holds.false

pub leading_to-requires-clause-small : goal.leading_to-requires-clause-small
leading_to-requires-clause-small c = c.is_graph-holds.ensures.small c.if-not-holds.false
