use Rattle.rev_workers.proofs.run.run_workers.Goals as goal

pub returns-clause-said : goal.returns-clause-said
returns-clause-said g c = rw c.into_lanes.ensures at c.run_lists.ensures.said

pub returns-clause-least : goal.returns-clause-least
returns-clause-least g c = rw c.into_lanes.ensures at c.run_lists.ensures.least

pub returns-clause-first : goal.returns-clause-first
returns-clause-first g c = rw c.into_lanes.ensures at c.run_lists.ensures.first

pub returns-clause-told : goal.returns-clause-told
returns-clause-told g c = rw c.into_lanes.ensures at c.run_lists.ensures.told

pub returns-clause-told_first : goal.returns-clause-told_first
returns-clause-told_first g c = rw c.into_lanes.ensures at c.run_lists.ensures.told_first

pub returns-clause-told_below : goal.returns-clause-told_below
returns-clause-told_below g c = rw c.into_lanes.ensures at c.run_lists.ensures.told_below
