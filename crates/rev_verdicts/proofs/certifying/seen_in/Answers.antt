use Rattle.rev_verdicts.proofs.certifying.seen_in.Goals as goal

pub returns-in-Some : goal.returns-in-Some
returns-in-Some c = record { none = rw c.in-Some.is c.seen_by.ensures.none; some = rw c.in-Some.is c.seen_by.ensures.some }

pub returns-in-None : goal.returns-in-None
returns-in-None c = record { none = rw c.in-None.is; some = tt }
