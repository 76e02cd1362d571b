use Rattle.rev_manifest.proofs.parallel.+builds_on+fn-builds_on-join+arg2+fn-builds_on-join+arg3.Given as goal

abbrev pub decreases-builds_on : goal.decreases-builds_on
decreases-builds_on g l = l.threads

abbrev pub decreases-join+arg2 : goal.decreases-join+arg2
decreases-join+arg2 g l = l.fewer

abbrev pub decreases-join+arg3 : goal.decreases-join+arg3
decreases-join+arg3 g l = l.more
