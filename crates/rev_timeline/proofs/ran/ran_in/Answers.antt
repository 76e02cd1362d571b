use Rattle.std.proofs.Common.{◌++◌, ap, ◌∙◌}
use Rattle.std.specs.Option.{option_to_list}
use Rattle.rev_queries.proofs.ListLemmas.{picked-at}
use Rattle.rev_timeline.specs.Ran.{ran_by}
use Rattle.rev_timeline.proofs.ran.ran_in.Goals as goal

pub loop-run-preserved : goal.loop-run-preserved
loop-run-preserved c =
    picked-at (ran_by c.args.history.now.timeline c.args.times.now) c.args.runs.now c.loop-run.run-index _
    c.loop-run.all.items c.add.new.all.items c.loop-run-test.true c.loop-run.invariant
    (c.in_ok-add.ensures ∙ ap (λ o. c.loop-run.all.items ++ option_to_list o) c.ran_by.ensures)
