use Rattle.std.proofs.Common.{◌++◌, ap, ◌∙◌}
use Rattle.std.specs.Option.{option_to_list}
use Rattle.rev_queries.specs.Times.{timed_by}
use Rattle.rev_queries.proofs.ListLemmas.{picked-at}
use Rattle.rev_queries.proofs.times.timed_in.Goals as goal

pub loop-run-preserved : goal.loop-run-preserved
loop-run-preserved c =
    picked-at (timed_by c.args.times.now) c.args.runs.now c.loop-run.run-index _ c.loop-run.all.items
    c.add.new.all.items c.loop-run-test.true c.loop-run.invariant
    (c.in_ok-add.ensures ∙ ap (λ o. c.loop-run.all.items ++ option_to_list o) c.timed_by.ensures)
