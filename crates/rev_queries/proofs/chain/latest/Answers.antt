use Rattle.std.proofs.Common.{◌≡◌, ◌≤◌, None, true, length, arith}
use Rattle.rev_queries.specs.Critical.{latest_of}
use Rattle.rev_queries.proofs.ChainLemmas.{latest-all, latest-below, latest-next}
use Rattle.rev_queries.proofs.chain.latest.Goals as goal

pub loop-run-preserved : goal.loop-run-preserved
loop-run-preserved c =
    latest-next (λ r. true) c.loop-run.best c.later-best.result (latest_of c.args.runs.now) c.args.runs.now
    c.loop-run.run-index _ c.loop-run-test.true c.later-best.ensures c.loop-run.invariant

pub returns : goal.returns
returns c =
    let past : length c.args.runs.now ≤ c.loop-run.run-index = omega arith in
    let is : c.loop-run.best ≡ latest_of c.args.runs.now =
    latest-all (λ r. true) c.loop-run.best (latest_of c.args.runs.now) c.args.runs.now c.loop-run.run-index past
    c.loop-run.invariant in
    record { latest = is; within = λ edges all. latest-below edges (λ r. true) c.loop-run.best c.args.runs.now is all }
