use Rattle.std.proofs.Common.{◌≡◌, ◌≤◌, Bool, None, get_or, length, ap, ◌∙◌, arith}
use Rattle.std.specs.Prelude.{if◌then◌else◌}
use Rattle.rev_ranks.specs.Sets.{is_marked}
use Rattle.rev_queries.specs.declared.times.Timed.{Timed}
use Rattle.rev_queries.specs.Critical.{later_of, latest_from}
use Rattle.rev_queries.proofs.ChainLemmas.{latest-all, latest-below, latest-by}
use Rattle.rev_queries.proofs.chain.latest_marked.Goals as goal

pub loop-run-preserved : goal.loop-run-preserved
loop-run-preserved c =
    latest-by (λ r. is_marked c.args.marks.now r.edge) c.loop-run.best c.later-best.result _ c.args.runs.now
    c.loop-run.run-index _ c.has_mark.result c.loop-run-test.true c.has_mark.ensures c.later-best.ensures
    c.loop-run.invariant

pub returns : goal.returns
returns c =
    let past : length c.args.runs.now ≤ c.loop-run.run-index = omega arith in
    let is : c.loop-run.best ≡ latest_from (λ r. is_marked c.args.marks.now r.edge) None c.args.runs.now =
    latest-all (λ r. is_marked c.args.marks.now r.edge) c.loop-run.best _ c.args.runs.now c.loop-run.run-index past
    c.loop-run.invariant in
    record {
      latest = is;
      within = λ edges all. latest-below edges (λ r. is_marked c.args.marks.now r.edge) c.loop-run.best c.args.runs.now is all;
    }
