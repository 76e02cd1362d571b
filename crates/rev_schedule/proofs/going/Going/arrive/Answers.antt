use Rattle.std.proofs.Common.{◌≡◌, ◌<◌, inr, refl, length, get_or, arith, rules}
use Rattle.std.proofs.lemmas.List.{get_or_read_under}
use Rattle.rev_schedule.specs.Builds.{job_of}
use Rattle.rev_schedule.proofs.LineLemmas.{queued, only-line}
use Rattle.rev_schedule.proofs.PoolLemmas.{job-read, waits-of}
use Rattle.rev_schedule.proofs.going.Going.arrive.Goals as goal

pub returns-in_ok-add-2-clause-arrives : goal.returns-in_ok-add-2-clause-arrives
returns-in_ok-add-2-clause-arrives c =
    let is : job_of c.args.build.now c.args.edge ≡ c.index-job.result.now = job-read c.args.build.now c.args.edge c.index-job.result.now c.requires.edge c.index-job.ensures in
    let inside : c.index-job.result.now.pool < length c.args.build.now.depths.items = search rules in
    let in_line : c.index-job.result.now.pool < length c.args.self.now.waiting.items = omega (arith, c.requires.pools.waiting) in
    let in_used : c.index-job.result.now.pool < length c.args.self.now.used.items = omega (arith, c.requires.pools.used) in
    let used : c.index-used.result.now ≡ get_or c.args.self.now.used.items c.index-job.result.now.pool 0 =
    get_or_read_under c.args.self.now.used.items c.index-job.result.now.pool (length c.args.self.now.used.items) c.index-used.result.now 0 c.index-used.ensures in_used refl in
    inr (waits-of c.args.build.now c.args.edge c.index-job.result.now is _ _
    (omega (arith, c.places.ensures, used, c.if-used-places.false))
    (queued c.args.self.now.waiting.items c.index-job.result.now.pool c.index_mut-line.result.now c.add-else-used-places.new.self _ in_line c.index_mut-line.ensures.value c.in_ok-add-2.ensures)
    (only-line c.args.self.now.waiting.items c.index-job.result.now.pool c.add-else-used-places.new.self)
    refl refl record { time = refl; freed = refl; through = refl; running = refl; runs = refl })
