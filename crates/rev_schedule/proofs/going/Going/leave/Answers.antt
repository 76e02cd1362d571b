use Rattle.std.proofs.Common.{◌≡◌, ◌<◌, inl, inr, refl, length, get_or, set, sym, ap, ◌∙◌, arith, rules}
use Rattle.std.proofs.Math.Seq.{map-set_same}
use Rattle.std.proofs.lemmas.List.{get_or_read_under}
use Rattle.rev_schedule.specs.Builds.{job_of}
use Rattle.rev_schedule.specs.Lines.{line_items}
use Rattle.rev_schedule.proofs.LineLemmas.{dequeued, only-line, line-old}
use Rattle.rev_schedule.proofs.PoolLemmas.{job-read, hands_on-of, frees-of}
use Rattle.rev_schedule.proofs.going.Going.leave.Goals as goal

pub returns-in_ok-add-in-Some-clause-leaves : goal.returns-in_ok-add-in-Some-clause-leaves
returns-in_ok-add-in-Some-clause-leaves c =
    let is : job_of c.args.build.now c.args.edge ≡ c.index.result.now = job-read c.args.build.now c.args.edge c.index.result.now c.requires.edge c.index.ensures in
    let inside : c.index.result.now.pool < length c.args.build.now.depths.items = search rules in
    let in_line : c.index.result.now.pool < length c.args.self.now.waiting.items = omega (arith, c.requires.pools.waiting) in
    inl (hands_on-of c.args.build.now c.args.edge c.index.result.now is _ _ c.in-Some.next
    (dequeued c.args.self.now.waiting.items c.index.result.now.pool c.index_mut-line.result.now c.take.new.self _ in_line c.index_mut-line.ensures.value c.in-Some.ensures)
    (only-line c.args.self.now.waiting.items c.index.result.now.pool c.take.new.self)
    c.in_ok-add-in-Some.ensures refl record { time = refl; freed = refl; through = refl; running = refl; runs = refl })

pub returns-in-None-clause-leaves : goal.returns-in-None-clause-leaves
returns-in-None-clause-leaves c =
    let is : job_of c.args.build.now c.args.edge ≡ c.index.result.now = job-read c.args.build.now c.args.edge c.index.result.now c.requires.edge c.index.ensures in
    let inside : c.index.result.now.pool < length c.args.build.now.depths.items = search rules in
    let in_line : c.index.result.now.pool < length c.args.self.now.waiting.items = omega (arith, c.requires.pools.waiting) in
    let in_used : c.index.result.now.pool < length c.args.self.now.used.items = omega (arith, c.requires.pools.used) in
    let used : c.index-in-None.result.now ≡ get_or c.args.self.now.used.items c.index.result.now.pool 0 =
    get_or_read_under c.args.self.now.used.items c.index.result.now.pool (length c.args.self.now.used.items) c.index-in-None.result.now 0 c.index-in-None.ensures in_used refl in
    inr (frees-of c.args.build.now c.args.edge c.index.result.now is _ _
    (line-old c.args.self.now.waiting.items c.index.result.now.pool c.index_mut-line.result.now in_line c.index_mut-line.ensures.value ∙ c.in-None.ensures.0)
    (ap (set c.args.self.now.used.items c.index.result.now.pool) (omega (arith, c.saturating_sub.ensures, used)))
    (map-set_same line_items c.args.self.now.waiting.items c.index.result.now.pool c.take.new.self c.index_mut-line.result.now
    (c.in-None.ensures.1 ∙ sym c.in-None.ensures.0 ∙ ap line_items c.index_mut-line.ensures.value))
    refl record { time = refl; freed = refl; through = refl; running = refl; runs = refl })
