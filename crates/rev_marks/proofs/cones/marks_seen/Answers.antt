use Rattle.std.proofs.Common.{ℕ, ◌<◌, ◌≤◌, List, length, get_or, ap, subst, ◌∙◌, arith}
use Rattle.std.specs.Prelude.{slice_get}
use Rattle.std.proofs.lemmas.List.{get_or_default}
use Rattle.rev_marks.specs.Cones.{seen}
use Rattle.rev_marks.proofs.ConeLemmas.{seen-kept}
use Rattle.rev_marks.proofs.LaneLemmas.{walked-all, walked-first, walked-next}
use Rattle.rev_marks.proofs.NoteLemmas.{none-met}
use Rattle.rev_marks.proofs.cones.marks_seen.Goals as goal

pub loop-number-init : goal.loop-number-init
loop-number-init c =
    let t = c.args.history.now.timeline in
    walked-first (seen t c.args.beside) t.kept (slice_get c.args.asked.now) c.no_events-table.result c.new-marks.result.entries
    (none-met c.no_events-table.result c.no_events-table.ensures.all c.no_events-table.ensures.whole c.no_events-table.ensures.read c.no_events-table.ensures.written) c.new-marks.ensures.empty

pub loop-number-preserved : goal.loop-number-preserved
loop-number-preserved c =
    let t = c.args.history.now.timeline in
    let i = c.loop-number.number-index in
    let k : ℕ = get_or c.kept-number-items.result.now c.loop-number.number-index 0 in
    let within : c.loop-number.number-index < length c.args.history.now.timeline.kept =
    subst (λ (xs : List ℕ). c.loop-number.number-index < length xs) c.kept-number-items.ensures.kept c.loop-number-test.true in
    walked-next (seen t c.args.beside) t.kept (slice_get c.args.asked.now) i k c.loop-number.table c.take.new.table c.loop-number.marks.entries c.take.new.marks.entries
    c.kept-number-items.ensures.legal.rising within (ap (λ (xs : List ℕ). get_or xs i 0) c.kept-number-items.ensures.kept ∙ get_or_default t.kept i 0 k within)
    c.in_ok-take.ensures c.loop-number.invariant

pub returns-clause-marks : goal.returns-clause-marks
returns-clause-marks c =
    let t = c.args.history.now.timeline in
    let past : length c.args.history.now.timeline.kept ≤ c.loop-number.number-index =
    omega (arith, c.loop-number-test.false, ap (λ (xs : List ℕ). length xs) c.kept-number-items.ensures.kept) in
    record {
      exact =
          walked-all (seen t c.args.beside) t.kept (slice_get c.args.asked.now) c.loop-number.number-index c.loop-number.table c.loop-number.marks.entries
          c.kept-number-items.ensures.legal.rising (seen-kept t c.args.beside) past c.loop-number.invariant;
    }
