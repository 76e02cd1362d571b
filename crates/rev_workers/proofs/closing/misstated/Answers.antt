use Rattle.std.proofs.Common.{◌≡◌, below_more, rules, arith}
use Rattle.std.specs.List.{AllByRecursion}
use Rattle.rev_workers.specs.Tracks.{Track}
use Rattle.rev_workers.specs.Closing.{IsStated, base_in, part}
use Rattle.rev_workers.proofs.closing.misstated.Goals as goal

pub loop-number-preserved : goal.loop-number-preserved
loop-number-preserved g c =
    let ts = c.args.lanes.now in
    let n = c.loop-number.number in
    let here : AllByRecursion (λ (t : Track). t.number ≡ n → t.list ≡ part n c.past-entries.result.now) ts = c.is_stated.ensures.0 (search rules) in
    λ m less. below_more (IsStated (base_in ts) c.args.journal.now ts) n c.loop-number.invariant
    (rw (← c.base_of_first-base.ensures, ← c.past-entries.ensures) here) m (omega arith)
