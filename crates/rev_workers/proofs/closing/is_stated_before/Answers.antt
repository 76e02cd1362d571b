use Rattle.std.proofs.Common.{◌≡◌, ◌∙◌, ◌-◌, ◌≤◌, take, ap, arith}
use Rattle.rev_workers.proofs.Surveyed.{found-as, stated-before}
use Rattle.rev_workers.proofs.closing.is_stated_before.Goals as goal

pub returns : goal.returns
returns g c =
    let d = c.args.done.now in
    let base = c.args.base in
    let less : base ≤ d.seen = omega (arith, c.seen-seen.ensures, c.if-seen-base.false) in
    let said : c.said_until.result.now ≡ take d.before d.lane.list =
    c.said_until.ensures ∙ (λ i. take (c.before-2.ensures i) ((c.list-2.ensures ∙ ap (λ t. t.list) c.lane-lane.ensures) i)) in
    let found = found-as c.is_part-2.result _ _ _ _ _ _ base c.args.journal.now c.is_part-2.ensures said
    (c.number-2.ensures ∙ ap (λ t. t.number) c.lane-lane.ensures) (ap (λ s. s - base) c.seen-seen.ensures) in
    let both = stated-before d.lane.number base d.seen d.before c.args.journal.now d.lane.list less c.requires in
    (λ yes. both.0 (found.0 yes), λ is. found.1 (both.1 is))
