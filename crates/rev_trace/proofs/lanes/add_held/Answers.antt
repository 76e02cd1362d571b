use Rattle.std.proofs.Common.{◌≡◌, arith, true, length, sym, ap, ◌∙◌, subst}
use Rattle.std.proofs.lemmas.List.{length-map}
use Rattle.rev_trace.specs.Lanes.{lane_line, opens_lane}
use Rattle.rev_trace.specs.Lists.{IsHeld, LanesValue, shown}
use Rattle.rev_trace.proofs.LaneLemmas.{held_lane}
use Rattle.rev_trace.proofs.lanes.add_held.Goals as goal

pub returns-then-opens_lane-clause-ok : goal.returns-then-opens_lane-clause-ok
returns-then-opens_lane-clause-ok c =
    let opens : opens_lane c.args.line.now ≡ true = sym c.opens_lane.ensures ∙ c.if-opens_lane.true in
    let many : c.len.result ≡ length (shown c.args.lanes.now).lists = omega (arith, c.len.ensures, c.args.lanes.now.lists.ok.0, length-map c.args.lanes.now.lists.items (λ v. v.items)) in
    let P : LanesValue → Type 0 = λ l. IsHeld c.args.version c.args.targets.now (shown c.args.lanes.now) c.args.line.now l in
    subst P (sym c.in_ok-open_lane.ensures) (held_lane c.args.version c.args.targets.now (shown c.args.lanes.now) c.args.line.now c.in_ok-number.number opens (ap (λ k. lane_line c.args.version k c.args.line.now) (sym many) ∙ c.in_ok-number.ensures.said))
