use Rattle.std.proofs.Common.{◌≡◌, ◌<◌, ◌≤◌, ◌+◌, ℕ, List, [], length, false, ap, sym, subst, ◌∙◌, arith, rules}
use Rattle.rev_commands.specs.declared.point.Point.{Point}
use Rattle.rev_history.specs.Timeline.{Timeline, last_of, opened}
use Rattle.rev_history.specs.Value.{HistoryValue}
use Rattle.rev_desk.specs.declared.reply.Entry.{Entry}
use Rattle.rev_desk.specs.Breaks.{AreBelow}
use Rattle.rev_desk.specs.Machine.{DeskStateValue, DeskValue, opened_desk}
use Rattle.rev_desk.specs.Sound.{IsDesk}
use Rattle.rev_desk.proofs.DeskLemmas.{IsDesk-opened, same_parts}
use Rattle.rev_desk.proofs.desk.Desk.new.Goals as goal

pub invariant_of-result : goal.invariant_of-result
invariant_of-result c =
    let time : c.in_ok-history.history.timeline ≡ opened c.args.graph.manifest c.args.opening.now.jobs c.args.opening.now.state = ap (λ (h : HistoryValue). h.timeline) c.in_ok-history.ensures in
    let with : Timeline → List (ℕ × Point) → DeskStateValue = λ t bs. record { history = t; breaks = bs; paused = false } in
    let is =
    same_parts (with c.in_ok-history.history.timeline c.new-breaks.result.standing.items) (with (opened c.args.graph.manifest c.args.opening.now.jobs c.args.opening.now.state) [])
    c.in_ok-journal.journal.entries.items [] (length c.in_ok-journal.journal.numbers.items) c.args.lanes
    (ap (λ t. with t c.new-breaks.result.standing.items) time ∙ ap (with (opened c.args.graph.manifest c.args.opening.now.jobs c.args.opening.now.state)) c.new-breaks.ensures.none)
    c.in_ok-journal.ensures.entries c.in_ok-journal.ensures.lanes in
    let some : 1 ≤ c.args.lanes = first_of (omega arith, search rules, grind arith) in
    let most : c.args.lanes ≤ 64 = first_of (omega arith, search rules, grind arith) in
    record {
      desk = subst IsDesk (sym is) (IsDesk-opened c.args.graph.manifest c.args.opening.now.jobs c.args.opening.now.state c.args.lanes some most);
      ready = record {
        breaks = c.new-breaks.ensures.sound c.in_ok-history.history.timeline.manifest;
        last = subst (λ (t : Timeline). last_of t.accepted < length c.in_ok-journal.journal.entries.items + 1) (sym time) (omega arith);
        below = subst (AreBelow (length c.in_ok-journal.journal.entries.items + 1)) (sym c.new-breaks.ensures.none) tt;
      };
      indexed = c.in_ok-journal.ensures.indexed;
    }
