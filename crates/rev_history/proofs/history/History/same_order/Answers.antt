use Rattle.std.proofs.Common.{◌≡◌, ◌↔◌, Bool, true, false, true≢false, sym, subst, rules, ◌∙◌}
use Rattle.rev_causal.specs.OrderCheck.{OrderAnswer}
use Rattle.rev_events.specs.Same.{event_eq}
use Rattle.rev_events.proofs.SameLemmas.{equal_events_are_one}
use Rattle.rev_history.specs.Order.{IsOrder, IsSameOpening}
use Rattle.rev_history.proofs.OrderLemmas.{exact}
use Rattle.rev_history.proofs.history.History.same_order.Goals as goal

pub returns-then-not-same_opening-clause-order : goal.returns-then-not-same_opening-clause-order
returns-then-not-same_opening-clause-order c =
    let no : c.same_opening.result ≡ false = search rules in
    exact event_eq c.args.self.now.timeline c.args.other.now.timeline false equal_events_are_one c.same_opening.ensures.legal
    (subst (λ (b : Bool). (b ≡ true) ↔ IsSameOpening c.args.self.now.timeline c.args.other.now.timeline) no c.same_opening.ensures.same)

pub returns-clause-order : goal.returns-clause-order
returns-clause-order c =
    let yes : c.same_opening.result ≡ true = search rules in
    subst (λ (o : OrderAnswer). IsOrder event_eq c.args.self.now.timeline c.args.other.now.timeline o) (sym c.in_ok-order.ensures)
    (exact event_eq c.args.self.now.timeline c.args.other.now.timeline true equal_events_are_one c.same_opening.ensures.legal
    (subst (λ (b : Bool). (b ≡ true) ↔ IsSameOpening c.args.self.now.timeline c.args.other.now.timeline) yes c.same_opening.ensures.same))

pub returns-then-not-same_opening-clause-answer : goal.returns-then-not-same_opening-clause-answer
returns-then-not-same_opening-clause-answer c = λ same.
    let no : c.same_opening.result ≡ false = search rules in
    absurd (true≢false (sym (c.same_opening.ensures.same.1 same) ∙ no))

pub returns-clause-answer : goal.returns-clause-answer
returns-clause-answer c = λ same. c.in_ok-order.ensures
