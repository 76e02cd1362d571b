use Rattle.std.proofs.Common.{◌≡◌, List, ℕ, Ok, ap, sym, ◌∙◌}
use Rattle.rev_history.specs.Order.{IsSameOpening, answer_of}
use Rattle.rev_history.specs.Timeline.{Timeline, opened}
use Rattle.rev_history.specs.Value.{HistoryValue}
use Rattle.rev_order_text.specs.Ordered.{run_again, said_again, said_by}
use Rattle.rev_order_text.proofs.OrderLemmas.{answered, same_opening}
use Rattle.rev_order_text.proofs.ordered.run_in_order.Goals as goal

pub returns-in-None-clause-exact : goal.returns-in-None-clause-exact
returns-in-None-clause-exact c =
    let t : Timeline = c.args.history.now.timeline in
    let ns : List ℕ = c.args.numbers.now in
    let v : Timeline = c.say_again.new.other.timeline in
    let first : c.in_ok-other.other.timeline ≡ opened t.manifest t.jobs t.opening = ap (λ (h : HistoryValue). h.timeline) c.in_ok-other.ensures in
    let said : said_again t c.in_ok-other.other.timeline ns ≡ Ok v = c.in_ok-refused.ensures ∙ ap (λ o. said_by o v) c.in-None.is in
    let same : IsSameOpening t v = same_opening t c.in_ok-other.other.timeline v ns first said in
    let ran : run_again t ns ≡ Ok v = ap (λ (u : Timeline). said_again t u ns) (sym first) ∙ said in
    sym (answered t v (run_again t ns) (answer_of c.in_ok-order-in-None.order) ran (c.in_ok-order-in-None.ensures.answer same))
