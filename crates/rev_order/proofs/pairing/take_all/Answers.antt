use Rattle.std.proofs.Common.{◌∷◌, ◌+◌, ◌<◌, ◌≤◌, ℕ, List, map, length, drop, sym, ap, subst, arith}
use Rattle.rev_causal.specs.Chosen.{chosen}
use Rattle.rev_causal.specs.OrderCheck.{bare}
use Rattle.rev_order.specs.Matched.{IsLeft}
use Rattle.rev_order.proofs.Matching.{left_step, left_none, left_end, left_first, chosen-next, drop_over}
use Rattle.rev_order.proofs.pairing.take_all.Goals as goal

pub loop-number-init : goal.loop-number-init
loop-number-init g c = λ xs rising many waits.
    let ys = bare (chosen c.args.items.now.entries c.args.kept.now) in
    let entries = map (λ e. (e.0.now, e.1.items)) c.args.waiting.now.numbers.entries in
    subst (λ (ns : List ℕ). IsLeft g.T.PartialEq.eq xs ys ns ys entries) (sym c.new-numbers.ensures.items) (left_first g.T.PartialEq.eq xs ys entries rising many waits)

pub loop-number-preserved : goal.loop-number-preserved
loop-number-preserved g c = λ xs rising many waits.
    let es = c.args.items.now.entries in
    let ks : List ℕ = c.args.kept.now in
    let i : ℕ = c.loop-number.number-index in
    let lt : i < length ks = omega (arith, c.loop-number-test.true) in
    let ys = bare (chosen es ks) in
    let before = map (λ e. (e.0.now, e.1.items)) c.loop-number.waiting.numbers.entries in
    let after = map (λ e. (e.0.now, e.1.items)) c.take.new.self.numbers.entries in
    let left = bare (chosen es (drop (i + 1) ks)) in
    let now : IsLeft g.T.PartialEq.eq xs ys c.loop-number.numbers.items (c.item_at.result.now ∷ left) before =
    subst (λ (us : List g.row.T.Denot). IsLeft g.T.PartialEq.eq xs ys c.loop-number.numbers.items us before) (ap bare (chosen-next es ks i c.item_at.result.now lt c.item_at.ensures)) (c.loop-number.invariant xs rising many waits) in
    subst (λ (ns : List ℕ). IsLeft g.T.PartialEq.eq xs ys ns left after) (sym c.in_ok-push-in-Some.ensures.items)
    (left_step g.T.PartialEq.eq xs ys c.loop-number.numbers.items c.item_at.result.now left before after c.in-Some.own now (c.in-Some.ensures.first now.rest now.waits) (c.in-Some.ensures.rest now.rest now.rising now.waits))

pub returns-in-None : goal.returns-in-None
returns-in-None g c = λ xs rising many waits.
    let es = c.args.items.now.entries in
    let ks : List ℕ = c.args.kept.now in
    let i : ℕ = c.loop-number.number-index in
    let lt : i < length ks = omega (arith, c.loop-number-test.true) in
    let ys = bare (chosen es ks) in
    let before = map (λ e. (e.0.now, e.1.items)) c.loop-number.waiting.numbers.entries in
    let left = bare (chosen es (drop (i + 1) ks)) in
    let now : IsLeft g.T.PartialEq.eq xs ys c.loop-number.numbers.items (c.item_at.result.now ∷ left) before =
    subst (λ (us : List g.row.T.Denot). IsLeft g.T.PartialEq.eq xs ys c.loop-number.numbers.items us before) (ap bare (chosen-next es ks i c.item_at.result.now lt c.item_at.ensures)) (c.loop-number.invariant xs rising many waits) in
    left_none g.T.PartialEq.eq xs ys c.loop-number.numbers.items c.item_at.result.now left before now (c.in-None.ensures.first now.rest now.waits)

pub returns : goal.returns
returns g c = λ xs rising many waits.
    let es = c.args.items.now.entries in
    let ks : List ℕ = c.args.kept.now in
    let ys = bare (chosen es ks) in
    let before = map (λ e. (e.0.now, e.1.items)) c.loop-number.waiting.numbers.entries in
    let over : length ks ≤ c.loop-number.number-index = omega (arith, c.loop-number-test.false) in
    left_end g.T.PartialEq.eq xs ys c.loop-number.numbers.items before
    (subst (λ (us : List g.row.T.Denot). IsLeft g.T.PartialEq.eq xs ys c.loop-number.numbers.items us before) (ap (λ (js : List ℕ). bare (chosen es js)) (drop_over ks c.loop-number.number-index over)) (c.loop-number.invariant xs rising many waits))
