use Rattle.std.proofs.Common.{ℕ, ◌+◌, ◌<◌, ◌≤◌, List, length, get_or, drop, ap, subst, ◌∙◌, arith}
use Rattle.std.proofs.lemmas.Bool.{le-ltb, lt-ltb}
use Rattle.std.proofs.lemmas.List.{get_or_default}
use Rattle.rev_prompt.specs.Past.{IsLed}
use Rattle.rev_prompt.proofs.PastLemmas.{led-end, led-first, led-past, left-from, none-left}
use Rattle.rev_prompt.proofs.past.state_by.Goals as goal

pub loop-number-init : goal.loop-number-init
loop-number-init c is =
    led-first c.args.history.now.timeline c.args.last c.in_ok-cells.cells c.kept-number-items.ensures.legal
    (ap (λ r. r.jobs) c.in_ok-cells.ensures ∙ is.jobs) (ap (λ r. r.state) c.in_ok-cells.ensures ∙ is.state)

pub loop-number-preserved : goal.loop-number-preserved
loop-number-preserved c is =
    let t = c.args.history.now.timeline in
    let i = c.loop-number.number-index in
    let k : ℕ = get_or c.kept-number-items.result.now c.loop-number.number-index 0 in
    let within : c.loop-number.number-index < length c.args.history.now.timeline.kept =
    subst (λ (xs : List ℕ). c.loop-number.number-index < length xs) c.kept-number-items.ensures.kept c.loop-number-test.true in
    let here = ap (λ (xs : List ℕ). get_or xs i 0) c.kept-number-items.ensures.kept ∙ get_or_default t.kept i 0 k within in
    c.in_ok-follow_number.ensures c.args.last (drop (i + 1) t.kept) (le-ltb c.args.last k c.if-number-last.false)
    (subst (λ (ks : List ℕ). IsLed t c.args.last ks c.loop-number.cells) (left-from t.kept i k within here)
    (c.loop-number.invariant is))

pub returns-then-number-last : goal.returns-then-number-last
returns-then-number-last c is =
    let t = c.args.history.now.timeline in
    let i = c.loop-number.number-index in
    let k : ℕ = get_or c.kept-number-items.result.now c.loop-number.number-index 0 in
    let within : c.loop-number.number-index < length c.args.history.now.timeline.kept =
    subst (λ (xs : List ℕ). c.loop-number.number-index < length xs) c.kept-number-items.ensures.kept c.loop-number-test.true in
    let here = ap (λ (xs : List ℕ). get_or xs i 0) c.kept-number-items.ensures.kept ∙ get_or_default t.kept i 0 k within in
    led-past t c.args.last k (drop (i + 1) t.kept) c.loop-number.cells (lt-ltb c.args.last k c.if-number-last.true)
    (subst (λ (ks : List ℕ). IsLed t c.args.last ks c.loop-number.cells) (left-from t.kept i k within here)
    (c.loop-number.invariant is))

pub returns : goal.returns
returns c is =
    let t = c.args.history.now.timeline in
    let past : length c.args.history.now.timeline.kept ≤ c.loop-number.number-index =
    omega (arith, c.loop-number-test.false, ap (λ (xs : List ℕ). length xs) c.kept-number-items.ensures.kept) in
    led-end t c.args.last c.loop-number.cells
    (subst (λ (ks : List ℕ). IsLed t c.args.last ks c.loop-number.cells)
    (none-left t.kept c.loop-number.number-index past) (c.loop-number.invariant is))
