use Rattle.std.proofs.Common.{◌≡◌, ℕ, ◌+◌, ◌<◌, ◌≤◌, ◌&&◌, List, get_or, length, refl, sym, ◌∙◌, arith}
use Rattle.rev_causal.specs.History as causal
use Rattle.rev_footprint.specs.Value.{print_of}
use Rattle.rev_history.specs.Along.{prints_along}
use Rattle.rev_history.specs.Named.{CellPrints}
use Rattle.rev_order.specs.Overtaken.{overtakes, place_at}
use Rattle.rev_compared.specs.Inverted.{IsLeap, is_dependent}
use Rattle.rev_compared.proofs.SoughtLemmas.{leap-passes, not-dependent, not-overtaking, overtaking-dependent, partner-between, partner-found, rising-strict}
use Rattle.rev_compared.proofs.sought.partner_near.Goals as goal

pub loop-next-init : goal.loop-next-init
loop-next-init c =
    let es : CellPrints = prints_along c.args.history.now.timeline in
    let ks : List ℕ = c.args.numbers.now in
    let places : List ℕ = c.args.places.now in
    let n : ℕ = get_or ks c.args.at 0 in
    let leap : IsLeap places ks c.args.at (get_or c.args.leaps.now c.args.at 0) =
    c.requires.leaps.at c.args.at (omega arith) c.requires.within in
    let further : c.args.at < get_or c.args.leaps.now c.args.at 0 = leap.behind in
    record {
      behind = further;
      within = leap.within;
      same = λ f kept.
          partner-between places es ks (c.args.at + 1) (get_or c.args.leaps.now c.args.at 0) n (print_of f) (omega (arith, further)) leap.within
          (λ j from to.
          not-overtaking places n (get_or ks j 0) (is_dependent (print_of f) (causal.event_at (get_or ks j 0) es))
          (leap.between j (omega (arith, from)) to));
    }

pub loop-next-preserved-then-place_at-place : goal.loop-next-preserved-then-place_at-place
loop-next-preserved-then-place_at-place c =
    let es : CellPrints = prints_along c.args.history.now.timeline in
    let ks : List ℕ = c.args.numbers.now in
    let places : List ℕ = c.args.places.now in
    let n : ℕ = get_or ks c.args.at 0 in
    let i : ℕ = c.loop-next.next in
    let leap : IsLeap places ks i (get_or c.args.leaps.now i 0) =
    c.requires.leaps.at i (omega arith) (omega (arith, c.loop-next-test.true)) in
    let further : i < get_or c.args.leaps.now i 0 = leap.behind in
    let begun : c.args.at < i = c.loop-next.invariant.behind in
    let le : place_at places n ≤ place_at places (get_or ks i 0) =
    omega (arith, c.if-place_at-place.true, c.place_at.ensures, c.place_at-place.ensures) in
    record {
      behind = omega (arith, begun, further);
      within = leap.within;
      same = λ f kept.
          c.loop-next.invariant.same f kept
          ∙ partner-between places es ks i (get_or c.args.leaps.now i 0) n (print_of f) (omega (arith, further)) leap.within
          (λ j from to.
          not-overtaking places n (get_or ks j 0) (is_dependent (print_of f) (causal.event_at (get_or ks j 0) es))
          (leap-passes places ks i (get_or c.args.leaps.now i 0) (place_at places n) leap le j from to));
    }

pub next_dependent-dependent-requires-clause-above : goal.next_dependent-dependent-requires-clause-above
next_dependent-dependent-requires-clause-above c =
    rising-strict c.args.numbers.now c.requires.rising c.args.at c.loop-next.next c.loop-next.invariant.behind
    (omega (arith, c.loop-next-test.true))

pub returns-then-dependent-next : goal.returns-then-dependent-next
returns-then-dependent-next c = λ f kept.
    let es : CellPrints = prints_along c.args.history.now.timeline in
    let ks : List ℕ = c.args.numbers.now in
    let places : List ℕ = c.args.places.now in
    let n : ℕ = get_or ks c.args.at 0 in
    let i : ℕ = c.loop-next.next in
    let within : i < length ks = omega (arith, c.loop-next-test.true) in
    let behind : n < get_or ks i 0 = rising-strict ks c.requires.rising c.args.at i c.loop-next.invariant.behind within in
    let before : place_at places (get_or ks i 0) < place_at places n =
    omega (arith, c.if-place_at-place.false, c.place_at.ensures, c.place_at-place.ensures) in
    let is : c.next_dependent-dependent.result ≡ i = omega (arith, c.if-dependent-next.true) in
    sym (c.loop-next.invariant.same f kept
    ∙ partner-found places es ks i n (print_of f)
    (overtakes places n (get_or ks i 0) && is_dependent (print_of f) (causal.event_at (get_or ks i 0) es)) within refl
    (overtaking-dependent places n (get_or ks i 0) (is_dependent (print_of f) (causal.event_at (get_or ks i 0) es)) behind before
    (c.next_dependent-dependent.ensures.here f kept is)))

pub loop-next-preserved : goal.loop-next-preserved
loop-next-preserved c =
    let es : CellPrints = prints_along c.args.history.now.timeline in
    let ks : List ℕ = c.args.numbers.now in
    let places : List ℕ = c.args.places.now in
    let n : ℕ = get_or ks c.args.at 0 in
    let i : ℕ = c.loop-next.next in
    let begun : c.args.at < i = c.loop-next.invariant.behind in
    let on : i ≤ c.next_dependent-dependent.result = c.next_dependent-dependent.ensures.from in
    record {
      behind = omega (arith, begun, on);
      within = c.next_dependent-dependent.ensures.within;
      same = λ f kept.
          c.loop-next.invariant.same f kept
          ∙ partner-between places es ks i c.next_dependent-dependent.result n (print_of f) on c.next_dependent-dependent.ensures.within
          (λ j from to.
          not-dependent (overtakes places n (get_or ks j 0)) (is_dependent (print_of f) (causal.event_at (get_or ks j 0) es))
          (c.next_dependent-dependent.ensures.between f kept j from to));
    }
