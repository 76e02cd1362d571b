use Rattle.std.proofs.Common.{◌≡◌, ℕ, ◌<◌, ◌≤◌, ◌-◌, List, IsSome, None, Some, get_or, length, sym, ap, ◌∙◌, inl, inr, ltb-true, ltb-false, arith}
use Rattle.std.specs.Prelude.{nat_lt}
use Rattle.rev_causal.specs.History as causal
use Rattle.rev_causal.proofs.Chosen.{rising_at}
use Rattle.rev_causal.proofs.Runs.{either}
use Rattle.rev_history.specs.Along.{prints_along}
use Rattle.rev_compared.proofs.Nearest.{depends-at, independent-before, near-above}
use Rattle.rev_compared.proofs.Prints.{All-get}
use Rattle.rev_compared.proofs.SoughtLemmas.{rising-strict}
use Rattle.rev_compared.proofs.sought.next_dependent.Goals as goal

pub overflow_sub-near : goal.overflow_sub-near
overflow_sub-near c =
    let more : get_or c.args.numbers.now c.args.next 0 - 1 < c.in-Some.near =
    near-above c.args.history.now.timeline (get_or c.args.numbers.now c.args.next 0 - 1) c.args.first c.in-Some.near c.nearest_to.result
    c.nearest_to.ensures.same c.nearest_to.ensures.none c.in-Some.is in
    omega (arith, more)

pub returns-in-Some-clause-from : goal.returns-in-Some-clause-from
returns-in-Some-clause-from c =
    let ks : List ℕ = c.args.numbers.now in
    let more : get_or ks c.args.next 0 - 1 < c.in-Some.near =
    near-above c.args.history.now.timeline (get_or ks c.args.next 0 - 1) c.args.first c.in-Some.near c.nearest_to.result
    c.nearest_to.ensures.same c.nearest_to.ensures.none c.in-Some.is in
    elim (either (nat_lt c.place_above.result c.args.next)) [
      | inl t ↦
          let less : c.place_above.result < c.args.next = ltb-true c.place_above.result c.args.next t in
          let lower : get_or ks c.place_above.result 0 < get_or ks c.args.next 0 =
          rising-strict ks c.requires.rising c.place_above.result c.args.next less c.requires.within in
          let high : c.in-Some.near - 1 < get_or ks c.place_above.result 0 =
          c.place_above.ensures.above c.place_above.result (omega arith) (omega (arith, less, c.requires.within)) in
          absurd (omega (arith, more, lower, high))
      | inr t ↦ ltb-false c.place_above.result c.args.next t
    ]

pub returns-in-Some-clause-between : goal.returns-in-Some-clause-between
returns-in-Some-clause-between c = λ f first j from to.
    let t = c.args.history.now.timeline in
    let ks : List ℕ = c.args.numbers.now in
    let within : j < length ks = omega (arith, to, c.place_above.ensures.within) in
    let there : IsSome (causal.event_at (get_or ks j 0) (prints_along t)) =
    All-get (λ n. IsSome (causal.event_at n (prints_along t))) j 0 ks c.requires.kept within in
    let least : get_or ks c.args.next 0 ≤ get_or ks j 0 = rising_at ks c.requires.rising c.args.next j from within in
    let low : get_or ks j 0 ≤ c.in-Some.near - 1 = c.place_above.ensures.below j to in
    let above = c.requires.above in
    independent-before t c.kept-kept.ensures.legal (get_or ks c.args.next 0 - 1) (get_or ks j 0) f there
    (omega (arith, least, above))
    (λ m h.
    let w : Some c.in-Some.near ≡ Some m = sym c.in-Some.is ∙ c.nearest_to.ensures.same f first ∙ h in
    let is : c.in-Some.near ≡ m = cc in
    omega (arith, least, above, low, is))

pub returns-in-Some-clause-here : goal.returns-in-Some-clause-here
returns-in-Some-clause-here c = λ f first is.
    let t = c.args.history.now.timeline in
    let ks : List ℕ = c.args.numbers.now in
    let more : get_or ks c.args.next 0 - 1 < c.in-Some.near =
    near-above t (get_or ks c.args.next 0 - 1) c.args.first c.in-Some.near c.nearest_to.result
    c.nearest_to.ensures.same c.nearest_to.ensures.none c.in-Some.is in
    let high : c.in-Some.near - 1 < get_or ks c.args.next 0 =
    c.place_above.ensures.above c.args.next (omega (arith, is)) c.requires.within in
    let here : c.in-Some.near ≡ get_or ks c.args.next 0 = omega (arith, more, high) in
    depends-at t c.kept-kept.ensures.legal (get_or ks c.args.next 0 - 1) (get_or ks c.args.next 0) f
    (All-get (λ n. IsSome (causal.event_at n (prints_along t))) c.args.next 0 ks c.requires.kept c.requires.within)
    (sym (c.nearest_to.ensures.same f first) ∙ c.in-Some.is ∙ ap Some here)

pub returns-in-None-clause-between : goal.returns-in-None-clause-between
returns-in-None-clause-between c = λ f first j from to.
    let t = c.args.history.now.timeline in
    let ks : List ℕ = c.args.numbers.now in
    let within : j < length ks = to in
    let least : get_or ks c.args.next 0 ≤ get_or ks j 0 = rising_at ks c.requires.rising c.args.next j from within in
    let above = c.requires.above in
    independent-before t c.kept-kept.ensures.legal (get_or ks c.args.next 0 - 1) (get_or ks j 0) f
    (All-get (λ n. IsSome (causal.event_at n (prints_along t))) j 0 ks c.requires.kept within)
    (omega (arith, least, above))
    (λ m h. let w : None ≡ Some m = sym c.in-None.is ∙ c.nearest_to.ensures.same f first ∙ h in cc)
