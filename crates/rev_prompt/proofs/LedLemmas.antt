-- The kept events up to one are a history, and lead to the state after it.
use Rattle.std.proofs.Common.{◌≡◌, ℕ, ◌<◌, Bool, true, false, not, cond, List, [], ◌∷◌, filter, Option, Some, None, refl, sym, ap, subst, ◌∙◌, arith, lt-ltb, ltb-true}
use Rattle.std.specs.Prelude.{nat_lt, if◌then◌else◌}
use Rattle.std.specs.List.{AllByRecursion}
use Rattle.rev_causal.specs.Chosen.{IsRising, chosen, under}
use Rattle.rev_causal.specs.Machine.{Legal, run}
use Rattle.rev_causal.proofs.Chosen.{All-filter, IsRising-filter}
use Rattle.rev_cells.specs.State.{State}
use Rattle.rev_events.specs.declared.event.Event.{Event}
use Rattle.rev_history.specs.Timeline.{Numbered, Timeline, event_at, machine_at}
use Rattle.rev_prompt.specs.Past.{PastStatesAreLed, after_event, led_by}

-- none of numbers above n is up to it
none-below : (n : ℕ) (ks : List ℕ) → AllByRecursion (λ k. n < k) ks → filter (λ k. not (nat_lt n k)) ks ≡ []
none-below n [] all = refl
none-below n (k ∷ ks) all =
    ap (λ (b : Bool). cond (not b) (k ∷ filter (λ j. not (nat_lt n j)) ks) (filter (λ j. not (nat_lt n j)) ks)) (lt-ltb n k all.0)
    ∙ none-below n ks all.1

more-above : (n k : ℕ) (ks : List ℕ) → n < k → AllByRecursion (λ y. k < y) ks → AllByRecursion (λ y. n < y) ks
more-above n k [] less all = tt
more-above n k (y ∷ ks) less all = (omega (arith, less, all.0), more-above n k ks less all.1)

module _ (t : Timeline) (n : ℕ) where
  abbrev ended : List ℕ → Numbered
  ended ks = chosen t.accepted (filter (λ k. not (nat_lt n k)) ks)

  -- what is led to, and that each event on the way is accepted
  record IsRun (s : State) (ks : List ℕ) : Type 0 where
    state : led_by t n s ks ≡ run (machine_at t) s (ended ks)
    legal : Legal (machine_at t) s (ended ks)

  run-of : (s : State) (ks : List ℕ) → IsRising ks → Legal (machine_at t) s (chosen t.accepted ks) → IsRun s ks
  run-of s [] rising legal = record { state = refl; legal = tt }
  run-of s (k ∷ ks) rising legal = by (nat_lt n k) refl (λ q l. run-of q ks rising.1 l)
    where
      Rest : Type 0
      Rest = (q : State) → Legal (machine_at t) q (chosen t.accepted ks) → IsRun q ks

      goes-on : Rest → (o : Option Event) → Legal (machine_at t) s (under k o (chosen t.accepted ks))
          → (led_by t n (after_event t s o) ks ≡ run (machine_at t) s (under k o (ended ks))) × Legal (machine_at t) s (under k o (ended ks))
      goes-on rest None l = let there = rest s l in (there.state, there.legal)
      goes-on rest (Some e) l = let there = rest (after_event t s (Some e)) l.1 in (there.state, (l.0, there.legal))

      by : (b : Bool) → nat_lt n k ≡ b → Rest → IsRun s (k ∷ ks)
      by true past rest =
          let nothing : filter (λ j. not (nat_lt n j)) (k ∷ ks) ≡ [] =
          none-below n (k ∷ ks) (ltb-true n k past, more-above n k ks (ltb-true n k past) rising.0) in
          record {
            state =
                ap (λ (b : Bool). if b then s else led_by t n (after_event t s (event_at t k)) ks) past
                ∙ sym (ap (λ (js : List ℕ). run (machine_at t) s (chosen t.accepted js)) nothing);
            legal = subst (λ (js : List ℕ). Legal (machine_at t) s (chosen t.accepted js)) (sym nothing) tt;
          }
      by false here rest =
          let same : filter (λ j. not (nat_lt n j)) (k ∷ ks) ≡ k ∷ filter (λ j. not (nat_lt n j)) ks =
          ap (λ (b : Bool). cond (not b) (k ∷ filter (λ j. not (nat_lt n j)) ks) (filter (λ j. not (nat_lt n j)) ks)) here in
          let there = goes-on rest (event_at t k) legal in
          record {
            state =
                ap (λ (b : Bool). if b then s else led_by t n (after_event t s (event_at t k)) ks) here ∙ there.0
                ∙ sym (ap (λ (js : List ℕ). run (machine_at t) s (chosen t.accepted js)) same);
            legal = subst (λ (js : List ℕ). Legal (machine_at t) s (chosen t.accepted js)) (sym same) there.1;
          }

pub past-states-are-led : PastStatesAreLed
past-states-are-led t n history = record {
  history = record {
    rising = IsRising-filter (λ k. not (nat_lt n k)) t.kept history.rising;
    accepted = All-filter _ (λ k. not (nat_lt n k)) t.kept history.accepted;
    legal = all.legal;
  };
  state = all.state;
}
  where
    all : IsRun t n t.opening t.kept
    all = run-of t n t.opening t.kept history.rising history.legal
