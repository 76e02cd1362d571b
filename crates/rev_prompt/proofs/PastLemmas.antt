-- The way to a state, one more event.
use Rattle.std.proofs.Common.{◌≡◌, ℕ, zero, suc, ◌+◌, ◌<◌, ◌≤◌, Bool, true, false, List, [], ◌∷◌, length, get_or, drop, Option, Some, None, Result, Ok, Err, refl, sym, ap, subst, ◌∙◌, arith, drop-cons, add-one, nat_lt}
use Rattle.std.specs.Prelude.{if◌then◌else◌}
use Rattle.std.specs.Result.{OnOk}
use Rattle.rev_causal.specs.Machine.{Legal}
use Rattle.rev_cells.specs.State.{State}
use Rattle.rev_cells.specs.Table.{Table}
use Rattle.rev_events.specs.declared.event.Event.{Event}
use Rattle.rev_events.specs.Machine.{refusal}
use Rattle.rev_history.specs.Timeline.{IsHistory, Timeline, chosen, event_at, machine_at, under}
use Rattle.rev_prompt.specs.Past.{CanFollow, IsLed, after_event, led_by, state_by}

-- the next event, if there is one
record IsNext (t : Timeline) (s : State) (o : Option Event) (ks : List ℕ) : Type 0 where
  pub legal : Legal (machine_at t) (after_event t s o) (chosen t.accepted ks)

-- an event is accepted in its turn
pub is-accepted : (t : Timeline) (k : ℕ) (ks : List ℕ) (cells : Table) (e : Event) → event_at t k ≡ Some e
    → CanFollow t (k ∷ ks) cells → refusal t.manifest cells.jobs cells.state e ≡ None
is-accepted t k ks cells e is can =
    let legal : Legal (machine_at t) cells.state ((k, e) ∷ chosen t.accepted ks) =
    subst (λ (o : Option Event). Legal (machine_at t) cells.state (under k o (chosen t.accepted ks))) is can.legal in
    ap (λ (j : ℕ). refusal t.manifest j cells.state e) can.jobs ∙ legal.0

-- what is left can follow
pub can-next : (t : Timeline) (k : ℕ) (ks : List ℕ) (cells more : Table) (o : Option Event) → event_at t k ≡ o
    → more.jobs ≡ cells.jobs → more.state ≡ after_event t cells.state o → CanFollow t (k ∷ ks) cells
    → CanFollow t ks more
can-next t k ks cells more None is jobs state can = record {
  jobs = jobs ∙ can.jobs;
  legal =
      subst (λ (s : State). Legal (machine_at t) s (chosen t.accepted ks)) (sym state)
      (subst (λ (o : Option Event). Legal (machine_at t) cells.state (under k o (chosen t.accepted ks))) is can.legal);
}
can-next t k ks cells more (Some e) is jobs state can = record {
  jobs = jobs ∙ can.jobs;
  legal =
      let legal : Legal (machine_at t) cells.state ((k, e) ∷ chosen t.accepted ks) =
      subst (λ (o : Option Event). Legal (machine_at t) cells.state (under k o (chosen t.accepted ks))) is can.legal in
      subst (λ (s : State). Legal (machine_at t) s (chosen t.accepted ks)) (sym state) legal.1;
}

-- one more event on the way
pub led-next : (t : Timeline) (n k : ℕ) (ks : List ℕ) (cells more : Table) (o : Option Event) → event_at t k ≡ o
    → nat_lt n k ≡ false → more.jobs ≡ cells.jobs → more.state ≡ after_event t cells.state o
    → IsLed t n (k ∷ ks) cells → IsLed t n ks more
led-next t n k ks cells more o is not-past jobs state before = record {
  can = can-next t k ks cells more o is jobs state before.can;
  led =
      ap (λ (s : State). led_by t n s ks) state
      ∙ ap (λ (q : Option Event). led_by t n (after_event t cells.state q) ks) (sym is)
      ∙ sym (ap (λ (b : Bool). if b then cells.state else led_by t n (after_event t cells.state (event_at t k)) ks) not-past)
      ∙ before.led;
}

-- at first
pub led-first : (t : Timeline) (n : ℕ) (cells : Table) → IsHistory t → cells.jobs ≡ t.jobs → cells.state ≡ t.opening
    → IsLed t n t.kept cells
led-first t n cells history jobs state = record {
  can =
      record {
        jobs = jobs;
        legal =
            subst (λ (s : State). Legal (machine_at t) s (chosen t.accepted t.kept)) (sym state) history.legal;
      };
  led = ap (λ (s : State). led_by t n s t.kept) state;
}

-- at a number past n, and at the end
pub led-past : (t : Timeline) (n k : ℕ) (ks : List ℕ) (cells : Table) → nat_lt n k ≡ true → IsLed t n (k ∷ ks) cells
    → cells.state ≡ state_by t n
led-past t n k ks cells past before =
    sym (ap (λ (b : Bool). if b then cells.state else led_by t n (after_event t cells.state (event_at t k)) ks) past)
    ∙ before.led

pub led-end : (t : Timeline) (n : ℕ) (cells : Table) → IsLed t n [] cells → cells.state ≡ state_by t n
led-end t n cells before = before.led

-- the numbers that are left, from one on
pub left-from : (ks : List ℕ) (i k : ℕ) → i < length ks → k ≡ get_or ks i k → drop i ks ≡ k ∷ drop (i + 1) ks
left-from ks i k within is =
    drop-cons ks i k within ∙ ap (λ j. get_or ks i k ∷ drop j ks) (sym (add-one i)) ∙ ap (λ j. j ∷ drop (i + 1) ks) (sym is)

pub none-left : (ks : List ℕ) (i : ℕ) → length ks ≤ i → drop i ks ≡ []
none-left [] zero past = refl
none-left [] (suc i) past = refl
none-left (k ∷ ks) zero past = absurd (omega arith)
none-left (k ∷ ks) (suc i) past = none-left ks i (omega arith)

-- what follows where an event is accepted
pub where-accepted : {V E : Type 0} (r : Result V E) (A P Q : Type 0) → (A → OnOk r P) → ((A → P) → Q) → OnOk r Q
where-accepted (Ok value) A P Q known follows = follows known
where-accepted (Err fault) A P Q known follows = tt
