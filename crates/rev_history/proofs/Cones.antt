-- A cone is taken out from its last number down.
use Rattle.std.proofs.Common.{◌≡◌, ℕ, ◌-◌, ◌<◌, ◌≤◌, Bool, true, false, cond, List, [], ◌∷◌, ◌++◌, take, get_or, Option, None, Some, length, refl, sym, ap, ap₂, subst, ◌∙◌, inl, inr, eq-eqb, ◌||◌, arith, zero, suc}
use Rattle.std.specs.Prelude.{nat_eq}
use Rattle.rev_causal.specs.Machine.{Machine}
use Rattle.rev_causal.specs.Order.{Has, cone, outside}
use Rattle.rev_causal.specs.Entries.{Entry, entries, clash}
use Rattle.rev_causal.specs.History as causal
use Rattle.rev_causal.specs.Laws.{IsTakenFirst}
use Rattle.rev_causal.proofs.Chosen.{AllAccepted, some_is, chosen-rises, accepted_among}
use Rattle.rev_causal.proofs.ConeDown as down
use Rattle.rev_causal.proofs.Cones as cones
use Rattle.rev_causal.proofs.Runs.{either}
use Rattle.rev_events.specs.declared.event.Event.{Event}
use Rattle.rev_events.specs.declared.refusal.Refusal.TheVariants.{NotKept}
use Rattle.rev_footprint.proofs.Local.{machine-local}
use Rattle.rev_history.specs.Timeline.{Timeline, IsHistory, machine_at, event_at, under, chosen, kept_events, kept_entries, is_among, undo_refusal, undone, cone_refusal_of, cone_refusal, numbers_of, cone_numbers, coned}
use Rattle.rev_history.proofs.Commands.{free_undo, kept_undone, undone_history}

-- what it says that a cone is not refused
pub record IsKept (t : Timeline) (n : ℕ) : Type 0 where
  pub event : Event
  pub at : event_at t n ≡ Some event
  pub among : is_among t.kept n ≡ true

kept_by : (t : Timeline) (n : ℕ) (o : Option Event) → event_at t n ≡ o → cone_refusal_of t n o ≡ None → IsKept t n
kept_by t n None at h = cc
kept_by t n (Some e) at h = elim (either (is_among t.kept n)) [
  | inl among ↦ record { event = e; at = at; among = among }
  | inr apart ↦
      let never : Some NotKept ≡ None = sym (ap (λ b. cond b None (Some NotKept)) apart) ∙ h in
      cc
]

pub some_kept : (t : Timeline) (n : ℕ) → cone_refusal t n ≡ None → IsKept t n
some_kept t n h = kept_by t n (event_at t n) refl h

-- numbers that end in one are those of entries that end in one
pub record EndsInEntry (m : Machine) (zs : List (Entry m)) (ns : List ℕ) (n : ℕ) : Type 0 where
  pub front : List (Entry m)
  pub last : Entry m
  pub is : zs ≡ front ++ last ∷ []
  pub of_front : numbers_of front ≡ ns
  pub of_last : last.number ≡ n

ends_in_entry : (m : Machine) (zs : List (Entry m)) (ns : List ℕ) (n : ℕ) → numbers_of zs ≡ ns ++ n ∷ [] → EndsInEntry m zs ns n
ends_in_entry m [] [] n h = cc
ends_in_entry m [] (k ∷ ns) n h = cc
ends_in_entry m (z ∷ []) [] n h = let same : z.number ≡ n = cc in record { front = []; last = z; is = refl; of_front = refl; of_last = same }
ends_in_entry m (z ∷ []) (k ∷ []) n h = cc
ends_in_entry m (z ∷ []) (k ∷ j ∷ ns) n h = cc
ends_in_entry m (z ∷ y ∷ zs) [] n h = cc
ends_in_entry m (z ∷ y ∷ zs) (k ∷ ns) n h =
    let first : z.number ≡ k = cc in
    let rest : numbers_of (y ∷ zs) ≡ ns ++ n ∷ [] = cc in
    let e : EndsInEntry m (y ∷ zs) ns n = ends_in_entry m (y ∷ zs) ns n rest in
    record { front = z ∷ e.front; last = e.last; is = ap (λ xs. z ∷ xs) e.is; of_front = ap₂ (λ x xs. x ∷ xs) first e.of_front; of_last = e.of_last }

has_last : {A : Type 0} (xs : List A) (x : A) → Has (xs ++ x ∷ []) x
has_last [] x = inl refl
has_last (y ∷ xs) x = inr (has_last xs x)

-- a member of a cone is an entry of the list
in_cone : (m : Machine) (n : ℕ) (zs : List (Entry m)) (z : Entry m) → Has (causal.cone_of m n zs) z → Has zs z
in_cone m n [] z h = h
in_cone m n (x ∷ xs) z h = elim (either (nat_eq x.number n)) [
  | inl t ↦
      elim (subst (λ b. Has (cond b (x ∷ down_cone) (causal.cone_of m n xs)) z) t h) [
        | inl p ↦ inl p
        | inr r ↦ inr (cones.cone_within (clash m) (x ∷ []) xs z r)
      ]
  | inr f ↦ inr (in_cone m n xs z (subst (λ b. Has (cond b (x ∷ down_cone) (causal.cone_of m n xs)) z) f h))
]
  where
    down_cone : List (Entry m)
    down_cone = cone (clash m) (x ∷ []) xs

or_true : (a : Bool) {b : Bool} → b ≡ true → (a || b) ≡ true
or_true true h = refl
or_true false h = h

-- an entry's number is among those that were chosen
among_chosen : (m : Machine) (es : List (ℕ × m.Event)) (s : m.State) (ks : List ℕ) (z : Entry m) → Has (entries m s (chosen es ks)) z → is_among ks z.number ≡ true
among_chosen m es s [] z h = absurd h
among_chosen m es s (k ∷ ks) z h = by (λ u r. among_chosen m es u ks z r) (causal.event_at k es) h
  where
    by : ((u : m.State) → Has (entries m u (chosen es ks)) z → is_among ks z.number ≡ true) → (o : Option m.Event) → Has (entries m s (under k o (chosen es ks))) z → is_among (k ∷ ks) z.number ≡ true
    by further None h = or_true (nat_eq z.number k) (further s h)
    by further (Some e) h = elim h [
      | inl p ↦ ap (λ (y : Entry m). is_among (k ∷ ks) y.number) (sym p) ∙ ap (λ b. b || is_among ks k) (eq-eqb k k refl)
      | inr r ↦ or_true (nat_eq z.number k) (further (m.after s e) r)
    ]

-- what it is to take the greatest member of a cone out
pub record IsStepDown (t : Timeline) (n k : ℕ) (ns : List ℕ) : Type 0 where
  pub free : undo_refusal t k ≡ None
  pub cone_without : cone_numbers n (undone k t) ≡ ns
  pub rest_without : coned n (undone k t) ≡ coned n t
  pub legal : IsHistory (undone k t)

pub step_down : (t : Timeline) (n k : ℕ) (ns : List ℕ) → IsHistory t → cone_numbers n t ≡ ns ++ k ∷ [] → IsStepDown t n k ns
step_down t n k ns h numbers =
    let e : EndsInEntry (machine_at t) (causal.cone_of (machine_at t) n (kept_entries t)) ns k = ends_in_entry (machine_at t) (causal.cone_of (machine_at t) n (kept_entries t)) ns k numbers in
    let first : IsTakenFirst (machine_at t) t.opening (kept_events t) n e.front e.last =
    down.cone_comes_down (machine_at t) (machine-local t.manifest t.jobs) t.opening n (kept_events t) e.front e.last (chosen-rises t.accepted t.kept h.rising) h.legal e.is in
    let there : is_among t.kept e.last.number ≡ true =
    among_chosen (machine_at t) t.accepted t.opening t.kept e.last (in_cone (machine_at t) n (kept_entries t) e.last (subst (λ zs. Has zs e.last) (sym e.is) (has_last e.front e.last))) in
    let event = accepted_among t.accepted t.kept e.last.number h.accepted there in
    let free : undo_refusal t e.last.number ≡ None = free_undo t e.last.number (record { event = event.0; at = event.1; among = there; none = first.free }) in
    let here : IsStepDown t n e.last.number ns = record {
      free = free;
      cone_without = ap (λ xs. numbers_of (causal.cone_of (machine_at t) n (entries (machine_at t) t.opening xs))) (kept_undone t e.last.number h) ∙ ap numbers_of first.cone_without ∙ e.of_front;
      rest_without = ap (λ xs. record t { kept = numbers_of (causal.rest_of (machine_at t) n (entries (machine_at t) t.opening xs)) }) (kept_undone t e.last.number h) ∙ ap (λ zs. record t { kept = numbers_of {m = machine_at t} zs }) first.rest_without;
      legal = undone_history t e.last.number h free;
    } in
    subst (λ j. IsStepDown t n j ns) e.of_last here

-- where no cone is left, all is taken out
no_cone : (m : Machine) (n : ℕ) (zs : List (Entry m)) → numbers_of (causal.cone_of m n zs) ≡ [] → causal.rest_of m n zs ≡ zs
no_cone m n [] none = refl
no_cone m n (z ∷ zs) none = elim (either (nat_eq z.number n)) [
  | inl t ↦
      let never : numbers_of (z ∷ cone (clash m) (z ∷ []) zs) ≡ [] = subst (λ b. numbers_of (cond b (z ∷ cone (clash m) (z ∷ []) zs) (causal.cone_of m n zs)) ≡ []) t none in
      cc
  | inr f ↦
      ap (λ b. cond b (outside (clash m) (z ∷ []) zs) (z ∷ causal.rest_of m n zs)) f
      ∙ ap (λ xs. z ∷ xs) (no_cone m n zs (subst (λ b. numbers_of (cond b (z ∷ cone (clash m) (z ∷ []) zs) (causal.cone_of m n zs)) ≡ []) f none))
]

chosen_numbers : (m : Machine) (es : List (ℕ × m.Event)) (s : m.State) (ks : List ℕ) → AllAccepted es ks → numbers_of (entries m s (chosen es ks)) ≡ ks
chosen_numbers m es s [] all = refl
chosen_numbers m es s (k ∷ ks) all =
    let e = some_is (causal.event_at k es) all.0 in
    ap (λ o. numbers_of (entries m s (under k o (chosen es ks)))) e.1 ∙ ap (λ xs. k ∷ xs) (chosen_numbers m es (m.after s e.0) ks all.1)

pub all_down : (t : Timeline) (n : ℕ) → IsHistory t → cone_numbers n t ≡ [] → coned n t ≡ t
all_down t n h none =
    ap (λ ks. record t { kept = ks }) (ap numbers_of (no_cone (machine_at t) n (kept_entries t) none) ∙ chosen_numbers (machine_at t) t.accepted t.opening t.kept h.accepted)

-- numbers that end in one
record Split (ns : List ℕ) : Type 0 where
  front : List ℕ
  last : ℕ
  is : ns ≡ front ++ last ∷ []
  shorter : length front < length ns

split : (n : ℕ) (ns : List ℕ) → Split (n ∷ ns)
split n [] = record { front = []; last = n; is = refl; shorter = omega arith }
split n (k ∷ ns) =
    let s : Split (k ∷ ns) = split k ns in
    record { front = n ∷ s.front; last = s.last; is = ap (λ xs. n ∷ xs) s.is; shorter = let less : length s.front < length (k ∷ ns) = s.shorter in omega arith }

coned_by : (size : ℕ) (t : Timeline) (n : ℕ) (ns : List ℕ) → IsHistory t → cone_numbers n t ≡ ns → length ns ≤ size → IsHistory (coned n t)
coned_by size t n [] h is within = subst IsHistory (sym (all_down t n h is)) h
coned_by zero t n (x ∷ xs) h is within = absurd (omega arith)
coned_by (suc size) t n (x ∷ xs) h is within =
    let s : Split (x ∷ xs) = split x xs in
    let d : IsStepDown t n s.last s.front = step_down t n s.last s.front h (is ∙ s.is) in
    let less : length s.front < length (x ∷ xs) = s.shorter in
    subst IsHistory d.rest_without (coned_by size (undone s.last t) n s.front d.legal d.cone_without (omega arith))

-- what a cone leaves is a history
pub coned_history : (t : Timeline) (n : ℕ) → IsHistory t → IsHistory (coned n t)
coned_history t n h = coned_by (length (cone_numbers n t)) t n (cone_numbers n t) h refl (omega arith)

-- one member less

taken-next : (xs : List ℕ) (i d : ℕ) → i < length xs → take (suc i) xs ≡ take i xs ++ get_or xs i d ∷ []
taken-next [] i d lt = absurd (omega arith)
taken-next (x ∷ xs) zero d lt = refl
taken-next (x ∷ xs) (suc i) d lt = ap (λ ys. x ∷ ys) (taken-next xs i d (omega arith))

pub down_step : (t : Timeline) (n left : ℕ) (members : List ℕ) → IsHistory t → 0 < left → left ≤ length members → cone_numbers n t ≡ take left members → IsStepDown t n (get_or members (left - 1) 0) (take (left - 1) members)
down_step t n zero members h some within numbers = absurd (omega arith)
down_step t n (suc i) members h some within numbers =
    let one : suc i - 1 ≡ i = omega arith in
    subst (λ j. IsStepDown t n (get_or members j 0) (take j members)) (sym one) (step_down t n (get_or members i 0) (take i members) h (numbers ∙ taken-next members i 0 (omega arith)))

pub down_last : (t : Timeline) (n left : ℕ) (members : List ℕ) → IsHistory t → left ≡ 0 → cone_numbers n t ≡ take left members → coned n t ≡ t
down_last t n left members h none numbers = all_down t n h (numbers ∙ ap (λ j. take j members) none ∙ taken-none members)
  where
    taken-none : (xs : List ℕ) → take 0 xs ≡ []
    taken-none [] = refl
    taken-none (x ∷ xs) = refl
