-- The answer of the order check is exact.
use Rattle.std.proofs.Common.{◌≡◌, ◌↔◌, ◌<◌, ◌≤◌, ◌&&◌, ℕ, Bool, true, false, cond, is_some, IsSome, List, [], ◌∷◌, Option, None, Some, option_map, refl, true≢false, arith, sym, ap, ap₂, subst, ◌∙◌, nat_eq, eq-eqb}
use Rattle.std.specs.List.{AllByRecursion}
use Rattle.std.specs.Ordering.{nat_cmp}
use Rattle.rev_accesses.specs.Places as access_places
use Rattle.rev_causal.specs.Chosen.{chosen, is_among, last_of}
use Rattle.rev_causal.specs.History.{event_at}
use Rattle.rev_causal.specs.Store.{Footprint, conflict}
use Rattle.rev_causal.specs.OrderCheck.{IsEquality, IsOrderAnswer, OrderAnswer, EventsDiffer, SameOrder, Inverted, bare, matched_answer, pair_answer, renumbered}
use Rattle.rev_causal.proofs.Chosen.{AllAccepted, chosen-rises, event_at-below, event_at-chosen, event_at-not_chosen}
use Rattle.rev_causal.proofs.Inverted.{order_check_is_exact}
use Rattle.rev_cells.specs.Alike as cells
use Rattle.rev_cells.specs.Keys.{cell_cmp}
use Rattle.rev_events.specs.declared.event.Event.{Event}
use Rattle.rev_events.specs.Same.{event_eq}
use Rattle.rev_footprint.proofs.EqualLemmas.{equal-conflict}
use Rattle.rev_footprint.proofs.Local.{machine-local}
use Rattle.rev_graph.specs.Alike.{LendAlike}
use Rattle.rev_order.specs.Matched.{ArePlacesOf}
use Rattle.rev_order.specs.Overtaken.{first_where, first_inverted_of}
use Rattle.rev_order.specs.Pairs.{partner_of, with_partner, pair_of, inverted_pair}
use Rattle.rev_order.proofs.OrderAnswers.{answer_by_places}
use Rattle.rev_history.specs.declared.history.History.TheInside.{Inside}
use Rattle.rev_history.specs.declared.steps.Step.{Step}
use Rattle.rev_history.specs.Named.{CellPrints}
use Rattle.rev_history.specs.Sound.{IsListed, IsSound, beside_of, kept_prints, timeline_of}
use Rattle.rev_history.specs.Steps.{HaveSteps, Placed, place_prints, prints_of, step_beside}
use Rattle.rev_history.specs.Timeline.{Timeline, IsHistory, kept_events, machine_at}
use Rattle.rev_history.proofs.BesideKept.{all_among}
use Rattle.rev_history.proofs.NamedLemmas.{print_placed, steps_paired}
use Rattle.rev_history.proofs.PairedLemmas.{pair_same, paired_chosen}
use Rattle.rev_history.specs.Order.{IsSameOpening, IsOrder, OrderIsExact, kept_in_order, order_of}

exact_here : (same : Event → Event → Bool) (t u : Timeline) → IsEquality same → IsHistory t → IsSameOpening t u → IsOrder same t u (order_of same true t u)
exact_here same t u q h o =
    let a : IsOrderAnswer (machine_at t) same t.opening (kept_events t) (kept_in_order u) =
    order_check_is_exact (machine_at t) (machine-local t.manifest t.jobs) (equal-conflict t.manifest t.jobs) same q t.opening (kept_events t) (kept_in_order u) h.legal (chosen-rises t.accepted t.kept h.rising) in
    record {
      differ = (λ e w. a.differ.0 e w.1, λ f. a.differ.1 (λ w. f (o, w)));
      same_order = (λ e. (o, a.same_order.0 e), λ w. a.same_order.1 w.1);
      inverted = λ i j e. (o, a.inverted i j e);
    }

pub exact : OrderIsExact
exact same t u true q h agree = exact_here same t u q h (agree.0 refl)
exact same t u false q h agree =
    record {
      differ = (λ e w. true≢false (sym (agree.1 w.0)), λ f. refl);
      same_order = (λ e. absurd (never e), λ w. absurd (true≢false (sym (agree.1 w.0))));
      inverted = λ i j e. absurd (other i j e);
    }
  where
    never : EventsDiffer ≡ SameOrder → ⊥
    never e = cc

    other : (i j : ℕ) → EventsDiffer ≡ Inverted i j → ⊥
    other i j e = cc

-- WHAT IS FOUND BY PLACES
module _ {A : Type 0} where
  -- a number that is found is there
  first_there : (x : ℕ × A → Bool) (ps : List (ℕ × A)) (n : ℕ) → first_where x ps ≡ Some n → IsSome (event_at n ps)
  first_there x [] n e = cc
  first_there x (p ∷ ps) n e = by (x p) (nat_eq p.0 n) refl refl (first_there x ps n)
    where
      by : (a b : Bool) → x p ≡ a → nat_eq p.0 n ≡ b → (first_where x ps ≡ Some n → IsSome (event_at n ps)) → IsSome (cond (nat_eq p.0 n) (Some p.1) (event_at n ps))
      by a true t u more = ap (λ b. is_some (cond b (Some p.1) (event_at n ps))) u
      by true false t u more =
          let one : Some p.0 ≡ Some n = sym (ap (λ b. cond b (Some p.0) (first_where x ps)) t) ∙ e in
          let is : p.0 ≡ n = cc in
          absurd (true≢false (sym (eq-eqb p.0 n is) ∙ u))
      by false false t u more = ap (λ b. is_some (cond b (Some p.1) (event_at n ps))) u ∙ more (sym (ap (λ b. cond b (Some p.0) (first_where x ps)) t) ∙ e)

module _ (places : List ℕ) (es : List (ℕ × Event)) (steps : List Placed) (kept : List ℕ) where
  -- the first that is inverted is kept
  inverted_among : (n : ℕ) → Some n ≡ first_inverted_of (conflict nat_cmp) places (chosen (place_prints es steps) kept) → is_among kept n ≡ true
  inverted_among n found = by (is_among kept n) refl
    where
      there : IsSome (event_at n (chosen (place_prints es steps) kept))
      there = first_there _ (chosen (place_prints es steps) kept) n (sym found)

      by : (b : Bool) → is_among kept n ≡ b → is_among kept n ≡ true
      by true e = e
      by false e = absurd (true≢false (sym there ∙ ap is_some (event_at-not_chosen (place_prints es steps) kept n e)))

  -- so that it has a footprint
  pub inverted_print : HaveSteps es steps kept → (n : ℕ) → Some n ≡ first_inverted_of (conflict nat_cmp) places (chosen (place_prints es steps) kept)
      → None ≡ step_beside n es steps → ⊥
  inverted_print all n found none =
      true≢false (sym (all_among (λ k. IsSome (step_beside k es steps)) kept n all (inverted_among n found)) ∙ ap is_some (sym none))

  -- none is inverted
  pub pair_none : None ≡ first_inverted_of (conflict nat_cmp) places (chosen (place_prints es steps) kept) → None ≡ inverted_pair (conflict nat_cmp) places (chosen (place_prints es steps) kept)
  pair_none none = ap (pair_of (conflict nat_cmp) places (chosen (place_prints es steps) kept)) none

  -- the first that is inverted, with the first that overtakes it
  pub pair_some : (n : ℕ) (s : Step) (o : Option ℕ) → Some n ≡ first_inverted_of (conflict nat_cmp) places (chosen (place_prints es steps) kept)
      → Some s ≡ step_beside n es steps
      → o ≡ partner_of (conflict nat_cmp) places (chosen (place_prints es steps) kept) n (access_places.print_of s.places)
      → option_map (λ j. (n, j)) o ≡ inverted_pair (conflict nat_cmp) places (chosen (place_prints es steps) kept)
  pair_some n s o found at is =
      let print : event_at n (chosen (place_prints es steps) kept) ≡ Some (access_places.print_of s.places) =
      event_at-chosen (place_prints es steps) kept n (access_places.print_of s.places) (inverted_among n found) (print_placed n es steps s at) in
      ap (option_map (λ j. (n, j))) is
      ∙ sym (ap (with_partner (conflict nat_cmp) places (chosen (place_prints es steps) kept) n) print)
      ∙ ap (pair_of (conflict nat_cmp) places (chosen (place_prints es steps) kept)) found

-- THE FIELDS OF TWO HISTORIES
-- no kept number is above the last
pub kept_within : (a : Inside) → IsSound a → AllByRecursion (λ n. n ≤ a.last) a.kept.items
kept_within a s = by a.kept.items s.stepped.each
  where
    by : (ks : List ℕ) → AllAccepted a.accepted.entries ks → AllByRecursion (λ n. n ≤ a.last) ks
    by [] all = tt
    by (k ∷ ks) all =
        let low : k ≤ last_of a.accepted.entries = event_at-below k a.accepted.entries all.0 in
        (subst (λ (l : ℕ). k ≤ l) (sym s.last) low, by ks all.1)

-- so all are below a number above the last
pub kept_below : (a : Inside) → IsSound a → (n : ℕ) → last_of a.accepted.entries < n → AllByRecursion (λ k. k < n) a.kept.items
kept_below a s n above = by a.kept.items (kept_within a s)
  where
    by : (ks : List ℕ) → AllByRecursion (λ k. k ≤ a.last) ks → AllByRecursion (λ k. k < n) ks
    by [] all = tt
    by (k ∷ ks) all =
        (let low : k ≤ a.last = all.0 in let is : a.last ≡ last_of a.accepted.entries = s.last in omega arith, by ks all.1)

pub differ_found : (a b : Inside) (t u : Timeline) → timeline_of a ≡ t → timeline_of b ≡ u
    → renumbered event_eq (chosen a.accepted.entries a.kept.items) (bare (chosen b.accepted.entries b.kept.items)) ≡ None → EventsDiffer ≡ order_of event_eq true t u
differ_found a b t u one other none =
    sym (ap (matched_answer (machine_at (timeline_of a)) a.opening.state (kept_events (timeline_of a))) none)
    ∙ ap₂ (λ (v w : Timeline). order_of event_eq true v w) one other

pub pair_found : (a b : Inside) (t u : Timeline) → IsListed a → timeline_of a ≡ t → timeline_of b ≡ u → (places : List ℕ)
    → ArePlacesOf event_eq (chosen a.accepted.entries a.kept.items) (bare (chosen b.accepted.entries b.kept.items)) places
    → (answer : OrderAnswer) → answer ≡ pair_answer (inverted_pair (conflict nat_cmp) places (kept_prints a)) → answer ≡ order_of event_eq true t u
pair_found a b t u l one other places w answer is =
    let s : IsSound a = l.sound in
    is
    ∙ ap pair_answer (pair_same a.cells.places l.distinct places (kept_prints a) (chosen (prints_of a.accepted.entries (beside_of a)) a.kept.items)
    (paired_chosen a.cells.places (place_prints a.accepted.entries a.steps.items) (prints_of a.accepted.entries (beside_of a)) a.kept.items
    (steps_paired a.cells.places a.accepted.entries a.steps.items l.placed)))
    ∙ ap (λ (ps : CellPrints). pair_answer (inverted_pair (conflict cell_cmp) places ps)) s.stepped.history.footprints_are
    ∙ sym (answer_by_places (machine_at (timeline_of a)) event_eq a.opening.state (kept_events (timeline_of a)) w.other (bare (chosen b.accepted.entries b.kept.items)) places
    (chosen-rises a.accepted.entries a.kept.items s.stepped.rising) w.found w.matched w.are)
    ∙ ap₂ (λ (v x : Timeline). order_of event_eq true v x) one other

both_hold : {a b : Bool} → (a && b) ≡ true → (a ≡ true) × (b ≡ true)
both_hold {a} {b} h = by a b h
  where
    by : (x y : Bool) → (x && y) ≡ true → (x ≡ true) × (y ≡ true)
    by true y k = (refl, k)
    by false y k = absurd (true≢false (sym k))

-- two tests tell whether two histories have the same opening
pub opening_told : (x y : Bool) (a b : Inside) (t u : Timeline) → timeline_of a ≡ t → timeline_of b ≡ u
    → (x ≡ true) ↔ LendAlike a.graph.manifest b.graph.manifest → (y ≡ true) ↔ cells.IsSameOpening a.opening b.opening
    → ((x && y) ≡ true) ↔ IsSameOpening t u
opening_told x y a b t u one other graphs openings =
    subst (λ (v : Timeline). ((x && y) ≡ true) ↔ IsSameOpening v u) one (subst (λ (v : Timeline). ((x && y) ≡ true) ↔ IsSameOpening (timeline_of a) v) other (
      λ h. let k = both_hold h in let o = openings.0 k.1 in record { graph = graphs.0 k.0; jobs = o.jobs; opening = o.state },
      λ o. ap₂ (λ p q. p && q) (graphs.1 o.graph) (openings.1 (record { jobs = o.jobs; state = o.opening })),
    ))

-- the same as it is told
pub told_of : (r : Bool) (b : Bool) (P : Type 0) → r ≡ b → (b ≡ true) ↔ P → (r ≡ true) ↔ P
told_of r b P e told = (λ h. told.0 (sym e ∙ h), λ p. e ∙ told.1 p)
