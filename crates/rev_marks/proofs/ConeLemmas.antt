-- The cones of a history, as they are seen in its kept footprints.
use Rattle.std.proofs.Common.{◌≡◌, ℕ, ◌<◌, Bool, true, false, cond, ◌||◌, List, [], ◌∷◌, map, filter, Option, Some, None, is_some, nat_eq, nat_lt, inl, inr, refl, sym, ap, ap₂, subst, ◌∙◌, arith, eq-eqb, eqb-true, le-ltb, lt-ltb, ltb-true, ne_eqb, true≢false}
use Rattle.std.specs.Prelude.{IsSome, slice_get}
use Rattle.std.specs.List.{AllByRecursion}
use Rattle.std.specs.Option.{option_map}
use Rattle.rev_causal.specs.Chosen.{chosen, is_among, under}
use Rattle.rev_causal.specs.Entries.{Entry, clash as clash_of, entries}
use Rattle.rev_causal.specs.History as causal
use Rattle.rev_causal.specs.Order.{Has, any_conflict, cone}
use Rattle.rev_causal.specs.Store.{Footprint, Footprint.Whole, Footprint.Cells, conflict}
use Rattle.rev_causal.proofs.ByNumber.{above_missing}
use Rattle.rev_causal.proofs.Chosen.{All-chosen, chosen-rises}
use Rattle.rev_causal.proofs.Runs.{either}
use Rattle.rev_cells.specs.declared.cell.Cell.{Cell}
use Rattle.rev_cells.specs.Keys.{cell_cmp}
use Rattle.rev_cells.specs.State.{State}
use Rattle.rev_manifest.specs.Manifest.{ManifestValue}
use Rattle.rev_events.specs.declared.event.Event.{Event}
use Rattle.rev_events.specs.Machine.{after}
use Rattle.rev_footprint.specs.Footprint.{footprint}
use Rattle.rev_footprint.specs.Machine.{machine}
use Rattle.rev_footprint.specs.Value.{FootprintValue, print_of}
use Rattle.rev_history.specs.Timeline.{IsHistory, Numbered, Timeline, cone_numbers, footprints_along, kept_events, kept_footprint, numbers_of}
use Rattle.rev_held.specs.Beside.{beside_places, held_beside}
use Rattle.rev_held.specs.Dependence.{holds_between}
use Rattle.rev_marks.specs.Cones.{cone_seen, seen}
use Rattle.rev_marks.specs.Lanes.{do_conflict, has_print}
use Rattle.rev_marks.specs.Masks.{AreMarks, is_in}
use Rattle.rev_marks.specs.Table.{viewed}

-- ALL CELLS COUNT, OR THOSE OF NO JOB AND NO SLOT
filter-all : {A : Type 0} (xs : List A) → filter (λ x. true) xs ≡ xs
filter-all [] = refl
filter-all (x ∷ xs) = ap (λ ys. x ∷ ys) (filter-all xs)

view-all : (f : Footprint Cell) → viewed false f ≡ f
view-all Whole = refl
view-all (Cells reads writes) = ap₂ Cells (filter-all reads) (filter-all writes)

view-beside : (f : Footprint Cell) → viewed true f ≡ beside_places f
view-beside Whole = refl
view-beside (Cells reads writes) = refl

module _ (v w : Footprint Cell → Footprint Cell) (same : (f : Footprint Cell) → v f ≡ w f) where
  between : (o p : Option FootprintValue) → do_conflict (option_map (λ f. v (print_of f)) o) (option_map (λ f. v (print_of f)) p)
      ≡ holds_between (λ f g. conflict cell_cmp (w (print_of f)) (w (print_of g))) o p
  between None p = refl
  between (Some f) None = refl
  between (Some f) (Some g) = ap₂ (λ x y. conflict cell_cmp x y) (same (print_of f)) (same (print_of g))

has-seen : (t : Timeline) (beside : Bool) (n : ℕ) → has_print (seen t beside) n ≡ is_some (kept_footprint t n)
has-seen t beside n = by (kept_footprint t n)
  where
    by : (o : Option FootprintValue) → is_some (option_map (λ f. viewed beside (print_of f)) o) ≡ is_some o
    by None = refl
    by (Some f) = refl

pub seen-beside : (t : Timeline) (n : ℕ) → cone_seen t true n ≡ held_beside t n
seen-beside t n i =
    cond (has-seen t true n i) (n ∷ cone (λ a b. between (viewed true) beside_places view-beside (kept_footprint t a) (kept_footprint t b) i) (n ∷ []) (filter (λ k. nat_lt n k) t.kept)) []

-- BY NUMBERS AND BY ENTRIES
abbrev dependence : (ℕ → Option FootprintValue) → ℕ → ℕ → Bool
dependence prints a b = holds_between (λ f g. conflict cell_cmp (print_of f) (print_of g)) (prints a) (prints b)

module _ (m : ManifestValue) (jobs : ℕ) (prints : ℕ → Option FootprintValue) where
  -- the footprints of these events stand under their numbers
  abbrev AreSeen : State → Numbered → Type 0
  AreSeen s [] = Unit {0}
  AreSeen s (e ∷ es) = (prints e.0 ≡ Some (footprint m s e.1)) × AreSeen (after m s e.1) es

  -- that of an entry
  abbrev IsSeen : Entry (machine m jobs) → Type 0
  IsSeen z = (f : FootprintValue) × ((prints z.number ≡ Some f) × (print_of f ≡ z.footprint))

  abbrev AllSeen : List (Entry (machine m jobs)) → Type 0
  AllSeen [] = Unit {0}
  AllSeen (z ∷ zs) = IsSeen z × AllSeen zs

  clash-is : (z w : Entry (machine m jobs)) → IsSeen z → IsSeen w → clash_of (machine m jobs) z w ≡ dependence prints z.number w.number
  clash-is z w p q =
      (λ i. conflict cell_cmp (sym p.1.1 i) (sym q.1.1 i)) ∙ (λ i. holds_between (λ f g. conflict cell_cmp (print_of f) (print_of g)) (sym p.1.0 i) (sym q.1.0 i))

  any-is : (zs : List (Entry (machine m jobs))) (w : Entry (machine m jobs)) → AllSeen zs → IsSeen w
      → any_conflict (clash_of (machine m jobs)) zs w ≡ any_conflict (dependence prints) (numbers_of zs) w.number
  any-is [] w all q = refl
  any-is (z ∷ zs) w all q = ap₂ (λ a b. a || b) (clash-is z w all.0 q) (any-is zs w all.1 q)

  abbrev keys : Numbered → List ℕ
  keys es = map (λ (e : ℕ × Event). e.0) es

  cone-is : (s : State) (es : Numbered) (zs : List (Entry (machine m jobs))) → AreSeen s es → AllSeen zs
      → numbers_of (cone (clash_of (machine m jobs)) zs (entries (machine m jobs) s es)) ≡ cone (dependence prints) (numbers_of zs) (keys es)
  cone-is s [] zs are all = refl
  cone-is s (e ∷ es) zs are all =
      by (any_conflict (clash_of (machine m jobs)) zs z) refl (cone-is (after m s e.1) es (z ∷ zs) are.1 (here, all)) (cone-is (after m s e.1) es zs are.1 all)
    where
      z : Entry (machine m jobs)
      z = record { number = e.0; event = e.1; footprint = print_of (footprint m s e.1) }

      here : IsSeen z
      here = (footprint m s e.1, (are.0, refl))

      rest : List (Entry (machine m jobs))
      rest = entries (machine m jobs) (after m s e.1) es

      by : (b : Bool) → any_conflict (clash_of (machine m jobs)) zs z ≡ b
          → numbers_of (cone (clash_of (machine m jobs)) (z ∷ zs) rest) ≡ cone (dependence prints) (e.0 ∷ numbers_of zs) (keys es)
          → numbers_of (cone (clash_of (machine m jobs)) zs rest) ≡ cone (dependence prints) (numbers_of zs) (keys es)
          → numbers_of (cond b (z ∷ cone (clash_of (machine m jobs)) (z ∷ zs) rest) (cone (clash_of (machine m jobs)) zs rest)) ≡ cone (dependence prints) (numbers_of zs) (keys (e ∷ es))
      by true is one other =
          ap (λ ks. e.0 ∷ ks) one
          ∙ ap (λ b. cond b (e.0 ∷ cone (dependence prints) (e.0 ∷ numbers_of zs) (keys es)) (cone (dependence prints) (numbers_of zs) (keys es))) (sym is ∙ any-is zs z all here)
      by false is one other =
          other
          ∙ ap (λ b. cond b (e.0 ∷ cone (dependence prints) (e.0 ∷ numbers_of zs) (keys es)) (cone (dependence prints) (numbers_of zs) (keys es))) (sym is ∙ any-is zs z all here)

  abbrev cone_from : List ℕ → ℕ → List ℕ
  cone_from ks n = cond (is_some (prints n)) (n ∷ cone (dependence prints) (n ∷ []) (filter (λ k. nat_lt n k) ks)) []

  filter-above : (n : ℕ) (es : Numbered) → AllByRecursion (λ (x : ℕ × Event). n < x.0) es → filter (λ k. nat_lt n k) (keys es) ≡ keys es
  filter-above n [] all = refl
  filter-above n (e ∷ es) all =
      ap (λ b. cond b (e.0 ∷ filter (λ k. nat_lt n k) (keys es)) (filter (λ k. nat_lt n k) (keys es))) (lt-ltb n e.0 all.0) ∙ ap (λ ks. e.0 ∷ ks) (filter-above n es all.1)

  all-more : (n k : ℕ) (es : Numbered) → n < k → AllByRecursion (λ (x : ℕ × Event). k < x.0) es → AllByRecursion (λ (x : ℕ × Event). n < x.0) es
  all-more n k [] less all = tt
  all-more n k (e ∷ es) less all = (let above : k < e.0 = all.0 in omega (arith, less, above), all-more n k es less all.1)

  all-prints : (n : ℕ) (s : State) (es : Numbered) → AllByRecursion (λ (x : ℕ × Event). n < x.0) es → AllByRecursion (λ (x : ℕ × FootprintValue). n < x.0) (footprints_along m s es)
  all-prints n s [] all = tt
  all-prints n s (e ∷ es) all = (all.0, all-prints n (after m s e.1) es all.1)

  cone-of-is : (s : State) (es : Numbered) (n : ℕ) → causal.IsRising es → AreSeen s es → prints n ≡ causal.event_at n (footprints_along m s es)
      → numbers_of (causal.cone_of (machine m jobs) n (entries (machine m jobs) s es)) ≡ cone_from (keys es) n
  cone-of-is s [] n rising are at = ap (λ (o : Option FootprintValue). cond (is_some o) (n ∷ cone (dependence prints) (n ∷ []) []) []) (sym at)
  cone-of-is s (e ∷ es) n rising are at = by (nat_eq e.0 n) refl (cone-of-is (after m s e.1) es n rising.1 are.1)
    where
      z : Entry (machine m jobs)
      z = record { number = e.0; event = e.1; footprint = print_of (footprint m s e.1) }

      rest : List (Entry (machine m jobs))
      rest = entries (machine m jobs) (after m s e.1) es

      later : Option FootprintValue
      later = causal.event_at n (footprints_along m (after m s e.1) es)

      here : (b : Bool) → nat_eq e.0 n ≡ b → prints n ≡ cond b (Some (footprint m s e.1)) later
      here b is = at ∙ ap (λ x. cond x (Some (footprint m s e.1)) later) is

      by : (b : Bool) → nat_eq e.0 n ≡ b → (prints n ≡ later → numbers_of (causal.cone_of (machine m jobs) n rest) ≡ cone_from (keys es) n)
          → numbers_of (cond b (z ∷ cone (clash_of (machine m jobs)) (z ∷ []) rest) (causal.cone_of (machine m jobs) n rest)) ≡ cone_from (keys (e ∷ es)) n
      by true is more =
          let same : e.0 ≡ n = eqb-true e.0 n is in
          ap (λ ks. e.0 ∷ ks) (cone-is (after m s e.1) es (z ∷ []) are.1 ((footprint m s e.1, (are.0, refl)), tt))
          ∙ ap (λ ks. e.0 ∷ cone (dependence prints) (e.0 ∷ []) ks) (sym (filter-above e.0 es rising.0))
          ∙ ap (λ b. e.0 ∷ cone (dependence prints) (e.0 ∷ []) (cond b (e.0 ∷ filter (λ k. nat_lt e.0 k) (keys es)) (filter (λ k. nat_lt e.0 k) (keys es)))) (sym (le-ltb e.0 e.0 (omega arith)))
          ∙ ap (λ j. j ∷ cone (dependence prints) (j ∷ []) (filter (λ k. nat_lt j k) (keys (e ∷ es)))) same
          ∙ ap (λ (o : Option FootprintValue). cond (is_some o) (n ∷ cone (dependence prints) (n ∷ []) (filter (λ k. nat_lt n k) (keys (e ∷ es)))) []) (sym (here true is))
      by false is more = more (here false is) ∙ elim (either (nat_lt n e.0)) [
        | inl less ↦
            let below : n < e.0 = ltb-true n e.0 less in
            let none : prints n ≡ None = here false is ∙ above_missing n (footprints_along m (after m s e.1) es) (all-prints n (after m s e.1) es (all-more n e.0 es below rising.0)) in
            ap (λ (o : Option FootprintValue). cond (is_some o) (n ∷ cone (dependence prints) (n ∷ []) (filter (λ k. nat_lt n k) (keys es))) []) none
            ∙ ap (λ (o : Option FootprintValue). cond (is_some o) (n ∷ cone (dependence prints) (n ∷ []) (filter (λ k. nat_lt n k) (keys (e ∷ es)))) []) (sym none)
        | inr other ↦
            ap (λ b. cond (is_some (prints n)) (n ∷ cone (dependence prints) (n ∷ []) (cond b (e.0 ∷ filter (λ k. nat_lt n k) (keys es)) (filter (λ k. nat_lt n k) (keys es)))) []) (sym other)
      ]

module _ (m : ManifestValue) (jobs : ℕ) where
  seen-alike : (one other : ℕ → Option FootprintValue) (x : ℕ) (s : State) (es : Numbered) → AllByRecursion (λ (y : ℕ × Event). x < y.0) es
      → ((n : ℕ) → x < n → one n ≡ other n) → AreSeen m jobs other s es → AreSeen m jobs one s es
  seen-alike one other x s [] all alike are = tt
  seen-alike one other x s (e ∷ es) all alike are = (alike e.0 all.0 ∙ are.0, seen-alike one other x (after m s e.1) es all.1 alike are.1)

  are-seen : (s : State) (es : Numbered) → causal.IsRising es → AreSeen m jobs (λ n. causal.event_at n (footprints_along m s es)) s es
  are-seen s [] rising = tt
  are-seen s (e ∷ es) rising = (
    ap (λ b. cond b (Some (footprint m s e.1)) (causal.event_at e.0 (footprints_along m (after m s e.1) es))) (eq-eqb e.0 e.0 refl),
    seen-alike (λ n. causal.event_at n (footprints_along m s (e ∷ es))) (λ n. causal.event_at n (footprints_along m (after m s e.1) es)) e.0 (after m s e.1) es rising.0
        (λ n above. ap (λ b. cond b (Some (footprint m s e.1)) (causal.event_at n (footprints_along m (after m s e.1) es))) (ne_eqb e.0 n (λ same. omega (arith, same, above))))
        (are-seen (after m s e.1) es rising.1),
  )

-- the numbers of the kept events
keys-chosen : (accepted : Numbered) (ks : List ℕ) → AllByRecursion (λ n. IsSome (causal.event_at n accepted)) ks → map (λ (e : ℕ × Event). e.0) (chosen accepted ks) ≡ ks
keys-chosen accepted [] all = refl
keys-chosen accepted (k ∷ ks) all = by (causal.event_at k accepted) all.0 (keys-chosen accepted ks all.1)
  where
    by : (o : Option Event) → IsSome o → map (λ (e : ℕ × Event). e.0) (chosen accepted ks) ≡ ks → map (λ (e : ℕ × Event). e.0) (under k o (chosen accepted ks)) ≡ k ∷ ks
    by None some more = absurd (true≢false (sym some))
    by (Some e) some more = ap (λ ns. k ∷ ns) more

pub seen-all : (t : Timeline) (n : ℕ) → IsHistory t → cone_seen t false n ≡ cone_numbers n t
seen-all t n h =
    (λ i. cond (has-seen t false n i) (n ∷ cone (λ a b. between (viewed false) (λ f. f) view-all (kept_footprint t a) (kept_footprint t b) i) (n ∷ []) (filter (λ k. nat_lt n k) t.kept)) [])
    ∙ ap (λ (ks : List ℕ). cone_from t.manifest t.jobs (kept_footprint t) ks n) (sym (keys-chosen t.accepted t.kept h.accepted))
    ∙ sym (cone-of-is t.manifest t.jobs (kept_footprint t) t.opening (kept_events t) n (chosen-rises t.accepted t.kept h.rising)
    (are-seen t.manifest t.jobs t.opening (kept_events t) (chosen-rises t.accepted t.kept h.rising)) refl)

-- what has a footprint is kept
has-number : (P : ℕ → Type 0) (m : ManifestValue) (s : State) (es : Numbered) (n : ℕ) → AllByRecursion (λ (x : ℕ × Event). P x.0) es
    → is_some (causal.event_at n (footprints_along m s es)) ≡ true → P n
has-number P m s [] n all some = absurd (true≢false (sym some))
has-number P m s (e ∷ es) n all some = by (nat_eq e.0 n) refl some (has-number P m (after m s e.1) es n all.1)
  where
    by : (b : Bool) → nat_eq e.0 n ≡ b → is_some (cond b (Some (footprint m s e.1)) (causal.event_at n (footprints_along m (after m s e.1) es))) ≡ true
        → (is_some (causal.event_at n (footprints_along m (after m s e.1) es)) ≡ true → P n) → P n
    by true is some more = subst P (eqb-true e.0 n is) all.0
    by false is some more = more some

has-all : (ks : List ℕ) (P : ℕ → Type 0) → ((k : ℕ) → Has ks k → P k) → AllByRecursion P ks
has-all [] P f = tt
has-all (k ∷ ks) P f = (f k (inl refl), has-all ks P (λ j there. f j (inr there)))

pub seen-kept : (t : Timeline) (beside : Bool) (n : ℕ) → has_print (seen t beside) n ≡ true → Has t.kept n
seen-kept t beside n some =
    has-number (Has t.kept) t.manifest t.opening (kept_events t) n (All-chosen (Has t.kept) t.accepted t.kept (has-all t.kept (Has t.kept) (λ k there. there))) (sym (has-seen t beside n) ∙ some)

-- under a kept number stands what is seen of its event
pub seen-some : (t : Timeline) (beside : Bool) (n : ℕ) (f : FootprintValue) → Some f ≡ kept_footprint t n → seen t beside n ≡ Some (viewed beside (print_of f))
seen-some t beside n f is = ap (option_map (λ g. viewed beside (print_of g))) (sym is)

pub seen-none : (t : Timeline) (beside : Bool) (n : ℕ) → None ≡ kept_footprint t n → seen t beside n ≡ None
seen-none t beside n is = ap (option_map (λ g. viewed beside (print_of g))) (sym is)

-- MARKS OF EQUAL CONES
pub marks-of : (one other : ℕ → List ℕ) (asked : List ℕ) (marks : List (ℕ × ℕ)) → ((n : ℕ) → one n ≡ other n) → AreMarks one asked marks → AreMarks other asked marks
marks-of one other asked marks same are = record { exact = λ i s. are.exact i s ∙ by (slice_get asked i) s }
  where
    by : (o : Option ℕ) (s : ℕ) → is_in one o s ≡ is_in other o s
    by None s = refl
    by (Some n) s = ap (λ (ks : List ℕ). is_among ks s) (same n)
