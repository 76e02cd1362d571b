-- The test of dependence is exact.
use Rattle.std.proofs.Common.{◌≡◌, ℕ, ◌<◌, Bool, true, false, cond, ◌&&◌, [], ◌∷◌, Option, Some, None, refl, sym, ap, ap₂, subst, ◌∙◌, inl, inr, arith, true≢false}
use Rattle.std.specs.Prelude.{nat_eq, nat_lt}
use Rattle.std.specs.List.{AllByRecursion}
use Rattle.std.proofs.lemmas.Bool.{eq-eqb, ne_eqb, eqb-true, lt-ltb, ltb-true}
use Rattle.rev_causal.specs.Entries.{Entry, entries}
use Rattle.rev_causal.specs.History as causal
use Rattle.rev_causal.specs.Order.{Has, Stands}
use Rattle.rev_causal.specs.Store.{conflict}
use Rattle.rev_causal.proofs.Chosen.{chosen-rises}
use Rattle.rev_causal.proofs.Order.{stands_has}
use Rattle.rev_causal.proofs.Runs.{either}
use Rattle.rev_cells.specs.Keys.{cell_cmp}
use Rattle.rev_cells.specs.State.{State}
use Rattle.rev_manifest.specs.Manifest.{ManifestValue}
use Rattle.rev_events.specs.declared.event.Event.{Event}
use Rattle.rev_events.specs.Machine.{after}
use Rattle.rev_footprint.specs.Footprint.{footprint}
use Rattle.rev_footprint.specs.Machine.{machine}
use Rattle.rev_footprint.specs.Value.{FootprintValue, print_of}
use Rattle.rev_history.specs.Timeline.{Numbered, Timeline, footprints_along, kept_entries, kept_events, kept_footprint}
use Rattle.rev_held.specs.Dependence.{depends_on, holds_between}
use Rattle.rev_held.specs.Laws.{DependsIsExact}

module _ (m : ManifestValue) (jobs : ℕ) where
  -- an entry of a number with a footprint
  record IsEntry (s : State) (es : Numbered) (n : ℕ) (f : FootprintValue) : Type 0 where
    entry : Entry (machine m jobs)
    has : Has (entries (machine m jobs) s es) entry
    number_is : entry.number ≡ n
    print : entry.footprint ≡ print_of f

  entry-at : (s : State) (es : Numbered) (n : ℕ) (f : FootprintValue) → causal.event_at n (footprints_along m s es) ≡ Some f → IsEntry s es n f
  entry-at s [] n f h = absurd (true≢false cc)
  entry-at s (e ∷ es) n f h = elim (either (nat_eq e.0 n)) [
    | inl t ↦
        let one : Some (footprint m s e.1) ≡ Some f =
        sym (ap (λ b. cond b (Some (footprint m s e.1)) (causal.event_at n (footprints_along m (after m s e.1) es))) t) ∙ h in
        let same : footprint m s e.1 ≡ f = cc in
        record {
          entry = record { number = e.0; event = e.1; footprint = print_of (footprint m s e.1) };
          has = inl refl;
          number_is = eqb-true e.0 n t;
          print = ap print_of same;
        }
    | inr other ↦
        let rest = entry-at (after m s e.1) es n f
        (sym (ap (λ b. cond b (Some (footprint m s e.1)) (causal.event_at n (footprints_along m (after m s e.1) es))) other) ∙ h) in
        record { entry = rest.entry; has = inr rest.has; number_is = rest.number_is; print = rest.print }
  ]

  -- entries stand in the order of their numbers
  above : (x : ℕ) (s : State) (es : Numbered) (z : Entry (machine m jobs)) → AllByRecursion (λ (y : ℕ × Event). x < y.0) es → Has (entries (machine m jobs) s es) z → x < z.number
  above x s [] z all h = absurd h
  above x s (e ∷ es) z all (inl p) = subst (λ (y : Entry (machine m jobs)). x < y.number) p all.0
  above x s (e ∷ es) z all (inr k) = above x (after m s e.1) es z all.1 k

  stand : (s : State) (es : Numbered) (z w : Entry (machine m jobs)) → causal.IsRising es → Has (entries (machine m jobs) s es) z → Has (entries (machine m jobs) s es) w
      → z.number < w.number → Stands z w (entries (machine m jobs) s es)
  stand s [] z w r one other less = absurd one
  stand s (e ∷ es) z w r (inl p) (inl q) less =
      let a : e.0 ≡ z.number = ap (λ (y : Entry (machine m jobs)). y.number) p in
      let b : e.0 ≡ w.number = ap (λ (y : Entry (machine m jobs)). y.number) q in
      absurd (omega (arith, a, b, less))
  stand s (e ∷ es) z w r (inl p) (inr k) less = inl (p, k)
  stand s (e ∷ es) z w r (inr k) (inl q) less =
      let b : e.0 ≡ w.number = ap (λ (y : Entry (machine m jobs)). y.number) q in
      let a = above e.0 (after m s e.1) es z r.0 k in
      absurd (omega (arith, a, b, less))
  stand s (e ∷ es) z w r (inr k) (inr l) less = inr (stand (after m s e.1) es z w r.1 k l less)

  numbers-rise : (s : State) (es : Numbered) (z w : Entry (machine m jobs)) → causal.IsRising es → Stands z w (entries (machine m jobs) s es) → z.number < w.number
  numbers-rise s [] z w r h = absurd h
  numbers-rise s (e ∷ es) z w r (inl p) = subst (λ (y : Entry (machine m jobs)). y.number < w.number) p.0 (above e.0 (after m s e.1) es w r.0 p.1)
  numbers-rise s (e ∷ es) z w r (inr k) = numbers-rise (after m s e.1) es z w r.1 k

  -- the footprint of an entry's number
  record HasPrint (s : State) (es : Numbered) (z : Entry (machine m jobs)) : Type 0 where
    value : FootprintValue
    at : causal.event_at z.number (footprints_along m s es) ≡ Some value
    print : print_of value ≡ z.footprint

  print-at : (s : State) (es : Numbered) (z : Entry (machine m jobs)) → causal.IsRising es → Has (entries (machine m jobs) s es) z → HasPrint s es z
  print-at s [] z r h = absurd h
  print-at s (e ∷ es) z r (inl p) = record {
    value = footprint m s e.1;
    at =
        ap (λ b. cond b (Some (footprint m s e.1)) (causal.event_at z.number (footprints_along m (after m s e.1) es)))
        (eq-eqb e.0 z.number (ap (λ (y : Entry (machine m jobs)). y.number) p));
    print = ap (λ (y : Entry (machine m jobs)). y.footprint) p;
  }
  print-at s (e ∷ es) z r (inr k) =
      let a = above e.0 (after m s e.1) es z r.0 k in
      let rest = print-at (after m s e.1) es z r.1 k in
      record {
        value = rest.value;
        at =
            ap (λ b. cond b (Some (footprint m s e.1)) (causal.event_at z.number (footprints_along m (after m s e.1) es)))
            (ne_eqb e.0 z.number (λ same. omega (arith, a, same)))
            ∙ rest.at;
        print = rest.print;
      }

-- what a test says that it found
record AreClashing (t : Timeline) (one other : ℕ) : Type 0 where
  less : one < other
  first : FootprintValue
  second : FootprintValue
  has_first : kept_footprint t one ≡ Some first
  has_second : kept_footprint t other ≡ Some second
  conflicts : conflict cell_cmp (print_of first) (print_of second) ≡ true

found : (t : Timeline) (one other : ℕ) → depends_on t one other ≡ true → AreClashing t one other
found t one other h = by (nat_lt one other) (kept_footprint t one) (kept_footprint t other) refl refl refl h
  where
    by : (b : Bool) (o q : Option FootprintValue) → nat_lt one other ≡ b → kept_footprint t one ≡ o → kept_footprint t other ≡ q
        → (b && holds_between (λ f g. conflict cell_cmp (print_of f) (print_of g)) o q) ≡ true → AreClashing t one other
    by false o q e is is' h = absurd (true≢false (sym h))
    by true None q e is is' h = absurd (true≢false (sym h))
    by true (Some f) None e is is' h = absurd (true≢false (sym h))
    by true (Some f) (Some g) e is is' h = record { less = ltb-true one other e; first = f; second = g; has_first = is; has_second = is'; conflicts = h }

pub depends-is-exact : DependsIsExact
depends-is-exact t one other h = (
  λ d.
      let f = found t one other d in
      let a = entry-at t.manifest t.jobs t.opening (kept_events t) one f.first f.has_first in
      let b = entry-at t.manifest t.jobs t.opening (kept_events t) other f.second f.has_second in
      let less : a.entry.number < b.entry.number = subst (λ n. n < b.entry.number) (sym a.number_is) (subst (λ n. one < n) (sym b.number_is) f.less) in
      record {
        one = a.entry;
        other = b.entry;
        of_n = a.number_is;
        of_m = b.number_is;
        later = stand t.manifest t.jobs t.opening (kept_events t) a.entry b.entry (chosen-rises t.accepted t.kept h.rising) a.has b.has less;
        conflicts = ap₂ (λ p q. conflict cell_cmp p q) a.print b.print ∙ f.conflicts;
      },
  λ d.
      let rising = chosen-rises t.accepted t.kept h.rising in
      let both = stands_has d.one d.other (kept_entries t) d.later in
      let a = print-at t.manifest t.jobs t.opening (kept_events t) d.one rising both.0 in
      let b = print-at t.manifest t.jobs t.opening (kept_events t) d.other rising both.1 in
      let less = numbers-rise t.manifest t.jobs t.opening (kept_events t) d.one d.other rising d.later in
      let below : one < other = subst (λ n. n < other) d.of_n (subst (λ n. d.one.number < n) d.of_m less) in
      let first : kept_footprint t one ≡ Some a.value = subst (λ n. kept_footprint t n ≡ Some a.value) d.of_n a.at in
      let second : kept_footprint t other ≡ Some b.value = subst (λ n. kept_footprint t n ≡ Some b.value) d.of_m b.at in
      (λ i. lt-ltb one other below i && holds_between (λ f g. conflict cell_cmp (print_of f) (print_of g)) (first i) (second i))
      ∙ ap₂ (λ p q. conflict cell_cmp p q) a.print b.print ∙ d.conflicts,
)
