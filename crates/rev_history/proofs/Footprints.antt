-- The footprints of kept events at their places.
use Rattle.std.proofs.Common.{◌≡◌, ◌≢◌, ℕ, ◌<◌, Bool, true, false, cond, List, [], ◌∷◌, ◌++◌, Option, None, Some, option_map, length, get_or, set, refl, sym, ap, subst, if◌then◌else◌, ◌∙◌, inl, inr, eqb-true, ne_eqb, arith, zero, suc}
use Rattle.std.specs.Prelude.{IfSome, nat_eq, nat_lt}
use Rattle.std.specs.FinSet as finset
use Rattle.rev_causal.specs.Entries.{entries}
use Rattle.rev_causal.specs.History as causal
use Rattle.rev_causal.specs.Machine.{Legal, run}
use Rattle.rev_causal.specs.Store.{Footprint, Footprint.Whole, Footprint.Cells}
use Rattle.rev_causal.proofs.Beside.{IsPlace}
use Rattle.rev_causal.proofs.ByNumber as by_number
use Rattle.rev_causal.proofs.Runs.{either}
use Rattle.rev_cells.specs.declared.cell.Cell.{Cell}
use Rattle.rev_cells.specs.Keys.{cell_cmp}
use Rattle.rev_cells.specs.State.{State}
use Rattle.rev_cells.proofs.EntryLemmas.{cells_total, cells_exact}
use Rattle.rev_manifest.specs.Manifest.{ManifestValue}
use Rattle.rev_events.specs.declared.event.Event.{Event}
use Rattle.rev_events.specs.declared.event.Event.TheVariants.{Plan, Start, Finish, Fail, Abort, Clean, Pass, Touch, Interrupt, Resize}
use Rattle.rev_events.specs.Machine.{refusal, after}
use Rattle.rev_events.specs.Written.{written}
use Rattle.rev_footprint.specs.Reads.{reads_besides}
use Rattle.rev_footprint.specs.Value.{FootprintValue, print_of}
use Rattle.rev_footprint.specs.Footprint.{footprint}
use Rattle.rev_footprint.specs.Machine.{machine}
use Rattle.rev_footprint.proofs.Local.{machine-local}
use Rattle.rev_history.specs.Steps.{Beside}
use Rattle.rev_history.specs.Sound.{IsFootprintOf, HaveFootprints}
use Rattle.rev_history.specs.Timeline.{Numbered, footprints_along}

-- what stands under other numbers

event_at-without : {A : Type 0} (n k : ℕ) (xs : List (ℕ × A)) → k ≢ n → causal.event_at k (causal.without n xs) ≡ causal.event_at k xs
event_at-without n k [] other = refl
event_at-without n k (x ∷ xs) other = elim (either (nat_eq x.0 n)) [
  | inl t ↦
      let same : x.0 ≡ n = eqb-true x.0 n t in
      ap (λ b. causal.event_at k (cond b xs (x ∷ causal.without n xs))) t
      ∙ sym (ap (λ b. cond b (Some x.1) (causal.event_at k xs)) (ne_eqb x.0 k (λ e. other (sym e ∙ same))))
  | inr f ↦
      ap (λ b. causal.event_at k (cond b xs (x ∷ causal.without n xs))) f
      ∙ ap (cond (nat_eq x.0 k) (Some x.1)) (event_at-without n k xs other)
]

event_at-put : {A : Type 0} (n k : ℕ) (a : A) (xs : List (ℕ × A)) → k ≢ n → causal.event_at k (causal.put n a xs) ≡ causal.event_at k xs
event_at-put n k a [] other = ap (λ b. cond b (Some a) None) (ne_eqb n k (λ e. other (sym e)))
event_at-put n k a (x ∷ xs) other = elim (either (nat_lt n x.0)) [
  | inl t ↦
      ap (λ b. causal.event_at k (cond b ((n, a) ∷ x ∷ xs) (x ∷ causal.put n a xs))) t
      ∙ ap (λ b. cond b (Some a) (causal.event_at k (x ∷ xs))) (ne_eqb n k (λ e. other (sym e)))
  | inr f ↦
      ap (λ b. causal.event_at k (cond b ((n, a) ∷ x ∷ xs) (x ∷ causal.put n a xs))) f
      ∙ ap (cond (nat_eq x.0 k) (Some x.1)) (event_at-put n k a xs other)
]

-- a set is that of its items
of_items : (s : finset.FinSet cell_cmp) → finset.from_list (finset.items s) ≡ s
of_items s = finset.same_set cells_total cells_exact _ _ (λ q. finset.contains-from_list cells_total (finset.items s) q ∙ sym (finset.contains-items s q))

abbrev writes_in : Footprint Cell → List Cell
writes_in Whole = []
writes_in (Cells reads writes) = writes

abbrev reads_in : Footprint Cell → finset.FinSet cell_cmp
reads_in Whole = finset.empty
reads_in (Cells reads writes) = finset.from_list reads

-- where nothing is whole, what the theory of undo sees is all that there is
one_print : (f g : FootprintValue) → f.whole ≡ false → g.whole ≡ false → print_of f ≡ print_of g → f ≡ g
one_print f g part part' same =
    let cells : Cells (finset.items f.reads) f.writes ≡ Cells (finset.items g.reads) g.writes =
    sym (ap (λ b. if b then Whole else Cells (finset.items f.reads) f.writes) part) ∙ same ∙ ap (λ b. if b then Whole else Cells (finset.items g.reads) g.writes) part' in
    let reads : f.reads ≡ g.reads = sym (of_items f.reads) ∙ ap reads_in cells ∙ of_items g.reads in
    let writes : f.writes ≡ g.writes = ap writes_in cells in
    let whole : f.whole ≡ g.whole = part ∙ sym part' in
    λ i. record { reads = reads i; writes = writes i; whole = whole i }

-- so two footprints of one event that it sees alike are one
same_print : (m : ManifestValue) (s u : State) (e : Event) → print_of (footprint m s e) ≡ print_of (footprint m u e) → footprint m s e ≡ footprint m u e
unfolding footprint written reads_besides
same_print m s u (Plan targets) same = refl
same_print m s u (Start out job slot) same = one_print (footprint m s (Start out job slot)) (footprint m u (Start out job slot)) refl refl same
same_print m s u (Finish out stamps listing) same = one_print (footprint m s (Finish out stamps listing)) (footprint m u (Finish out stamps listing)) refl refl same
same_print m s u (Fail out stamps) same = one_print (footprint m s (Fail out stamps)) (footprint m u (Fail out stamps)) refl refl same
same_print m s u (Abort out stamps) same = one_print (footprint m s (Abort out stamps)) (footprint m u (Abort out stamps)) refl refl same
same_print m s u (Clean out) same = one_print (footprint m s (Clean out)) (footprint m u (Clean out)) refl refl same
same_print m s u (Pass out) same = one_print (footprint m s (Pass out)) (footprint m u (Pass out)) refl refl same
same_print m s u (Touch path stamp) same = one_print (footprint m s (Touch path stamp)) (footprint m u (Touch path stamp)) refl refl same
same_print m s u Interrupt same = one_print (footprint m s Interrupt) (footprint m u Interrupt) refl refl same
same_print m s u (Resize pool depth) same = one_print (footprint m s (Resize pool depth)) (footprint m u (Resize pool depth)) refl refl same

module _ (m : ManifestValue) (jobs : ℕ) where
  along_prints : (s : State) (es : Numbered) (n : ℕ) → option_map print_of (causal.event_at n (footprints_along m s es)) ≡ causal.event_at n (causal.footprints_by_number (machine m jobs) s es)
  along_prints s [] n = refl
  along_prints s (e ∷ es) n =
      mapped (nat_eq e.0 n) (footprint m s e.1) (causal.event_at n (footprints_along m (after m s e.1) es))
      ∙ ap (cond (nat_eq e.0 n) (Some (print_of (footprint m s e.1)))) (along_prints (after m s e.1) es n)
    where
      mapped : (b : Bool) (f : FootprintValue) (o : Option FootprintValue) → option_map print_of (cond b (Some f) o) ≡ cond b (Some (print_of f)) (option_map print_of o)
      mapped true f o = refl
      mapped false f o = refl

  record IsAlong (s : State) (es : Numbered) (n : ℕ) (e : Event) : Type 0 where
    place : State
    is : causal.event_at n (footprints_along m s es) ≡ Some (footprint m place e)

  along_some : (s : State) (es : Numbered) (n : ℕ) (e : Event) → causal.event_at n es ≡ Some e → IsAlong s es n e
  along_some s [] n e at = cc
  along_some s (x ∷ xs) n e at = elim (either (nat_eq x.0 n)) [
    | inl t ↦
        let one : Some x.1 ≡ Some e = sym (ap (λ b. cond b (Some x.1) (causal.event_at n xs)) t) ∙ at in
        let same : x.1 ≡ e = cc in
        record { place = s; is = ap (λ b. cond b (Some (footprint m s x.1)) (causal.event_at n (footprints_along m (after m s x.1) xs))) t ∙ ap (λ y. Some (footprint m s y)) same }
    | inr f ↦
        let rest : IsAlong (after m s x.1) xs n e = along_some (after m s x.1) xs n e (sym (ap (λ b. cond b (Some x.1) (causal.event_at n xs)) f) ∙ at) in
        record { place = rest.place; is = ap (λ b. cond b (Some (footprint m s x.1)) (causal.event_at n (footprints_along m (after m s x.1) xs))) f ∙ rest.is }
  ]

  pub along_none : (s : State) (es : Numbered) (n : ℕ) → causal.event_at n es ≡ None → causal.event_at n (footprints_along m s es) ≡ None
  along_none s [] n at = refl
  along_none s (x ∷ xs) n at = elim (either (nat_eq x.0 n)) [
    | inl t ↦
        let never : Some x.1 ≡ None = sym (ap (λ b. cond b (Some x.1) (causal.event_at n xs)) t) ∙ at in
        cc
    | inr f ↦
        ap (λ b. cond b (Some (footprint m s x.1)) (causal.event_at n (footprints_along m (after m s x.1) xs))) f
        ∙ along_none (after m s x.1) xs n (sym (ap (λ b. cond b (Some x.1) (causal.event_at n xs)) f) ∙ at)
  ]

  -- a footprint of the event that the theory sees as that of its place is that of its place
  pub along_is : (s : State) (es : Numbered) (n : ℕ) (e : Event) (f : FootprintValue) → IsFootprintOf m e f → causal.event_at n es ≡ Some e → causal.event_at n (causal.footprints_by_number (machine m jobs) s es) ≡ Some (print_of f) → causal.event_at n (footprints_along m s es) ≡ Some f
  along_is s es n e f own at print =
      let a : IsAlong s es n e = along_some s es n e at in
      let one : Some (print_of (footprint m a.place e)) ≡ Some (print_of (footprint m own.state e)) = sym (ap (option_map print_of) a.is) ∙ along_prints s es n ∙ print ∙ ap (λ g. Some (print_of g)) own.is in
      let same : print_of (footprint m a.place e) ≡ print_of (footprint m own.state e) = cc in
      a.is ∙ ap Some (same_print m a.place own.state e same) ∙ ap Some (sym own.is)

  same_along : (s : State) (xs ys : Numbered) (k : ℕ) (o : Option Event) → causal.event_at k xs ≡ o → causal.event_at k ys ≡ o
      → causal.event_at k (causal.footprints_by_number (machine m jobs) s xs) ≡ causal.event_at k (causal.footprints_by_number (machine m jobs) s ys) → causal.event_at k (footprints_along m s xs) ≡ causal.event_at k (footprints_along m s ys)
  same_along s xs ys k None at at' prints = along_none s xs k at ∙ sym (along_none s ys k at')
  same_along s xs ys k (Some e) at at' prints =
      let a : IsAlong s ys k e = along_some s ys k e at' in
      along_is s xs k e (footprint m a.place e) (record { state = a.place; is = refl }) at (prints ∙ sym (along_prints s ys k) ∙ ap (option_map print_of) a.is) ∙ sym a.is

  -- undo and redo of another event
  pub along-without : (s : State) (n : ℕ) (e : Event) (kept : Numbered) → causal.IsRising kept → Legal (machine m jobs) s kept → causal.event_at n kept ≡ Some e → causal.nearest_to (machine m jobs) n (entries (machine m jobs) s kept) ≡ None
      → (k : ℕ) → k ≢ n → causal.event_at k (footprints_along m s (causal.without n kept)) ≡ causal.event_at k (footprints_along m s kept)
  along-without s n e kept rising legal at free k other =
      same_along s (causal.without n kept) kept k (causal.event_at k kept) (event_at-without n k kept other) refl
      (ap (causal.event_at k) (by_number.undo_keeps_footprints (machine m jobs) (machine-local m jobs) s n e kept rising legal at free)
      ∙ event_at-without n k (causal.footprints_by_number (machine m jobs) s kept) other)

  pub along-put : (s : State) (n : ℕ) (e : Event) (kept : Numbered) → causal.IsRising kept → Legal (machine m jobs) s kept → causal.event_at n kept ≡ None → refusal m jobs (run (machine m jobs) s kept) e ≡ None
      → causal.nearest_above (machine m jobs) n (print_of (footprint m (run (machine m jobs) s kept) e)) (entries (machine m jobs) s kept) ≡ None
      → (k : ℕ) → k ≢ n → causal.event_at k (footprints_along m s (causal.put n e kept)) ≡ causal.event_at k (footprints_along m s kept)
  along-put s n e kept rising legal missing accepted none k other =
      same_along s (causal.put n e kept) kept k (causal.event_at k kept) (event_at-put n k e kept other) refl
      (ap (causal.event_at k) (by_number.redo_keeps_footprints (machine m jobs) (machine-local m jobs) s n e kept rising legal missing accepted none)
      ∙ event_at-put n k (print_of (footprint m (run (machine m jobs) s kept) e)) (causal.footprints_by_number (machine m jobs) s kept) other)

-- what stands beside the events
pub footprints_at : (m : ManifestValue) (es : Numbered) (steps : List Beside) (n i : ℕ) (d : Beside) (e : Event) → HaveFootprints m es steps → IsPlace n es i → causal.event_at n es ≡ Some e → i < length steps → IfSome (get_or steps i d) (λ s. IsFootprintOf m e s.footprint)
footprints_at m [] steps n i d e h place at lt = absurd place
footprints_at m (x ∷ xs) [] n i d e h place at lt = absurd (omega arith)
footprints_at m (x ∷ xs) (s ∷ steps) n zero d e h place at lt =
    let one : Some x.1 ≡ Some e = sym (ap (λ b. cond b (Some x.1) (causal.event_at n xs)) place) ∙ at in
    let same : x.1 ≡ e = cc in
    subst (λ y. IfSome s (λ x. IsFootprintOf m y x.footprint)) same h.0
footprints_at m (x ∷ xs) (s ∷ steps) n (suc i) d e h place at lt =
    footprints_at m xs steps n i d e h.1 place.1 (sym (ap (λ b. cond b (Some x.1) (causal.event_at n xs)) place.0) ∙ at) (omega arith)

pub footprints_set : (m : ManifestValue) (es : Numbered) (steps : List Beside) (n i : ℕ) (step : Beside) (e : Event) → HaveFootprints m es steps → IsPlace n es i → causal.event_at n es ≡ Some e → IfSome step (λ s. IsFootprintOf m e s.footprint) → HaveFootprints m es (set steps i step)
footprints_set m [] steps n i step e h place at own = absurd place
footprints_set m (x ∷ xs) [] n i step e h place at own = tt
footprints_set m (x ∷ xs) (s ∷ steps) n zero step e h place at own =
    let one : Some x.1 ≡ Some e = sym (ap (λ b. cond b (Some x.1) (causal.event_at n xs)) place) ∙ at in
    let same : x.1 ≡ e = cc in
    (subst (λ y. IfSome step (λ x. IsFootprintOf m y x.footprint)) (sym same) own, h.1)
footprints_set m (x ∷ xs) (s ∷ steps) n (suc i) step e h place at own =
    (h.0, footprints_set m xs steps n i step e h.1 place.1 (sym (ap (λ b. cond b (Some x.1) (causal.event_at n xs)) place.0) ∙ at) own)

pub footprints_end : (m : ManifestValue) (es : Numbered) (steps : List Beside) (n : ℕ) (step : Beside) (e : Event) → HaveFootprints m es steps → length steps ≡ length es → IfSome step (λ s. IsFootprintOf m e s.footprint) → HaveFootprints m (es ++ (n, e) ∷ []) (steps ++ step ∷ [])
footprints_end m [] [] n step e h many own = (own, tt)
footprints_end m [] (s ∷ steps) n step e h many own = absurd (omega arith)
footprints_end m (x ∷ xs) [] n step e h many own = absurd (omega arith)
footprints_end m (x ∷ xs) (s ∷ steps) n step e h many own = (h.0, footprints_end m xs steps n step e h.1 (omega arith) own)
