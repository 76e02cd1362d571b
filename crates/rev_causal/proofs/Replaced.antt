-- What events replaced, by number: undo puts it back, and changes what no other event replaced.
use Rattle.std.proofs.Common.{◌≡◌, ℕ, ◌<◌, List, [], ◌∷◌, ◌++◌, sym, refl, ap, ap₂, subst, ◌∙◌}
use Rattle.std.specs.List.{AllByRecursion}
use Rattle.std.specs.Cmp.{IsTotalOrder}
use Rattle.std.specs.declared.cmp.Ordering.{Ordering}
use Rattle.std.specs.declared.option.Option.{Option}
use Rattle.std.specs.declared.option.Option.TheVariants.{None, Some}
use Rattle.std.specs.FinMap.{FinMap, IsAntisymmetric}
use Rattle.rev_causal.specs.Machine.{IsLocal, Accepts, Legal, AgreeOn, run, footprints, NoneConflicts, Placed}
use Rattle.rev_causal.specs.Entries.{entries}
use Rattle.rev_causal.specs.History.{event_at, without, put, numbered_by, nearest_to, nearest_above}
use Rattle.rev_causal.specs.Store.{Table, machine_of, IsLocalTable, set_cells, replaced, all_replaced, replaced_by_number, keys_of}
use Rattle.rev_causal.specs.Laws.{UndoKeepsReplaced, RedoKeepsReplaced, UndoPutsBack, StepBack}
use Rattle.rev_causal.proofs.Runs
use Rattle.rev_causal.proofs.Numbers as numbers
use Rattle.rev_causal.proofs.ByNumber as by_number
use Rattle.rev_causal.proofs.Store as store

module _ {K V E F : Type 0} {R : K → K → Ordering} (o : IsTotalOrder R) (exact : IsAntisymmetric R) (t : Table K V E F R) (l : IsLocalTable t) where
  local : IsLocal (machine_of t)
  local = store.local_of o exact t l

  replaced_by_number-append : (s : FinMap R V) (xs ys : List (ℕ × E)) → replaced_by_number t s (xs ++ ys) ≡ replaced_by_number t s xs ++ replaced_by_number t (run (machine_of t) s xs) ys
  replaced_by_number-append s [] ys = refl
  replaced_by_number-append s (x ∷ xs) ys = ap (λ zs. (x.0, replaced s (t.effect s x.1)) ∷ zs) (replaced_by_number-append (set_cells R s (t.effect s x.1)) xs ys)

  -- events that do not conflict with an event replace the same behind it and without it
  pub same_without : (s : FinMap R V) (e : E) (es : List (ℕ × E)) → Accepts (machine_of t) s e → Legal (machine_of t) (set_cells R s (t.effect s e)) es → NoneConflicts (machine_of t) (t.footprint s e) (footprints (machine_of t) (set_cells R s (t.effect s e)) es) →
      all_replaced t s es ≡ all_replaced t (set_cells R s (t.effect s e)) es
  same_without s e es acc legal free =
      store.replaced_kept o exact t l ((machine_of t).writes (t.footprint s e)) (set_cells R s (t.effect s e)) s es legal
      (Runs.avoids_written (machine_of t) local (t.footprint s e) _ free) (λ q w. sym (local.kept s e acc q w))

  pub same_behind : (s : FinMap R V) (e : E) (es : List (ℕ × E)) → Accepts (machine_of t) s e → Legal (machine_of t) s es → NoneConflicts (machine_of t) (t.footprint s e) (footprints (machine_of t) s es) →
      all_replaced t (set_cells R s (t.effect s e)) es ≡ all_replaced t s es
  same_behind s e es acc legal free =
      store.replaced_kept o exact t l ((machine_of t).writes (t.footprint s e)) s (set_cells R s (t.effect s e)) es legal
      (Runs.avoids_written (machine_of t) local (t.footprint s e) _ free) (λ q w. local.kept s e acc q w)

  -- an event that conflicts with nothing of a list replaces the same before it and behind it
  pub same_at_end : (s : FinMap R V) (e : E) (es : List (ℕ × E)) → Legal (machine_of t) s es → Accepts (machine_of t) (run (machine_of t) s es) e → NoneConflicts (machine_of t) (t.footprint (run (machine_of t) s es) e) (footprints (machine_of t) s es) →
      replaced s (t.effect s e) ≡ replaced (run (machine_of t) s es) (t.effect (run (machine_of t) s es) e)
  same_at_end s e es legal acc free =
      let v : FinMap R V = run (machine_of t) s es in
      let on : AgreeOn (machine_of t) ((machine_of t).accesses (t.footprint v e)) v s = λ k h. sym (Runs.unwritten (machine_of t) local ((machine_of t).accesses (t.footprint v e)) s es legal (t.footprint v e) (λ q w. w) free k h) in
      ap (replaced s) (l.same_effect v s e acc on)
      ∙ store.same_values o exact t l v s (t.effect v e) (λ q h. on q (store.keys_accessed o exact t l (t.footprint v e) (keys_of (t.effect v e)) q (l.writes v e acc) h))

  undo_keeps_cut : (s : FinMap R V) (n : ℕ) (e : E) (before later : List (ℕ × E)) → AllByRecursion (λ (x : ℕ × E). x.0 < n) before → Legal (machine_of t) s (before ++ (n, e) ∷ later) → nearest_to (machine_of t) n (entries (machine_of t) s (before ++ (n, e) ∷ later)) ≡ None →
      replaced_by_number t s (without n (before ++ (n, e) ∷ later)) ≡ without n (replaced_by_number t s (before ++ (n, e) ∷ later))
  undo_keeps_cut s n e before later below legal none =
      let u : FinMap R V = run (machine_of t) s before in
      let here : Legal (machine_of t) u ((n, e) ∷ later) = Runs.legal_back (machine_of t) s before ((n, e) ∷ later) legal in
      let front : List (ℕ × List (K × Option V)) = replaced_by_number t s before in
      ap (replaced_by_number t s) (numbers.without_cut n e before later below)
      ∙ replaced_by_number-append s before later
      ∙ ap (λ ws. front ++ numbered_by later ws) (same_without u e later here.0 here.1 (by_number.removed_at (machine_of t) local s n e before later below none))
      ∙ sym (numbers.without_cut n (replaced u (t.effect u e)) front (replaced_by_number t (set_cells R u (t.effect u e)) later) (by_number.numbered_all (λ k. k < n) before (all_replaced t s before) below))
      ∙ sym (ap (without n) (replaced_by_number-append s before ((n, e) ∷ later)))

  pub undo_keeps_replaced : UndoKeepsReplaced t
  undo_keeps_replaced s n e kept rising legal found none =
      let c : numbers.CutAt n e kept = numbers.cut n e kept rising found in
      subst (λ xs. replaced_by_number t s (without n xs) ≡ without n (replaced_by_number t s xs)) (sym c.is)
      (undo_keeps_cut s n e c.before c.later c.below (subst (Legal (machine_of t) s) c.is legal) (subst (λ xs. nearest_to (machine_of t) n (entries (machine_of t) s xs) ≡ None) c.is none))

  redo_keeps_cut : (s : FinMap R V) (n : ℕ) (e : E) (before later : List (ℕ × E)) → AllByRecursion (λ (x : ℕ × E). x.0 < n) before → AllByRecursion (λ (x : ℕ × E). n < x.0) later →
      Legal (machine_of t) s (before ++ later) → Accepts (machine_of t) (run (machine_of t) s (before ++ later)) e → nearest_above (machine_of t) n (t.footprint (run (machine_of t) s (before ++ later)) e) (entries (machine_of t) s (before ++ later)) ≡ None →
      replaced_by_number t s (put n e (before ++ later)) ≡ put n (replaced (run (machine_of t) s (before ++ later)) (t.effect (run (machine_of t) s (before ++ later)) e)) (replaced_by_number t s (before ++ later))
  redo_keeps_cut s n e before later below above legal acc none =
      let u : FinMap R V = run (machine_of t) s before in
      let now : run (machine_of t) s (before ++ later) ≡ run (machine_of t) u later = Runs.run-append (machine_of t) s before later in
      let here : Legal (machine_of t) u later = Runs.legal_back (machine_of t) s before later legal in
      let acc_here : Accepts (machine_of t) (run (machine_of t) u later) e = subst (λ x. Accepts (machine_of t) x e) now acc in
      let free : NoneConflicts (machine_of t) (t.footprint (run (machine_of t) u later) e) (footprints (machine_of t) u later) = by_number.placed_at (machine_of t) local s n e before later below above none in
      let p : Placed (machine_of t) u e later = Runs.place (machine_of t) local u e later here acc_here free in
      let front : List (ℕ × List (K × Option V)) = replaced_by_number t s before in
      let ws : List (K × Option V) = replaced (run (machine_of t) s (before ++ later)) (t.effect (run (machine_of t) s (before ++ later)) e) in
      let value : replaced u (t.effect u e) ≡ ws = same_at_end u e later here acc_here free ∙ sym (ap (λ x. replaced x (t.effect x e)) now) in
      ap (replaced_by_number t s) (numbers.put_cut n e before later below above)
      ∙ replaced_by_number-append s before ((n, e) ∷ later)
      ∙ ap₂ (λ v vs. front ++ (n, v) ∷ numbered_by later vs) value (same_behind u e later p.accepted here (subst (λ g. NoneConflicts (machine_of t) g (footprints (machine_of t) u later)) (sym p.same_footprint) free))
      ∙ sym (numbers.put_cut n ws front (replaced_by_number t u later) (by_number.numbered_all (λ k. k < n) before (all_replaced t s before) below) (by_number.numbered_all (λ k. n < k) later (all_replaced t u later) above))
      ∙ sym (ap (put n ws) (replaced_by_number-append s before later))

  pub redo_keeps_replaced : RedoKeepsReplaced t
  redo_keeps_replaced s n e kept rising legal missing acc none =
      let c : numbers.Gap n kept = numbers.gap n kept rising missing in
      subst (λ xs. replaced_by_number t s (put n e xs) ≡ put n (replaced (run (machine_of t) s xs) (t.effect (run (machine_of t) s xs) e)) (replaced_by_number t s xs)) (sym c.is)
      (redo_keeps_cut s n e c.before c.later c.below c.above (subst (Legal (machine_of t) s) c.is legal) (subst (λ xs. Accepts (machine_of t) (run (machine_of t) s xs) e) c.is acc)
      (subst (λ xs. nearest_above (machine_of t) n (t.footprint (run (machine_of t) s xs) e) (entries (machine_of t) s xs) ≡ None) c.is none))

  puts_back_cut : (s : FinMap R V) (n : ℕ) (e : E) (before later : List (ℕ × E)) (ws : List (K × Option V)) → AllByRecursion (λ (x : ℕ × E). x.0 < n) before → Legal (machine_of t) s (before ++ (n, e) ∷ later) → nearest_to (machine_of t) n (entries (machine_of t) s (before ++ (n, e) ∷ later)) ≡ None →
      event_at n (replaced_by_number t s (before ++ (n, e) ∷ later)) ≡ Some ws → run (machine_of t) s (without n (before ++ (n, e) ∷ later)) ≡ set_cells R (run (machine_of t) s (before ++ (n, e) ∷ later)) ws
  puts_back_cut s n e before later ws below legal none found =
      let u : FinMap R V = run (machine_of t) s before in
      let next : FinMap R V = set_cells R u (t.effect u e) in
      let here : Legal (machine_of t) u ((n, e) ∷ later) = Runs.legal_back (machine_of t) s before ((n, e) ∷ later) legal in
      let at : event_at n (replaced_by_number t s (before ++ (n, e) ∷ later)) ≡ Some (replaced u (t.effect u e)) = ap (event_at n) (replaced_by_number-append s before ((n, e) ∷ later))
      ∙ by_number.event_at_cut n (replaced u (t.effect u e)) (replaced_by_number t s before) (replaced_by_number t next later) (by_number.numbered_all (λ k. k < n) before (all_replaced t s before) below) in
      let one : Some (replaced u (t.effect u e)) ≡ Some ws = sym at ∙ found in
      let is : replaced u (t.effect u e) ≡ ws = cc in
      ap (run (machine_of t) s) (numbers.without_cut n e before later below)
      ∙ Runs.run-append (machine_of t) s before later
      ∙ store.undone_state o exact t l u e later here.0 here.1 (by_number.removed_at (machine_of t) local s n e before later below none)
      ∙ ap₂ (set_cells R) (sym (Runs.run-append (machine_of t) s before ((n, e) ∷ later))) is

  pub undo_puts_back : UndoPutsBack t
  undo_puts_back s n e kept ws rising legal found none at =
      let c : numbers.CutAt n e kept = numbers.cut n e kept rising found in
      subst (λ xs. run (machine_of t) s (without n xs) ≡ set_cells R (run (machine_of t) s xs) ws) (sym c.is)
      (puts_back_cut s n e c.before c.later ws c.below (subst (Legal (machine_of t) s) c.is legal) (subst (λ xs. nearest_to (machine_of t) n (entries (machine_of t) s xs) ≡ None) c.is none)
      (subst (λ xs. event_at n (replaced_by_number t s xs) ≡ Some ws) c.is at))

  pub step_back : StepBack t
  step_back s e = store.put_back_next o exact s (t.effect s e)
