-- What an edge lists is what its deps record has at the end.
use Rattle.std.proofs.Common.{◌≡◌, ℕ, ◌<◌, ◌==◌, Bool, true, false, ◌||◌, List, [], ◌∷◌, ◌++◌, length, map, Contains, Option, Some, None, inl, inr, refl, sym, ap, subst, ◌∙◌, arith, true≢false, if◌then◌else◌}
use Rattle.std.specs.Prelude.{is_some}
use Rattle.std.specs.FinMap.{get}
use Rattle.std.specs.Option.{option_map, option_or}
use Rattle.std.specs.Cmp.{eq_by_cmp_equiv}
use Rattle.std.proofs.lemmas.Bool.{eqb-true, eq-eqb}
use Rattle.std.proofs.lemmas.List.Elements.{Contains-get_or}
use Rattle.rev_manifest.specs.Manifest.{BuildValue, ManifestValue}
use Rattle.rev_graph.specs.Graph.{build_at, no_build, outputs_of, producer_of, pool_of, first_double}
use Rattle.rev_graph.proofs.ProducerLemmas.{one_producer}
use Rattle.rev_cells.specs.declared.cell.Cell.{Cell}
use Rattle.rev_cells.specs.declared.cell.Cell.TheVariants as cell
use Rattle.rev_cells.specs.declared.mark.Mark.{Mark}
use Rattle.rev_cells.specs.declared.mark.Mark.TheVariants as mark
use Rattle.rev_cells.specs.declared.value.DepsRecord.{DepsRecord}
use Rattle.rev_cells.specs.declared.value.Value.{Value}
use Rattle.rev_cells.specs.declared.value.Value.TheVariants as value
use Rattle.rev_cells.specs.Keys.{cell_cmp}
use Rattle.rev_cells.specs.State.{State, mark_of, stamp_of, deps_of, default_or, deps_in}
use Rattle.rev_cells.proofs.EntryLemmas.{cells_total, cells_exact}
use Rattle.rev_causal.specs.Order.{Has}
use Rattle.rev_causal.specs.Store.{set_cell, set_cells}
use Rattle.rev_causal.specs.Machine.{run}
use Rattle.rev_causal.proofs.Store.{get-set_cell}
use Rattle.rev_dirty.specs.Inputs.{first_deps}
use Rattle.rev_dirty.specs.Reasons.{holds}
use Rattle.rev_dirty.specs.Seen.{stamp_cells, built_cells, first_deps_cell, deps_cells}
use Rattle.rev_plan.specs.Plan.{edge_numbers}
use Rattle.rev_events.specs.declared.event.Event.{Event}
use Rattle.rev_events.specs.declared.event.Event.TheVariants.{Plan, Start, Finish, Fail, Abort, Clean, Pass, Touch, Interrupt, Resize}
use Rattle.rev_events.specs.declared.event.Listing.{Listing}
use Rattle.rev_events.specs.Edge.{Effect, write, slot_cells, held_cells, free_held, seen_by, changes, where_true, first_of, listed, write_stamps, write_built, write_deps, write_first_deps}
use Rattle.rev_events.specs.Kinds.{finish_effect}
use Rattle.rev_events.specs.Machine.{of_edge, effect, after}
use Rattle.rev_events.specs.Written.{start_writes, mark_writes, finish_writes, end_writes, written}
use Rattle.rev_events.proofs.WriteLemmas.{unwritten}
use Rattle.rev_events.proofs.WrittenLemmas.{written-same}
use Rattle.rev_footprint.specs.Machine.{machine}
use Rattle.rev_history.specs.Timeline.{Numbered}
use Rattle.rev_races.proofs.Waiting.{decide}
use Rattle.rev_races.specs.Laws.{ListsAreRecorded}
use Rattle.rev_races.specs.Races.{finished, list_of, last_list, recorded, lists}

-- CELLS THAT ARE NOT ONE DEPS RECORD
module _ (o : List ℕ) where
  lacks-append : (xs ys : List Cell) → (Has xs (cell.Deps o) → ⊥) → (Has ys (cell.Deps o) → ⊥) → Has (xs ++ ys) (cell.Deps o) → ⊥
  lacks-append [] ys a b h = b h
  lacks-append (x ∷ xs) ys a b (inl e) = a (inl e)
  lacks-append (x ∷ xs) ys a b (inr h) = lacks-append xs ys (λ k. a (inr k)) b h

  lacks-stamps : (paths : List (List ℕ)) → Has (stamp_cells paths) (cell.Deps o) → ⊥
  lacks-stamps [] h = h
  lacks-stamps (p ∷ ps) (inl e) = cc
  lacks-stamps (p ∷ ps) (inr h) = lacks-stamps ps h

  lacks-built : (paths : List (List ℕ)) → Has (built_cells paths) (cell.Deps o) → ⊥
  lacks-built [] h = h
  lacks-built (p ∷ ps) (inl e) = cc
  lacks-built (p ∷ ps) (inr h) = lacks-built ps h

  lacks-marks : (edges : List ℕ) → Has (map cell.Mark edges ++ cell.Halted ∷ []) (cell.Deps o) → ⊥
  lacks-marks [] (inl e) = cc
  lacks-marks [] (inr h) = h
  lacks-marks (x ∷ xs) (inl e) = cc
  lacks-marks (x ∷ xs) (inr h) = lacks-marks xs h

  lacks-slot : (pool : Option (ℕ × ℕ)) (slot : Option ℕ) → Has (slot_cells pool slot) (cell.Deps o) → ⊥
  lacks-slot None None h = h
  lacks-slot None (Some q) h = h
  lacks-slot (Some p) None h = h
  lacks-slot (Some p) (Some q) (inl e) = cc
  lacks-slot (Some p) (Some q) (inr h) = h

  lacks-held : (pool : Option (ℕ × ℕ)) (m : Mark) → Has (held_cells pool m) (cell.Deps o) → ⊥
  lacks-held pool (mark.Running job slot seen) (inl e) = cc
  lacks-held pool (mark.Running job slot seen) (inr h) = lacks-slot pool slot h
  lacks-held pool (mark.Done changed) h = h
  lacks-held pool mark.Idle h = h
  lacks-held pool mark.Wanted h = h
  lacks-held pool mark.Through h = h
  lacks-held pool mark.Clean h = h
  lacks-held pool mark.Failed h = h
  lacks-held pool mark.Stopped h = h

  lacks-first : (paths : List (List ℕ)) → (Contains paths o → ⊥) → Has (first_deps_cell paths) (cell.Deps o) → ⊥
  lacks-first [] none h = h
  lacks-first (p ∷ ps) none (inl e) =
      let same : p ≡ o = cc in
      none (subst (λ q. Contains (p ∷ ps) q) same (Contains-get_or (p ∷ ps) 0 p (omega arith)))
  lacks-first (p ∷ ps) none (inr h) = h

  lacks-deps : (build : BuildValue) → (Contains (outputs_of build) o → ⊥) → Has (deps_cells build) (cell.Deps o) → ⊥
  lacks-deps build none = by build.keeps_deps
    where
      by : (b : Bool) → Has (if b then first_deps_cell (outputs_of build) else []) (cell.Deps o) → ⊥
      by true h = lacks-first (outputs_of build) none h
      by false h = h

  module _ (manifest : ManifestValue) where
    lacks-start : (x job : ℕ) (slot : Option ℕ) (s : State) → Has (start_writes manifest x job slot s) (cell.Deps o) → ⊥
    unfolding start_writes
    lacks-start x job slot s (inl e) = cc
    lacks-start x job slot s (inr (inl e)) = cc
    lacks-start x job slot s (inr (inr h)) = lacks-slot (pool_of manifest x) slot h

    lacks-mark : (x : ℕ) (s : State) → Has (mark_writes manifest x s) (cell.Deps o) → ⊥
    unfolding mark_writes
    lacks-mark x s (inl e) = cc
    lacks-mark x s (inr h) = h

    lacks-end : (x : ℕ) (s : State) → Has (end_writes manifest x s) (cell.Deps o) → ⊥
    unfolding end_writes
    lacks-end x s (inl e) = cc
    lacks-end x s (inr h) =
        lacks-append (held_cells (pool_of manifest x) (mark_of s x)) (stamp_cells (outputs_of (build_at manifest.builds x)))
        (lacks-held (pool_of manifest x) (mark_of s x)) (lacks-stamps (outputs_of (build_at manifest.builds x))) h

    lacks-finish : (x : ℕ) (s : State) → (Contains (outputs_of (build_at manifest.builds x)) o → ⊥) → Has (finish_writes manifest x s) (cell.Deps o) → ⊥
    unfolding finish_writes
    lacks-finish x s none (inl e) = cc
    lacks-finish x s none (inr h) =
        let build = build_at manifest.builds x in
        let outs = outputs_of build in
        lacks-append (held_cells (pool_of manifest x) (mark_of s x)) (stamp_cells outs ++ (built_cells outs ++ deps_cells build)) (lacks-held (pool_of manifest x) (mark_of s x))
        (lacks-append (stamp_cells outs) (built_cells outs ++ deps_cells build) (lacks-stamps outs)
        (lacks-append (built_cells outs) (deps_cells build) (lacks-built outs) (lacks-deps build none))) h

-- THE LAST WRITE
last-write : (s : State) (w : Cell × Option Value) → get (set_cells cell_cmp s (w ∷ [])) w.0 ≡ w.1
last-write s w = get-set_cell cells_total cells_exact s w.0 w.1 w.0 ∙ ap (λ b. if b then w.1 else get s w.0) ((eq_by_cmp_equiv cells_total).refl w.0)

ends-with : (c : Cell) (v : Option Value) (ys : Effect) → ((t : State) → get (set_cells cell_cmp t ys) c ≡ v) → (s : State) (xs : Effect) → get (set_cells cell_cmp s (xs ++ ys)) c ≡ v
ends-with c v ys h s [] = h s
ends-with c v ys h s (x ∷ xs) = ends-with c v ys h (set_cell cell_cmp s x.0 x.1) xs

-- ONE EVENT
module _ (manifest : ManifestValue) (single : first_double manifest.builds ≡ None) (edge : ℕ)
    (keeps : (build_at manifest.builds edge).keeps_deps ≡ true) (o : List ℕ) (os : List (List ℕ)) (outs : outputs_of (build_at manifest.builds edge) ≡ o ∷ os) where
  abbrev pub listing_in : Option DepsRecord → Option (List (List ℕ))
  listing_in deps = option_map (λ (d : DepsRecord). d.paths) deps

  recorded-is : (s : State) → recorded s (build_at manifest.builds edge) ≡ listing_in (deps_of s o)
  recorded-is s =
      ap (λ b. listing_in (if b then first_deps s (outputs_of (build_at manifest.builds edge)) else None)) keeps
      ∙ ap (λ ps. listing_in (first_deps s ps)) outs

  own-output : Contains (outputs_of (build_at manifest.builds edge)) o
  own-output = subst (λ ps. Contains ps o) (sym outs) (Contains-get_or (o ∷ os) 0 o (omega arith))

  -- another edge does not have the output
  not-theirs : (x : ℕ) → (x == edge) ≡ false → Contains (outputs_of (build_at manifest.builds x)) o → ⊥
  not-theirs x other h = true≢false (sym (same x (one_producer manifest.builds single o x edge h own-output)) ∙ other)
    where
      same : (n : ℕ) → n ≡ edge → (n == edge) ≡ true
      same n e = eq-eqb n edge e

  lacks : (s : State) (e : Event) → list_of manifest edge e ≡ None → Has (written manifest s e) (cell.Deps o) → ⊥
  unfolding written
  lacks s (Plan targets) none h = lacks-marks o (edge_numbers manifest.builds) h
  lacks s (Start out job slot) none h = by (producer_of manifest.builds out) h
    where
      by : (p : Option ℕ) → Has (of_edge [] (λ x. start_writes manifest x job slot s) p) (cell.Deps o) → ⊥
      by None h = h
      by (Some x) h = lacks-start o manifest x job slot s h
  lacks s (Finish out stamps listing) none h = by (producer_of manifest.builds out) none h
    where
      by : (p : Option ℕ) → (if holds (λ n. n == edge) p then Some (listed listing) else None) ≡ None → Has (of_edge [] (λ x. finish_writes manifest x s) p) (cell.Deps o) → ⊥
      by None none h = h
      by (Some x) none h = lacks-finish o manifest x s (not-theirs x (other (x == edge) none)) h
        where
          other : (b : Bool) → (if b then Some (listed listing) else None) ≡ None → b ≡ false
          other true e =
              let no : Some (listed listing) ≡ None = e in
              cc
          other false e = refl
  lacks s (Fail out stamps) none h = by (producer_of manifest.builds out) h
    where
      by : (p : Option ℕ) → Has (of_edge [] (λ x. end_writes manifest x s) p) (cell.Deps o) → ⊥
      by None h = h
      by (Some x) h = lacks-end o manifest x s h
  lacks s (Abort out stamps) none h = by (producer_of manifest.builds out) h
    where
      by : (p : Option ℕ) → Has (of_edge [] (λ x. end_writes manifest x s) p) (cell.Deps o) → ⊥
      by None h = h
      by (Some x) h = lacks-end o manifest x s h
  lacks s (Clean out) none h = by (producer_of manifest.builds out) h
    where
      by : (p : Option ℕ) → Has (of_edge [] (λ x. mark_writes manifest x s) p) (cell.Deps o) → ⊥
      by None h = h
      by (Some x) h = lacks-mark o manifest x s h
  lacks s (Pass out) none h = by (producer_of manifest.builds out) h
    where
      by : (p : Option ℕ) → Has (of_edge [] (λ x. mark_writes manifest x s) p) (cell.Deps o) → ⊥
      by None h = h
      by (Some x) h = lacks-mark o manifest x s h
  lacks s (Touch path stamp) none (inl e) = cc
  lacks s (Touch path stamp) none (inr h) = h
  lacks s Interrupt none (inl e) = cc
  lacks s Interrupt none (inr h) = h
  lacks s (Resize pool depth) none (inl e) = cc
  lacks s (Resize pool depth) none (inr h) = h

  same-step : (s : State) (e : Event) → list_of manifest edge e ≡ None → deps_of (after manifest s e) o ≡ deps_of s o
  same-step s e none =
      ap (λ v. deps_in (default_or (cell.Deps o) v))
      (unwritten s (effect manifest s e) (cell.Deps o) (λ h. lacks s e none (subst (λ cs. Has cs (cell.Deps o)) (written-same manifest s e) h)))

  finish-step : (s : State) (stamps : List ℕ) (listing : Listing) → listing_in (deps_of (set_cells cell_cmp s (finish_effect manifest edge stamps listing s)) o) ≡ Some (listed listing)
  unfolding finish_effect
  finish-step s stamps listing =
      ap (λ v. listing_in (deps_in (default_or (cell.Deps o) v)))
      (ends-with (cell.Deps o) (Some new) (write_stamps (outputs_of build) stamps ++ (records ++ write_deps build stamps listing))
      (λ t. ends-with (cell.Deps o) (Some new) (records ++ write_deps build stamps listing)
      (λ u. ends-with (cell.Deps o) (Some new) (write_deps build stamps listing) (λ v. ap (λ ws. get (set_cells cell_cmp v ws) (cell.Deps o)) written-deps ∙ last-write v (cell.Deps o, Some new)) u records)
      t (write_stamps (outputs_of build) stamps))
      s (write (cell.Mark edge) (value.Mark (mark.Done (where_true flags))) ∷ free_held (pool_of manifest edge) (mark_of s edge)))
    where
      build : BuildValue
      build = build_at manifest.builds edge

      flags : List Bool
      flags = changes (build_at manifest.builds edge).restat (map (stamp_of s) (outputs_of (build_at manifest.builds edge))) stamps

      records : Effect
      records = write_built (build_at manifest.builds edge).command (seen_by (mark_of s edge)) (outputs_of (build_at manifest.builds edge)) flags stamps

      new : Value
      new = value.Deps (Some (record { stamp = first_of 0 stamps; paths = listed listing }))

      written-deps : write_deps (build_at manifest.builds edge) stamps listing ≡ (cell.Deps o, Some new) ∷ []
      written-deps =
          ap (λ b. if b then write_first_deps (outputs_of (build_at manifest.builds edge)) stamps listing else []) keeps
          ∙ ap (λ ps. write_first_deps ps stamps listing) outs

  step : (s : State) (e : Event) → listing_in (deps_of (after manifest s e) o) ≡ option_or (list_of manifest edge e) (listing_in (deps_of s o))
  unfolding effect
  step s (Finish out stamps listing) = by (producer_of manifest.builds out) refl
    where
      at : (p : Option ℕ) → producer_of manifest.builds out ≡ p
          → listing_in (deps_of (set_cells cell_cmp s (of_edge [] (λ x. finish_effect manifest x stamps listing s) p)) o)
          ≡ option_or (if holds (λ n. n == edge) p then Some (listed listing) else None) (listing_in (deps_of s o))
          → listing_in (deps_of (after manifest s (Finish out stamps listing)) o)
          ≡ option_or (list_of manifest edge (Finish out stamps listing)) (listing_in (deps_of s o))
      at p is h =
          subst (λ q. listing_in (deps_of (set_cells cell_cmp s (of_edge [] (λ x. finish_effect manifest x stamps listing s) q)) o)
          ≡ option_or (if holds (λ n. n == edge) q then Some (listed listing) else None) (listing_in (deps_of s o))) (sym is) h

      none-of : (p : Option ℕ) → producer_of manifest.builds out ≡ p → holds (λ n. n == edge) p ≡ false → list_of manifest edge (Finish out stamps listing) ≡ None
      none-of p is h = ap (λ b. if b then Some (listed listing) else None) (ap (holds (λ n. n == edge)) is ∙ h)

      other : list_of manifest edge (Finish out stamps listing) ≡ None
          → listing_in (deps_of (after manifest s (Finish out stamps listing)) o) ≡ option_or (list_of manifest edge (Finish out stamps listing)) (listing_in (deps_of s o))
      other none = ap listing_in (same-step s (Finish out stamps listing) none) ∙ sym (ap (λ l. option_or l (listing_in (deps_of s o))) none)

      own : (x : ℕ) → producer_of manifest.builds out ≡ Some x → x ≡ edge
          → listing_in (deps_of (after manifest s (Finish out stamps listing)) o) ≡ option_or (list_of manifest edge (Finish out stamps listing)) (listing_in (deps_of s o))
      own x is same =
          at (Some edge) (is ∙ ap Some same)
          (finish-step s stamps listing ∙ sym (ap (λ b. option_or (if b then Some (listed listing) else None) (listing_in (deps_of s o))) (eq-eqb edge edge refl)))

      by : (p : Option ℕ) → producer_of manifest.builds out ≡ p
          → listing_in (deps_of (after manifest s (Finish out stamps listing)) o) ≡ option_or (list_of manifest edge (Finish out stamps listing)) (listing_in (deps_of s o))
      by None is = other (none-of None is refl)
      by (Some x) is = elim (decide (x == edge)) [
        | inl same ↦ own x is (eqb-true x edge same)
        | inr apart ↦ other (none-of (Some x) is apart)
      ]
  step s (Plan targets) = ap listing_in (same-step s (Plan targets) refl)
  step s (Start out job slot) = ap listing_in (same-step s (Start out job slot) refl)
  step s (Fail out stamps) = ap listing_in (same-step s (Fail out stamps) refl)
  step s (Abort out stamps) = ap listing_in (same-step s (Abort out stamps) refl)
  step s (Clean out) = ap listing_in (same-step s (Clean out) refl)
  step s (Pass out) = ap listing_in (same-step s (Pass out) refl)
  step s (Touch path stamp) = ap listing_in (same-step s (Touch path stamp) refl)
  step s Interrupt = ap listing_in (same-step s Interrupt refl)
  step s (Resize pool depth) = ap listing_in (same-step s (Resize pool depth) refl)

  -- WHOLE LISTS
  or-assoc : (a b c : Option (List (List ℕ))) → option_or a (option_or b c) ≡ option_or (option_or a b) c
  or-assoc None b c = refl
  or-assoc (Some x) b c = refl

  -- what the record lists at the end: what the last finish lists, and else what it listed before
  pub along : (jobs : ℕ) (s : State) (es : Numbered) → listing_in (deps_of (run (machine manifest jobs) s es) o) ≡ option_or (last_list manifest edge es) (listing_in (deps_of s o))
  along jobs s [] = refl
  along jobs s (e ∷ es) =
      along jobs (after manifest s e.1) es ∙ ap (option_or (last_list manifest edge es)) (step s e.1)
      ∙ or-assoc (last_list manifest edge es) (list_of manifest edge e.1) (listing_in (deps_of s o))

-- an edge's command ended well where some finish of it is the last
pub finished-is : (manifest : ManifestValue) (edge : ℕ) (es : Numbered) → finished manifest edge es ≡ is_some (last_list manifest edge es)
finished-is manifest edge [] = refl
finished-is manifest edge (e ∷ es) = ap (λ b. is_some (list_of manifest edge e.1) || b) (finished-is manifest edge es) ∙ by (list_of manifest edge e.1) (last_list manifest edge es)
  where
    by : (a b : Option (List (List ℕ))) → (is_some a || is_some b) ≡ is_some (option_or b a)
    by None None = refl
    by None (Some y) = refl
    by (Some x) None = refl
    by (Some x) (Some y) = refl

first-of-some : (outs : List (List ℕ)) → 0 < length outs → (o : List ℕ) × (os : List (List ℕ)) × (outs ≡ o ∷ os)
first-of-some [] some = absurd (omega (arith, some))
first-of-some (o ∷ os) some = (o, os, refl)

pub lists-are-recorded : ListsAreRecorded
lists-are-recorded graph jobs opening events edge is within = elim (decide (build_at graph.manifest.builds edge).keeps_deps) [ inl keeps ↦ kept keeps | inr none ↦ unkept none ]
  where
    kept : (build_at graph.manifest.builds edge).keeps_deps ≡ true
        → lists graph.manifest opening events edge ≡ recorded (run (machine graph.manifest jobs) opening events) (build_at graph.manifest.builds edge)
    kept keeps =
        let some = (is.kept.builds edge no_build within).outputs.some in
        let f = first-of-some (outputs_of (build_at graph.manifest.builds edge)) some in
        let was = recorded-is graph.manifest is.single edge keeps f.0 f.1 f.2 opening in
        let now = recorded-is graph.manifest is.single edge keeps f.0 f.1 f.2 (run (machine graph.manifest jobs) opening events) in
        let ran = along graph.manifest is.single edge keeps f.0 f.1 f.2 jobs opening events in
        ap (λ b. if b then option_or (last_list graph.manifest edge events) (recorded opening (build_at graph.manifest.builds edge)) else None) keeps
        ∙ ap (option_or (last_list graph.manifest edge events)) was ∙ sym ran ∙ sym now

    unkept : (build_at graph.manifest.builds edge).keeps_deps ≡ false
        → lists graph.manifest opening events edge ≡ recorded (run (machine graph.manifest jobs) opening events) (build_at graph.manifest.builds edge)
    unkept none =
        ap (λ b. if b then option_or (last_list graph.manifest edge events) (recorded opening (build_at graph.manifest.builds edge)) else None) none
        ∙ ap (λ b. option_map (λ (d : DepsRecord). d.paths) (if b then first_deps (run (machine graph.manifest jobs) opening events) (outputs_of (build_at graph.manifest.builds edge)) else None))
        (sym none)
