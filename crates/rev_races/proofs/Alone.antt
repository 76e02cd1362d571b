-- What an edge waits for can be ended, and then it can start; nothing else changes its mark.
use Rattle.std.proofs.Common.{◌≡◌, ◌≢◌, ℕ, ◌<◌, zero, suc, ◌==◌, Bool, true, false, cond, not, ◌&&◌, ◌||◌, List, [], ◌∷◌, ◌++◌, map, length, filter, get_or, Contains, Option, Some, None, ◌⊎◌, inl, inr, refl, sym, ap, subst, append-nil, ◌∙◌, arith, true≢false, nat_lt, if◌then◌else◌}
use Rattle.std.specs.List.{list_any, position}
use Rattle.std.specs.FinMap.{get}
use Rattle.std.specs.Prelude.{slice_get, unwrap_or}
use Rattle.std.specs.Ordering.{eq_by_cmp}
use Rattle.std.proofs.lemmas.Bool.{cases_eq, eqb-false, ltb-false}
use Rattle.std.proofs.lemmas.List.{length-map}
use Rattle.std.proofs.lemmas.List.Elements.{Contains-get_or, Contains-append_cases, Contains-append_right}
use Rattle.std.proofs.lemmas.Map.Views.{tells_apart}
use Rattle.std.proofs.Math.ListN.{get_or-map}
use Rattle.rev_manifest.specs.Manifest.{BuildValue, ManifestValue}
use Rattle.rev_graph.specs.Graph.{IsRanked, rank_at, build_at, outputs_of, inputs_of, producer_of, pool_of, slots_of, numbered_pool, first_double, EdgeSteps, EdgeReaches, EdgeReaches.step as one, EdgeReaches.further as on}
use Rattle.rev_graph.proofs.ProducerLemmas.{producer-only, one_producer}
use Rattle.rev_graph.proofs.GraphLemmas.{producer_of-within}
use Rattle.rev_graph.proofs.StepLemmas.{only, ranked-acyclic}
use Rattle.rev_cells.specs.declared.cell.Cell.{Cell}
use Rattle.rev_cells.specs.declared.cell.Cell.TheVariants as cell
use Rattle.rev_cells.specs.declared.mark.Mark.{Mark}
use Rattle.rev_cells.specs.declared.mark.Mark.TheVariants as mark
use Rattle.rev_cells.specs.declared.value.Value.{Value}
use Rattle.rev_cells.specs.declared.value.Value.TheVariants as value
use Rattle.rev_cells.specs.Keys.{cell_cmp}
use Rattle.rev_cells.specs.State.{State, mark_of, stamp_of, deps_of, job_of, slot_of, given_depth_of, is_halted, default_or, mark_in, stamp_in, deps_in, depth_in, halted_in}
use Rattle.rev_cells.specs.Values.{unless_default}
use Rattle.rev_cells.proofs.EntryLemmas.{cells_total, cells_exact}
use Rattle.rev_causal.specs.Order.{Has}
use Rattle.rev_causal.specs.Store.{keys_of, set_cell, set_cells}
use Rattle.rev_causal.specs.Machine.{Legal, run}
use Rattle.rev_causal.proofs.Runs.{run-append}
use Rattle.rev_causal.proofs.Store.{get-set_cell}
use Rattle.rev_dirty.specs.Inputs.{deps_record, first_deps, inputs, paths_in}
use Rattle.rev_dirty.specs.declared.reason.Reason.{Reason}
use Rattle.rev_dirty.specs.declared.reason.Reason.TheVariants as reason
use Rattle.rev_dirty.specs.Reasons.{holds, holds_at, is_missing, is_reason, is_rebuilt, newest_stamp, candidates, positions_in, reasons_of}
use Rattle.rev_dirty.specs.Seen.{stamp_cells, built_cells, first_deps_cell, deps_cells}
use Rattle.rev_plan.specs.Plan.{is_running_mark}
use Rattle.rev_plan.specs.Options.{first_some}
use Rattle.rev_plan.proofs.PlanLemmas as places
use Rattle.rev_events.specs.declared.event.Event.{Event}
use Rattle.rev_events.specs.declared.event.Event.TheVariants.{Start, Finish, Pass}
use Rattle.rev_events.specs.declared.event.Listing.TheVariants.{Nothing}
use Rattle.rev_events.specs.declared.refusal.Refusal.TheVariants.{NoSuchEdge, Phony, NotPhony, NotWanted, NotRunning, PoolSlot, WrongOutputs}
use Rattle.rev_events.specs.Edge.{Effect, write, first_blocking, is_waiting, slot_holder, slot_cells, held_cells, write_slot, free_held, write_stamps, write_built, write_deps, write_first_deps, rest_of, changes, seen_by, where_true, pass_changes}
use Rattle.rev_events.specs.Held.{IsHeldExactly}
use Rattle.rev_events.specs.Kinds.{start_refusal, start_effect, pass_refusal, pass_effect, finish_refusal, finish_effect}
use Rattle.rev_events.specs.Machine.{of_edge, refusal, effect, after}
use Rattle.rev_events.specs.Pools.{present_pool, at_present}
use Rattle.rev_events.specs.Refusal.{is_settled, is_wanted_mark, is_through_mark, refuse_if, phony_edge, not_phony, halted, not_wanted, not_marked, not_running, blocked, not_dirty, no_such_job, job_busy, pool_slot, slot_busy, wrong_outputs}
use Rattle.rev_events.specs.Written.{start_writes, mark_writes, finish_writes, written}
use Rattle.rev_events.proofs.EdgeLemmas.{producers-are, blocking-is}
use Rattle.rev_events.proofs.HeldEvents.{held-is-running}
use Rattle.rev_events.proofs.WriteLemmas.{unwritten, written-first, read-mark}
use Rattle.rev_events.proofs.WrittenLemmas.{written-same, keys-append, keys-slot, keys-held, keys-stamps, keys-built, keys-deps}
use Rattle.rev_footprint.specs.Machine.{machine}
use Rattle.rev_history.specs.Timeline.{Numbered}
use Rattle.rev_races.specs.Laws.{CanEnd, CanEnd.settled, CanEnd.passes, CanEnd.runs, IsReady, first_slot, StartsAlone, WaitingIsEnough}
use Rattle.rev_races.proofs.Waiting.{IsFree, decide, no-mark, none-append, none-stamps, none-built, none-deps, none-slot, none-held, same-marks, MarksOnly, start-only, mark-only, finish-only, settled-not-running}

-- CELLS
abbrev Each : (Cell → Type 0) → List Cell → Type 0
Each P [] = Unit {0}
Each P (c ∷ cs) = P c × Each P cs

each-has : (P : Cell → Type 0) (cs : List Cell) (c : Cell) → Each P cs → Has cs c → P c
each-has P [] c all h = absurd h
each-has P (d ∷ cs) c all (inl e) = subst P e all.0
each-has P (d ∷ cs) c all (inr h) = each-has P cs c all.1 h

each-append : (P : Cell → Type 0) (xs ys : List Cell) → Each P xs → Each P ys → Each P (xs ++ ys)
each-append P [] ys a b = b
each-append P (x ∷ xs) ys a b = (a.0, each-append P xs ys a.1 b)

-- a property of the cells that events of some edge write
record OfEdge (P : Cell → Type 0) (outs : List (List ℕ)) : Type 0 where
  mark : (x : ℕ) → P (cell.Mark x)
  job : (x : ℕ) → P (cell.Job x)
  slot : (x y : ℕ) → P (cell.Slot x y)
  stamp : (path : List ℕ) → Contains outs path → P (cell.Stamp path)
  built : (path : List ℕ) → P (cell.Built path)
  deps : (path : List ℕ) → P (cell.Deps path)

each-stamps : (P : Cell → Type 0) (paths : List (List ℕ)) → ((path : List ℕ) → Contains paths path → P (cell.Stamp path)) → Each P (stamp_cells paths)
each-stamps P [] h = tt
each-stamps P (p ∷ ps) h = (h p (Contains-get_or (p ∷ ps) 0 p (omega arith)), each-stamps P ps (λ path k. h path (Contains-append_right (p ∷ []) ps path k)))

each-built : (P : Cell → Type 0) (paths : List (List ℕ)) → ((path : List ℕ) → P (cell.Built path)) → Each P (built_cells paths)
each-built P [] h = tt
each-built P (p ∷ ps) h = (h p, each-built P ps h)

each-deps : (P : Cell → Type 0) (build : BuildValue) → ((path : List ℕ) → P (cell.Deps path)) → Each P (deps_cells build)
each-deps P build h = by build.keeps_deps (outputs_of build)
  where
    first : (paths : List (List ℕ)) → Each P (first_deps_cell paths)
    first [] = tt
    first (p ∷ ps) = (h p, tt)

    by : (b : Bool) (paths : List (List ℕ)) → Each P (if b then first_deps_cell paths else [])
    by true paths = first paths
    by false paths = tt

each-slot : (P : Cell → Type 0) (pool : Option (ℕ × ℕ)) (slot : Option ℕ) → ((x y : ℕ) → P (cell.Slot x y)) → Each P (slot_cells pool slot)
each-slot P None None h = tt
each-slot P None (Some q) h = tt
each-slot P (Some p) None h = tt
each-slot P (Some p) (Some q) h = (h p.0 q, tt)

each-held : (P : Cell → Type 0) (pool : Option (ℕ × ℕ)) (m : Mark) → ((x : ℕ) → P (cell.Job x)) → ((x y : ℕ) → P (cell.Slot x y)) → Each P (held_cells pool m)
each-held P pool (mark.Running job slot seen) j h = (j job, each-slot P pool slot h)
each-held P pool (mark.Done changed) j h = tt
each-held P pool mark.Idle j h = tt
each-held P pool mark.Wanted j h = tt
each-held P pool mark.Through j h = tt
each-held P pool mark.Clean j h = tt
each-held P pool mark.Failed j h = tt
each-held P pool mark.Stopped j h = tt

not-job : {x y : ℕ} → cell.Job y ≡ cell.Mark x → ⊥
not-job e = cc

not-slot : {x y z : ℕ} → cell.Slot y z ≡ cell.Mark x → ⊥
not-slot e = cc

-- the mark that is written first
behind-first : List Cell → List Cell
behind-first [] = []
behind-first (c ∷ cs) = cs

head-written : (s : State) (edge : ℕ) (m : Mark) (tail : Effect) (rest : List Cell) → keys_of (write (cell.Mark edge) (value.Mark m) ∷ tail) ≡ cell.Mark edge ∷ rest
    → (Has rest (cell.Mark edge) → ⊥) → mark_of (set_cells cell_cmp s (write (cell.Mark edge) (value.Mark m) ∷ tail)) edge ≡ m
unfolding behind-first
head-written s edge m tail rest is none =
    ap (λ o. mark_in (default_or (cell.Mark edge) o))
    (written-first s (cell.Mark edge) (unless_default (value.Mark m)) tail (λ h. none (subst (λ cs. Has cs (cell.Mark edge)) (ap behind-first is) h)))
    ∙ read-mark edge m

-- WHAT IS ASKED
same-number : (n : ℕ) → (n == n) ≡ true
same-number n = elim (decide (n == n)) [ inl e ↦ e | inr e ↦ absurd (eqb-false n n e refl) ]

dirty-by : (s : State) (r : Reason → Bool) (ins : List ℕ) (outs : List (List ℕ)) → holds_at (is_missing s) outs 0 ≡ true → r (reason.Missing 0) ≡ true → not_dirty (filter r (candidates (positions_in outs) ins)) ≡ None
dirty-by s r ins [] h k = absurd (true≢false (sym h))
dirty-by s r ins (o ∷ os) h k = rw k refl

pub missing-dirty : (builds : List BuildValue) (s : State) (x : ℕ) → (build_at builds x).phony ≡ false → holds_at (is_missing s) (outputs_of (build_at builds x)) 0 ≡ true → not_dirty (reasons_of builds s x) ≡ None
unfolding reasons_of
missing-dirty builds s x plain h =
    dirty-by s (is_reason builds s (build_at builds x)) (positions_in (inputs s (build_at builds x))) (outputs_of (build_at builds x)) h (rw plain h)

slot-fits : (s : State) → ((pool : ℕ) → given_depth_of s pool ≡ Some 0 → ⊥) → (pools : List (List ℕ × ℕ)) (o : Option ℕ)
    → pool_slot (at_present s (numbered_pool pools o)) (first_slot (numbered_pool pools o)) ≡ None
slot-fits s roomy pools None = refl
slot-fits s roomy pools (Some number) = by (slice_get pools number)
  where
    small : (depth : ℕ) → (depth ≡ 0 → ⊥) → nat_lt 0 depth ≡ true
    small depth h = elim (decide (nat_lt 0 depth)) [ inl e ↦ e | inr e ↦ absurd (h (let l = ltb-false 0 depth e in omega (arith, l))) ]

    present : (depth : ℕ) (given : Option ℕ) → given_depth_of s number ≡ given → (depth ≡ 0 → ⊥) → nat_lt 0 (unwrap_or given depth) ≡ true
    present depth None is h = small depth h
    present depth (Some d) is h = small d (λ e. roomy number (is ∙ ap Some e))

    with-zero : (depth : ℕ) (b : Bool) → (depth == 0) ≡ b
        → pool_slot (at_present s (if b then None else Some (number, depth))) (first_slot (if b then None else Some (number, depth))) ≡ None
    with-zero depth true e = refl
    with-zero depth false e = ap (λ b. refuse_if (not b) PoolSlot) (present depth (given_depth_of s number) refl (eqb-false depth 0 e))

    deep : (depth : ℕ) → pool_slot (at_present s (if depth == 0 then None else Some (number, depth))) (first_slot (if depth == 0 then None else Some (number, depth))) ≡ None
    deep depth = with-zero depth (depth == 0) refl

    by : (o : Option (List ℕ × ℕ)) → pool_slot (at_present s (slots_of number o)) (first_slot (slots_of number o)) ≡ None
    by None = refl
    by (Some pool) = deep pool.1

slot-free : (s : State) (pool : Option (ℕ × ℕ)) → ((p : ℕ) → slot_of s p 0 ≡ None) → slot_busy (slot_holder s pool (first_slot pool)) ≡ None
slot-free s None free = refl
slot-free s (Some pool) free = ap slot_busy (free pool.0)

no-running : (m : Mark) (job : ℕ) (slot : Option ℕ) (seen : ℕ) → is_running_mark m ≡ false → m ≡ mark.Running job slot seen → ⊥
no-running m job slot seen h e = true≢false (sym (ap is_running_mark e) ∙ h)

due-not-running : (m : Mark) → (is_wanted_mark m || is_through_mark m) ≡ true → is_running_mark m ≡ false
due-not-running (mark.Running job slot seen) h = sym h
due-not-running (mark.Done changed) h = refl
due-not-running mark.Idle h = refl
due-not-running mark.Wanted h = refl
due-not-running mark.Through h = refl
due-not-running mark.Clean h = refl
due-not-running mark.Failed h = refl
due-not-running mark.Stopped h = refl

end-not-running : (s : State) (build : BuildValue) (m : Mark) → CanEnd s build m → is_running_mark m ≡ false
end-not-running s build m (settled h) = settled-not-running m h
end-not-running s build m (passes p h) = due-not-running m h
end-not-running s build m (runs p h k) = ap is_running_mark h

no-element : {path : List ℕ} → Contains [] path → ⊥
no-element {path} (k, within, at) = omega (arith, within)

and-off : (a b : Bool) → b ≡ false → (a && b) ≡ false
and-off true b h = h
and-off false b h = refl

module _ (manifest : ManifestValue) (single : first_double manifest.builds ≡ None) where
  module _ (s : State) (unlisted : (path : List ℕ) → paths_in (deps_of s path) ≡ []) where
    no-list : (build : BuildValue) → paths_in (deps_record s build) ≡ []
    no-list build = by build.keeps_deps (outputs_of build)
      where
        by : (b : Bool) (outs : List (List ℕ)) → paths_in (if b then first_deps s outs else None) ≡ []
        by true [] = refl
        by true (o ∷ os) = unlisted o
        by false outs = refl

    -- nothing blocks an edge whose producers are settled
    pub no-blocking : (x : ℕ) → IsFree manifest.builds s x → first_blocking manifest.builds s (inputs s (build_at manifest.builds x)) ≡ None
    no-blocking x free =
        let build = build_at manifest.builds x in
        sym (blocking-is manifest.builds s build)
        ∙ ap (λ os. position (is_waiting s) os) (sym (producers-are manifest.builds s build) ∙ (λ i. map (producer_of manifest.builds) (inputs_of build) ++ map (producer_of manifest.builds) (no-list build i)) ∙ append-nil (map (producer_of manifest.builds) (inputs_of build)))
        ∙ places.position-none (is_waiting s) (map (producer_of manifest.builds) (inputs_of build)) (producer_of manifest.builds []) (λ k within.
        subst (λ o. is_waiting s o ≡ false) (sym (get_or-map (producer_of manifest.builds) (inputs_of build) k []))
        (at (get_or (inputs_of build) k []) (Contains-get_or (inputs_of build) k [] (omega (arith, within, length-map (inputs_of build) (producer_of manifest.builds))))))
      where
        at : (path : List ℕ) → Contains (inputs_of (build_at manifest.builds x)) path → is_waiting s (producer_of manifest.builds path) ≡ false
        at path h = by (producer_of manifest.builds path) refl
          where
            by : (o : Option ℕ) → producer_of manifest.builds path ≡ o → is_waiting s o ≡ false
            by None e = refl
            by (Some q) e = ap not (free q (record { path = path; is_input = h; produced = e }))

  module _ (s : State) (ready : IsReady manifest s) where
    pub rests : (x : ℕ) → x < length manifest.builds → is_running_mark (mark_of s x) ≡ false
    rests x within = end-not-running s (build_at manifest.builds x) (mark_of s x) (ready.marks x within)

    job-free : (j : ℕ) → job_of s j ≡ None
    job-free j = by (job_of s j) refl
      where
        by : (o : Option ℕ) → job_of s j ≡ o → o ≡ None
        by None e = refl
        by (Some x) e =
            let r = (ready.held.jobs j x).0 e in
            absurd (no-running (mark_of s x) j r.slot r.seen (rests x (ready.held.edges x j r)) r.is)

    place-free : (p : ℕ) → slot_of s p 0 ≡ None
    place-free p = by (slot_of s p 0) refl
      where
        by : (o : Option ℕ) → slot_of s p 0 ≡ o → o ≡ None
        by None e = refl
        by (Some x) e =
            let r = (ready.held.slots p 0 x).0 e in
            absurd (no-running (mark_of s x) r.job (Some 0) r.seen (rests x (ready.held.edges x r.job (record { slot = Some 0; seen = r.seen; is = r.is }))) r.is)

    -- START
    start-ok : (x : ℕ) → (build_at manifest.builds x).phony ≡ false → mark_of s x ≡ mark.Wanted → holds_at (is_missing s) (outputs_of (build_at manifest.builds x)) 0 ≡ true → IsFree manifest.builds s x
        → start_refusal manifest 1 x 0 (first_slot (pool_of manifest x)) s ≡ None
    unfolding start_refusal
    start-ok x plain wants gone free =
        let e1 : phony_edge (build_at manifest.builds x) ≡ None = ap (λ b. refuse_if b Phony) plain in
        let e2 : halted (is_halted s) ≡ None = ap halted ready.going in
        let e3 : not_wanted (mark_of s x) ≡ None = ap not_wanted wants in
        let e4 : blocked (first_blocking manifest.builds s (inputs s (build_at manifest.builds x))) ≡ None = ap blocked (no-blocking s ready.unlisted x free) in
        let e5 : not_dirty (reasons_of manifest.builds s x) ≡ None = missing-dirty manifest.builds s x plain gone in
        let e6 : no_such_job 1 0 ≡ None = refl in
        let e7 : job_busy (job_of s 0) ≡ None = ap job_busy (job-free 0) in
        let e8 : pool_slot (present_pool manifest s x) (first_slot (pool_of manifest x)) ≡ None = slot-fits s ready.roomy manifest.pools (build_at manifest.builds x).pool in
        let e9 : slot_busy (slot_holder s (pool_of manifest x) (first_slot (pool_of manifest x))) ≡ None = slot-free s (pool_of manifest x) place-free in
        λ i. first_some (e1 i ∷ e2 i ∷ e3 i ∷ e4 i ∷ e5 i ∷ e6 i ∷ e7 i ∷ e8 i ∷ e9 i ∷ [])

    pass-ok : (x : ℕ) → (build_at manifest.builds x).phony ≡ true → (is_wanted_mark (mark_of s x) || is_through_mark (mark_of s x)) ≡ true → IsFree manifest.builds s x → pass_refusal manifest x s ≡ None
    unfolding pass_refusal
    pass-ok x plain due free =
        let e1 : not_phony (build_at manifest.builds x) (mark_of s x) ≡ None = ap (λ b. refuse_if b NotPhony) (and-off (is_wanted_mark (mark_of s x)) (not (build_at manifest.builds x).phony) (ap not plain)) in
        let e2 : not_marked (mark_of s x) ≡ None = ap (λ b. refuse_if (not b) NotWanted) due in
        let e3 : blocked (first_blocking manifest.builds s (inputs s (build_at manifest.builds x))) ≡ None = ap blocked (no-blocking s ready.unlisted x free) in
        λ i. first_some (e1 i ∷ e2 i ∷ e3 i ∷ [])

  -- FINISH
  finish-ok : (s : State) (x : ℕ) → (build_at manifest.builds x).phony ≡ false → is_running_mark (mark_of s x) ≡ true → finish_refusal manifest x (map (λ out. 1) (outputs_of (build_at manifest.builds x))) Nothing s ≡ None
  unfolding finish_refusal
  finish-ok s x plain busy =
      let build = build_at manifest.builds x in
      let e1 : phony_edge (build_at manifest.builds x) ≡ None = ap (λ b. refuse_if b Phony) plain in
      let e2 : not_running (mark_of s x) ≡ None = ap (λ b. refuse_if (not b) NotRunning) busy in
      let e3 : wrong_outputs build (map (λ out. 1) (outputs_of build)) ≡ None =
      ap (λ b. refuse_if (not b) (WrongOutputs (length (outputs_of build)))) (ap (λ n. n == length (outputs_of build)) (length-map (outputs_of build) (λ out. 1)) ∙ same-number (length (outputs_of build))) in
      λ i. first_some (e1 i ∷ e2 i ∷ e3 i ∷ None ∷ None ∷ [])

  -- an edge with a command that is still to run has its first output missing
  pub missing-by : (s : State) (build : BuildValue) (m : Mark) → build.phony ≡ false → m ≡ mark.Wanted → CanEnd s build m → holds_at (is_missing s) (outputs_of build) 0 ≡ true
  missing-by s build m plain is (settled h) = absurd (true≢false (sym h ∙ ap is_settled is))
  missing-by s build m plain is (passes p h) = absurd (true≢false (sym p ∙ plain))
  missing-by s build m plain is (runs p h k) = k

  -- WHAT IS WRITTEN
  abbrev Allowed : List (List ℕ) → Type 0 → Cell → Type 0
  Allowed outs D (cell.Stamp path) = Contains outs path
  Allowed outs D (cell.Mark x) = Unit {0}
  Allowed outs D (cell.Job j) = Unit {0}
  Allowed outs D (cell.Slot p q) = Unit {0}
  Allowed outs D (cell.Built path) = Unit {0}
  Allowed outs D (cell.Deps path) = D
  Allowed outs D cell.Halted = ⊥
  Allowed outs D (cell.Depth p) = ⊥

  pub record Kept (s t : State) (outs : List (List ℕ)) : Type 0 where
    pub halts : is_halted t ≡ is_halted s
    pub stamps : (path : List ℕ) → (Contains outs path → ⊥) → stamp_of t path ≡ stamp_of s path
    pub depths : (pool : ℕ) → given_depth_of t pool ≡ given_depth_of s pool

  same-cell : (P : Cell → Type 0) (s : State) (e : Event) (c : Cell) → Each P (written manifest s e) → (P c → ⊥) → get (after manifest s e) c ≡ get s c
  same-cell P s e c all none = unwritten s (effect manifest s e) c (λ h. none (each-has P (written manifest s e) c all (subst (λ cs. Has cs c) (written-same manifest s e) h)))

  kept-of : (s : State) (e : Event) (outs : List (List ℕ)) (D : Type 0) → Each (Allowed outs D) (written manifest s e) → Kept s (after manifest s e) outs
  kept-of s e outs D all = record {
    halts = ap (λ o. halted_in (default_or cell.Halted o)) (same-cell (Allowed outs D) s e cell.Halted all (λ h. h));
    stamps = λ path none. ap (λ o. stamp_in (default_or (cell.Stamp path) o)) (same-cell (Allowed outs D) s e (cell.Stamp path) all none);
    depths = λ pool. ap (λ o. depth_in (default_or (cell.Depth pool) o)) (same-cell (Allowed outs D) s e (cell.Depth pool) all (λ h. h));
  }

  deps-kept : (s : State) (e : Event) (outs : List (List ℕ)) → Each (Allowed outs ⊥) (written manifest s e) → (path : List ℕ) → deps_of (after manifest s e) path ≡ deps_of s path
  deps-kept s e outs all path = ap (λ o. deps_in (default_or (cell.Deps path) o)) (same-cell (Allowed outs ⊥) s e (cell.Deps path) all (λ h. h))

  start-each : (outs : List (List ℕ)) (D : Type 0) (x : ℕ) (slot : Option ℕ) (s : State) → Each (Allowed outs D) (start_writes manifest x 0 slot s)
  unfolding start_writes
  start-each outs D x slot s = (tt, (tt, each-slot (Allowed outs D) (pool_of manifest x) slot (λ p q. tt)))

  mark-each : (outs : List (List ℕ)) (D : Type 0) (x : ℕ) (s : State) → Each (Allowed outs D) (mark_writes manifest x s)
  unfolding mark_writes
  mark-each outs D x s = (tt, tt)

  finish-each : (x : ℕ) (s : State) → Each (Allowed (outputs_of (build_at manifest.builds x)) (Unit {0})) (finish_writes manifest x s)
  unfolding finish_writes
  finish-each x s =
      let build = build_at manifest.builds x in
      let outs = outputs_of build in
      let P = Allowed outs (Unit {0}) in
      let held = held_cells (pool_of manifest x) (mark_of s x) in (
        tt,
        each-append P held (stamp_cells outs ++ (built_cells outs ++ deps_cells build)) (each-held P (pool_of manifest x) (mark_of s x) (λ j. tt) (λ p q. tt))
            (each-append P (stamp_cells outs) (built_cells outs ++ deps_cells build) (each-stamps P outs (λ path h. h))
            (each-append P (built_cells outs) (deps_cells build) (each-built P outs (λ path. tt)) (each-deps P build (λ path. tt)))),
      )

  -- DEPS RECORDS AFTER A FINISH THAT LISTS NOTHING
  abbrev ListsNone : Cell × Option Value → Type 0
  ListsNone w = (path : List ℕ) → w.0 ≡ cell.Deps path → paths_in (deps_in (default_or (cell.Deps path) w.1)) ≡ []

  abbrev EachWrite : Effect → Type 0
  EachWrite [] = Unit {0}
  EachWrite (w ∷ ws) = ListsNone w × EachWrite ws

  writes-append : (xs ys : Effect) → EachWrite xs → EachWrite ys → EachWrite (xs ++ ys)
  writes-append [] ys a b = b
  writes-append (x ∷ xs) ys a b = (a.0, writes-append xs ys a.1 b)

  deps-after : (ws : Effect) (s : State) → ((path : List ℕ) → paths_in (deps_of s path) ≡ []) → EachWrite ws → (path : List ℕ) → paths_in (deps_of (set_cells cell_cmp s ws) path) ≡ []
  deps-after [] s h each path = h path
  deps-after (w ∷ ws) s h each path = deps-after ws (set_cell cell_cmp s w.0 w.1) (λ p. ap (λ o. paths_in (deps_in (default_or (cell.Deps p) o))) (get-set_cell cells_total cells_exact s w.0 w.1 (cell.Deps p)) ∙ by p (eq_by_cmp cell_cmp (cell.Deps p) w.0) refl) each.1 path
    where
      by : (p : List ℕ) (b : Bool) → eq_by_cmp cell_cmp (cell.Deps p) w.0 ≡ b → paths_in (deps_in (default_or (cell.Deps p) (cond b w.1 (get s (cell.Deps p))))) ≡ []
      by p true e = each.0 p (sym (tells_apart cells_exact (cell.Deps p) w.0 e))
      by p false e = h p

  no-stamp : (p q : List ℕ) → cell.Stamp p ≡ cell.Deps q → ⊥
  no-stamp p q e = cc

  no-built : (p q : List ℕ) → cell.Built p ≡ cell.Deps q → ⊥
  no-built p q e = cc

  no-job : (j : ℕ) (q : List ℕ) → cell.Job j ≡ cell.Deps q → ⊥
  no-job j q e = cc

  no-slot : (x y : ℕ) (q : List ℕ) → cell.Slot x y ≡ cell.Deps q → ⊥
  no-slot x y q e = cc

  no-mark-cell : (x : ℕ) (q : List ℕ) → cell.Mark x ≡ cell.Deps q → ⊥
  no-mark-cell x q e = cc

  writes-stamps : (paths : List (List ℕ)) (stamps : List ℕ) → EachWrite (write_stamps paths stamps)
  writes-stamps [] stamps = tt
  writes-stamps (p ∷ ps) stamps = (λ q e. absurd (no-stamp p q e), writes-stamps ps (rest_of stamps))

  writes-built : (command : List ℕ) (seen : ℕ) (paths : List (List ℕ)) (flags : List Bool) (stamps : List ℕ) → EachWrite (write_built command seen paths flags stamps)
  writes-built command seen [] flags stamps = tt
  writes-built command seen (p ∷ ps) flags stamps = (λ q e. absurd (no-built p q e), writes-built command seen ps (rest_of flags) (rest_of stamps))

  writes-deps : (build : BuildValue) (stamps : List ℕ) → EachWrite (write_deps build stamps Nothing)
  writes-deps build stamps = by build.keeps_deps (outputs_of build)
    where
      first : (paths : List (List ℕ)) → EachWrite (write_first_deps paths stamps Nothing)
      first [] = tt
      first (p ∷ ps) = (λ q e. refl, tt)

      by : (b : Bool) (paths : List (List ℕ)) → EachWrite (if b then write_first_deps paths stamps Nothing else [])
      by true paths = first paths
      by false paths = tt

  writes-slot : (pool : Option (ℕ × ℕ)) (slot holder : Option ℕ) → EachWrite (write_slot pool slot holder)
  writes-slot None None holder = tt
  writes-slot None (Some q) holder = tt
  writes-slot (Some p) None holder = tt
  writes-slot (Some p) (Some q) holder = (λ r e. absurd (no-slot p.0 q r e), tt)

  writes-held : (pool : Option (ℕ × ℕ)) (m : Mark) → EachWrite (free_held pool m)
  writes-held pool (mark.Running job slot seen) = (λ q e. absurd (no-job job q e), writes-slot pool slot None)
  writes-held pool (mark.Done changed) = tt
  writes-held pool mark.Idle = tt
  writes-held pool mark.Wanted = tt
  writes-held pool mark.Through = tt
  writes-held pool mark.Clean = tt
  writes-held pool mark.Failed = tt
  writes-held pool mark.Stopped = tt

  finish-unlists : (x : ℕ) (stamps : List ℕ) (s : State) → ((path : List ℕ) → paths_in (deps_of s path) ≡ []) → (path : List ℕ) → paths_in (deps_of (set_cells cell_cmp s (finish_effect manifest x stamps Nothing s)) path) ≡ []
  unfolding finish_effect
  finish-unlists x stamps s h path =
      let build = build_at manifest.builds x in
      let outs = outputs_of build in
      let flags = changes build.restat (map (stamp_of s) outs) stamps in
      let held = free_held (pool_of manifest x) (mark_of s x) in
      let records = write_built build.command (seen_by (mark_of s x)) outs flags stamps in
      let deps = write_deps build stamps Nothing in
      deps-after (finish_effect manifest x stamps Nothing s) s h (
        λ q e. absurd (no-mark-cell x q e),
        writes-append held (write_stamps outs stamps ++ (records ++ deps)) (writes-held (pool_of manifest x) (mark_of s x))
            (writes-append (write_stamps outs stamps) (records ++ deps) (writes-stamps outs stamps)
            (writes-append records deps (writes-built build.command (seen_by (mark_of s x)) outs flags stamps) (writes-deps build stamps))),
      ) path

  -- MARKS THAT ARE WRITTEN
  start-mark-is : (x : ℕ) (slot : Option ℕ) (s : State) → mark_of (set_cells cell_cmp s (start_effect manifest x 0 slot s)) x ≡ mark.Running 0 slot (newest_stamp manifest.builds s (inputs s (build_at manifest.builds x)))
  unfolding start_effect
  start-mark-is x slot s =
      let m = mark.Running 0 slot (newest_stamp manifest.builds s (inputs s (build_at manifest.builds x))) in
      head-written s x m (write (cell.Job 0) (value.Job (Some x)) ∷ write_slot (pool_of manifest x) slot (Some x)) (cell.Job 0 ∷ slot_cells (pool_of manifest x) slot)
      (λ i. cell.Mark x ∷ cell.Job 0 ∷ keys-slot (pool_of manifest x) slot (Some x) i)
      (no-mark (cell.Job 0 ∷ slot_cells (pool_of manifest x) slot) x (refl, none-slot (pool_of manifest x) slot))

  start-mark : (x : ℕ) (slot : Option ℕ) (s : State) → is_running_mark (mark_of (set_cells cell_cmp s (start_effect manifest x 0 slot s)) x) ≡ true
  start-mark x slot s = ap is_running_mark (start-mark-is x slot s)

  pass-mark : (x : ℕ) (s : State) → is_settled (mark_of (set_cells cell_cmp s (pass_effect manifest x s)) x) ≡ true
  unfolding pass_effect
  pass-mark x s =
      let build = build_at manifest.builds x in
      let m = mark.Done (pass_changes (mark_of s x) (inputs s build) (list_any (is_rebuilt manifest.builds s) (inputs s build)) (map (is_missing s) (outputs_of build))) in
      ap is_settled (head-written s x m [] [] refl (λ h. h))

  finish-mark : (x : ℕ) (stamps : List ℕ) (s : State) → is_settled (mark_of (set_cells cell_cmp s (finish_effect manifest x stamps Nothing s)) x) ≡ true
  unfolding finish_effect
  finish-mark x stamps s =
      let build = build_at manifest.builds x in
      let outs = outputs_of build in
      let flags = changes build.restat (map (stamp_of s) outs) stamps in
      let held = free_held (pool_of manifest x) (mark_of s x) in
      let records = write_built build.command (seen_by (mark_of s x)) outs flags stamps in
      let deps = write_deps build stamps Nothing in
      let cells = held_cells (pool_of manifest x) (mark_of s x) ++ (stamp_cells outs ++ (built_cells outs ++ deps_cells build)) in
      ap is_settled (head-written s x (mark.Done (where_true flags)) (held ++ (write_stamps outs stamps ++ (records ++ deps))) cells
      (ap (λ cs. cell.Mark x ∷ cs) (keys-append held (write_stamps outs stamps ++ (records ++ deps))
      ∙ (λ i. keys-held (pool_of manifest x) (mark_of s x) i ++ keys-append (write_stamps outs stamps) (records ++ deps) i)
      ∙ (λ i. held_cells (pool_of manifest x) (mark_of s x) ++ (keys-stamps outs stamps i ++ keys-append records deps i))
      ∙ (λ i. held_cells (pool_of manifest x) (mark_of s x) ++ (stamp_cells outs ++ (keys-built build.command (seen_by (mark_of s x)) outs flags stamps i ++ keys-deps build stamps Nothing i)))))
      (no-mark cells x (none-append (held_cells (pool_of manifest x) (mark_of s x)) (stamp_cells outs ++ (built_cells outs ++ deps_cells build)) (none-held (pool_of manifest x) (mark_of s x))
      (none-append (stamp_cells outs) (built_cells outs ++ deps_cells build) (none-stamps outs)
      (none-append (built_cells outs) (deps_cells build) (none-built outs) (none-deps build))))))

  -- READY AFTER A STEP
  pub first-same : (s t : State) (outs : List (List ℕ)) → ((path : List ℕ) → Contains outs path → stamp_of t path ≡ stamp_of s path) → holds_at (is_missing s) outs 0 ≡ true → holds_at (is_missing t) outs 0 ≡ true
  first-same s t [] same h = h
  first-same s t (o ∷ os) same h = ap (λ n. n == 0) (same o (Contains-get_or (o ∷ os) 0 o (omega arith))) ∙ h

  can-end : (s t : State) (y : ℕ) → mark_of t y ≡ mark_of s y → (holds_at (is_missing s) (outputs_of (build_at manifest.builds y)) 0 ≡ true → holds_at (is_missing t) (outputs_of (build_at manifest.builds y)) 0 ≡ true)
      → CanEnd s (build_at manifest.builds y) (mark_of s y) → CanEnd t (build_at manifest.builds y) (mark_of t y)
  can-end s t y same gone (settled h) = settled (ap is_settled same ∙ h)
  can-end s t y same gone (passes p h) = passes p (ap (λ m. is_wanted_mark m || is_through_mark m) same ∙ h)
  can-end s t y same gone (runs p h k) = runs p (same ∙ h) (gone k)

  ready-after : (s t : State) (x : ℕ) → IsReady manifest s → IsHeldExactly manifest t → Kept s t (outputs_of (build_at manifest.builds x)) → ((path : List ℕ) → paths_in (deps_of t path) ≡ [])
      → is_settled (mark_of t x) ≡ true → ((y : ℕ) → y ≢ x → mark_of t y ≡ mark_of s y) → IsReady manifest t
  ready-after s t x ready held kept unlisted ended others = record {
    held = held;
    going = kept.halts ∙ ready.going;
    unlisted = unlisted;
    roomy = λ pool none. ready.roomy pool (sym (kept.depths pool) ∙ none);
    marks = λ y within. elim (cases_eq y x) [
      | inl same ↦ settled (ap (λ z. is_settled (mark_of t z)) same ∙ ended)
      | inr other ↦ can-end s t y (others y other)
          (first-same s t (outputs_of (build_at manifest.builds y)) (λ path h. kept.stamps path (λ k. other (one_producer manifest.builds single path y x h k)))) (ready.marks y within)
    ];
  }

  -- events that end one edge
  pub record EndsOne (s : State) (x : ℕ) : Type 0 where
    pub events : Numbered
    pub legal : Legal (machine manifest 1) s events
    pub ready : IsReady manifest (run (machine manifest 1) s events)
    pub ended : is_settled (mark_of (run (machine manifest 1) s events) x) ≡ true
    pub others : (y : ℕ) → y ≢ x → mark_of (run (machine manifest 1) s events) y ≡ mark_of s y
    pub depths : (pool : ℕ) → given_depth_of (run (machine manifest 1) s events) pool ≡ given_depth_of s pool

  pub others-same : (s : State) (e : Event) (x : ℕ) → MarksOnly x (written manifest s e) → (y : ℕ) → y ≢ x → mark_of (after manifest s e) y ≡ mark_of s y
  others-same s e x only y other = same-marks manifest s e y (λ h. other (only y h))

  module _ (x : ℕ) (out : List ℕ) (named : producer_of manifest.builds out ≡ Some x) where
    abbrev begin : Event
    begin = Start out 0 (first_slot (pool_of manifest x))

    abbrev finish : Event
    finish = Finish out (map (λ o. 1) (outputs_of (build_at manifest.builds x))) Nothing

    pub begin-accepted : (s : State) → IsReady manifest s → (build_at manifest.builds x).phony ≡ false → mark_of s x ≡ mark.Wanted → holds_at (is_missing s) (outputs_of (build_at manifest.builds x)) 0 ≡ true → IsFree manifest.builds s x
        → refusal manifest 1 s (Start out 0 (first_slot (pool_of manifest x))) ≡ None
    unfolding refusal
    begin-accepted s ready plain wants gone free =
        subst (λ o. of_edge (Some NoSuchEdge) (λ edge. start_refusal manifest 1 edge 0 (first_slot (pool_of manifest x)) s) o ≡ None) (sym named) (start-ok s ready x plain wants gone free)

    finish-accepted : (s : State) → (build_at manifest.builds x).phony ≡ false → is_running_mark (mark_of s x) ≡ true → refusal manifest 1 s (Finish out (map (λ o. 1) (outputs_of (build_at manifest.builds x))) Nothing) ≡ None
    unfolding refusal
    finish-accepted s plain busy =
        subst (λ o. of_edge (Some NoSuchEdge) (λ edge. finish_refusal manifest edge (map (λ o. 1) (outputs_of (build_at manifest.builds x))) Nothing s) o ≡ None) (sym named) (finish-ok s x plain busy)

    pass-accepted : (s : State) → IsReady manifest s → (build_at manifest.builds x).phony ≡ true → (is_wanted_mark (mark_of s x) || is_through_mark (mark_of s x)) ≡ true → IsFree manifest.builds s x → refusal manifest 1 s (Pass out) ≡ None
    unfolding refusal
    pass-accepted s ready plain due free = subst (λ o. of_edge (Some NoSuchEdge) (λ edge. pass_refusal manifest edge s) o ≡ None) (sym named) (pass-ok s ready x plain due free)

    begin-written : (s : State) → start_writes manifest x 0 (first_slot (pool_of manifest x)) s ≡ written manifest s (Start out 0 (first_slot (pool_of manifest x)))
    unfolding written
    begin-written s = ap (λ o. of_edge [] (λ edge. start_writes manifest edge 0 (first_slot (pool_of manifest x)) s) o) (sym named)

    finish-written : (s : State) → finish_writes manifest x s ≡ written manifest s (Finish out (map (λ o. 1) (outputs_of (build_at manifest.builds x))) Nothing)
    unfolding written
    finish-written s = ap (λ o. of_edge [] (λ edge. finish_writes manifest edge s) o) (sym named)

    pass-written : (s : State) → mark_writes manifest x s ≡ written manifest s (Pass out)
    unfolding written
    pass-written s = ap (λ o. of_edge [] (λ edge. mark_writes manifest edge s) o) (sym named)

    begin-effect : (s : State) → start_effect manifest x 0 (first_slot (pool_of manifest x)) s ≡ effect manifest s (Start out 0 (first_slot (pool_of manifest x)))
    unfolding effect
    begin-effect s = ap (λ o. of_edge [] (λ edge. start_effect manifest edge 0 (first_slot (pool_of manifest x)) s) o) (sym named)

    finish-effect : (s : State) → finish_effect manifest x (map (λ o. 1) (outputs_of (build_at manifest.builds x))) Nothing s ≡ effect manifest s (Finish out (map (λ o. 1) (outputs_of (build_at manifest.builds x))) Nothing)
    unfolding effect
    finish-effect s = ap (λ o. of_edge [] (λ edge. finish_effect manifest edge (map (λ o. 1) (outputs_of (build_at manifest.builds x))) Nothing s) o) (sym named)

    pass-effect : (s : State) → pass_effect manifest x s ≡ effect manifest s (Pass out)
    unfolding effect
    pass-effect s = ap (λ o. of_edge [] (λ edge. pass_effect manifest edge s) o) (sym named)

    -- what a start leaves: the edge runs on job 0 in the slot, and nothing else is written but what it holds
    pub record Begun (s t : State) : Type 0 where
      pub runs : mark_of t x ≡ mark.Running 0 (first_slot (pool_of manifest x)) (newest_stamp manifest.builds s (inputs s (build_at manifest.builds x)))
      pub others : (y : ℕ) → y ≢ x → mark_of t y ≡ mark_of s y
      pub kept : Kept s t []
      pub deps : (path : List ℕ) → deps_of t path ≡ deps_of s path

    pub begun : (s : State) → Begun s (after manifest s (Start out 0 (first_slot (pool_of manifest x))))
    begun s =
        let e = Start out 0 (first_slot (pool_of manifest x)) in
        let each : Each (Allowed [] ⊥) (written manifest s e) = subst (λ cs. Each (Allowed [] ⊥) cs) (begin-written s) (start-each [] ⊥ x (first_slot (pool_of manifest x)) s) in
        record {
          runs =
              subst (λ ws. mark_of (set_cells cell_cmp s ws) x ≡ mark.Running 0 (first_slot (pool_of manifest x)) (newest_stamp manifest.builds s (inputs s (build_at manifest.builds x))))
              (begin-effect s) (start-mark-is x (first_slot (pool_of manifest x)) s);
          others = λ y other. others-same s e x (subst (λ cs. MarksOnly x cs) (begin-written s) (start-only manifest 0 (first_slot (pool_of manifest x)) s x)) y other;
          kept = kept-of s e [] ⊥ each;
          deps = deps-kept s e [] each;
        }

    -- one of a run, and of a pass: the events are accepted one after the other, and the edge is settled after them
    pub record Ran (s t u : State) : Type 0 where
      pub begins : refusal manifest 1 s (Start out 0 (first_slot (pool_of manifest x))) ≡ None
      pub finishes : refusal manifest 1 t (Finish out (map (λ o. 1) (outputs_of (build_at manifest.builds x))) Nothing) ≡ None
      pub ready : IsReady manifest u
      pub ended : is_settled (mark_of u x) ≡ true
      pub others : (y : ℕ) → y ≢ x → mark_of u y ≡ mark_of s y
      pub depths : (pool : ℕ) → given_depth_of u pool ≡ given_depth_of s pool

    pub record Passed (s t : State) : Type 0 where
      pub passes : refusal manifest 1 s (Pass out) ≡ None
      pub ready : IsReady manifest t
      pub ended : is_settled (mark_of t x) ≡ true
      pub others : (y : ℕ) → y ≢ x → mark_of t y ≡ mark_of s y
      pub depths : (pool : ℕ) → given_depth_of t pool ≡ given_depth_of s pool

    pub ran : (s : State) → IsReady manifest s → (build_at manifest.builds x).phony ≡ false → mark_of s x ≡ mark.Wanted → holds_at (is_missing s) (outputs_of (build_at manifest.builds x)) 0 ≡ true → IsFree manifest.builds s x
        → Ran s (after manifest s (Start out 0 (first_slot (pool_of manifest x))))
        (after manifest (after manifest s (Start out 0 (first_slot (pool_of manifest x)))) (Finish out (map (λ o. 1) (outputs_of (build_at manifest.builds x))) Nothing))
    ran s ready plain wants gone free =
        let outs = outputs_of (build_at manifest.builds x) in
        let e = Start out 0 (first_slot (pool_of manifest x)) in
        let f = Finish out (map (λ o. 1) outs) Nothing in
        let one_ok : refusal manifest 1 s e ≡ None = begin-accepted s ready plain wants gone free in
        let t = after manifest s e in
        let left = begun s in
        let two_ok : refusal manifest 1 t f ≡ None = finish-accepted t plain (ap is_running_mark left.runs) in
        let u = after manifest t f in
        let ended : is_settled (mark_of u x) ≡ true = subst (λ ws. is_settled (mark_of (set_cells cell_cmp t ws) x) ≡ true) (finish-effect t) (finish-mark x (map (λ o. 1) outs) t) in
        let each_two : Each (Allowed outs (Unit {0})) (written manifest t f) = subst (λ cs. Each (Allowed outs (Unit {0})) cs) (finish-written t) (finish-each x t) in
        let kept_two = kept-of t f outs (Unit {0}) each_two in
        let unlisted_t : (path : List ℕ) → paths_in (deps_of t path) ≡ [] = λ path. ap paths_in (left.deps path) ∙ ready.unlisted path in
        let unlisted : (path : List ℕ) → paths_in (deps_of u path) ≡ [] = λ path. subst (λ ws. paths_in (deps_of (set_cells cell_cmp t ws) path) ≡ []) (finish-effect t) (finish-unlists x (map (λ o. 1) outs) t unlisted_t path) in
        let others : (y : ℕ) → y ≢ x → mark_of u y ≡ mark_of s y = λ y other. others-same t f x (subst (λ cs. MarksOnly x cs) (finish-written t) (finish-only manifest t x)) y other ∙ left.others y other in
        let held = held-is-running.kept manifest 1 t f two_ok (held-is-running.kept manifest 1 s e one_ok ready.held) in
        record {
          begins = one_ok;
          finishes = two_ok;
          ready = ready-after s u x ready held (record {
            halts = kept_two.halts ∙ left.kept.halts;
            stamps = λ path none. kept_two.stamps path none ∙ left.kept.stamps path no-element;
            depths = λ pool. kept_two.depths pool ∙ left.kept.depths pool;
          }) unlisted ended others;
          ended = ended;
          others = others;
          depths = λ pool. kept_two.depths pool ∙ left.kept.depths pool;
        }

    run-ends : (s : State) → IsReady manifest s → (build_at manifest.builds x).phony ≡ false → mark_of s x ≡ mark.Wanted → holds_at (is_missing s) (outputs_of (build_at manifest.builds x)) 0 ≡ true → IsFree manifest.builds s x → EndsOne s x
    run-ends s ready plain wants gone free =
        let r = ran s ready plain wants gone free in
        record {
          events = (0, Start out 0 (first_slot (pool_of manifest x))) ∷ (0, Finish out (map (λ o. 1) (outputs_of (build_at manifest.builds x))) Nothing) ∷ [];
          legal = (r.begins, (r.finishes, tt));
          ready = r.ready;
          ended = r.ended;
          others = r.others;
          depths = r.depths;
        }

    pub passed : (s : State) → IsReady manifest s → (build_at manifest.builds x).phony ≡ true → (is_wanted_mark (mark_of s x) || is_through_mark (mark_of s x)) ≡ true → IsFree manifest.builds s x → Passed s (after manifest s (Pass out))
    passed s ready plain due free =
        let outs = outputs_of (build_at manifest.builds x) in
        let e = Pass out in
        let ok : refusal manifest 1 s e ≡ None = pass-accepted s ready plain due free in
        let t = after manifest s e in
        let ended : is_settled (mark_of t x) ≡ true = subst (λ ws. is_settled (mark_of (set_cells cell_cmp s ws) x) ≡ true) (pass-effect s) (pass-mark x s) in
        let each : Each (Allowed outs ⊥) (written manifest s e) = subst (λ cs. Each (Allowed outs ⊥) cs) (pass-written s) (mark-each outs ⊥ x s) in
        let others : (y : ℕ) → y ≢ x → mark_of t y ≡ mark_of s y = λ y other. others-same s e x (subst (λ cs. MarksOnly x cs) (pass-written s) (mark-only manifest s x)) y other in
        record {
          passes = ok;
          ready = ready-after s t x ready (held-is-running.kept manifest 1 s e ok ready.held) (kept-of s e outs ⊥ each) (λ path. ap paths_in (deps-kept s e outs each path) ∙ ready.unlisted path) ended others;
          ended = ended;
          others = others;
          depths = λ pool. (kept-of s e outs ⊥ each).depths pool;
        }

    pass-ends : (s : State) → IsReady manifest s → (build_at manifest.builds x).phony ≡ true → (is_wanted_mark (mark_of s x) || is_through_mark (mark_of s x)) ≡ true → IsFree manifest.builds s x → EndsOne s x
    pass-ends s ready plain due free =
        let r = passed s ready plain due free in
        record { events = (0, Pass out) ∷ []; legal = (r.passes, tt); ready = r.ready; ended = r.ended; others = r.others; depths = r.depths }

    ends-by : (s : State) → IsReady manifest s → IsFree manifest.builds s x → CanEnd s (build_at manifest.builds x) (mark_of s x) → EndsOne s x
    ends-by s ready free (settled h) = record { events = []; legal = tt; ready = ready; ended = h; others = λ y other. refl; depths = λ pool. refl }
    ends-by s ready free (passes p h) = pass-ends s ready p h free
    ends-by s ready free (runs p h k) = run-ends s ready p h k free

  -- WHOLE LISTS
  pub legal-append : (s : State) (xs ys : Numbered) → Legal (machine manifest 1) s xs → Legal (machine manifest 1) (run (machine manifest 1) s xs) ys → Legal (machine manifest 1) s (xs ++ ys)
  legal-append s [] ys a b = b
  legal-append s (x ∷ xs) ys a b = (a.0, legal-append (after manifest s x.1) xs ys a.1 b)

  -- an edge ends, and before it all that it waits for
  pub record Ends (s : State) (x : ℕ) : Type 0 where
    pub events : Numbered
    pub legal : Legal (machine manifest 1) s events
    pub ready : IsReady manifest (run (machine manifest 1) s events)
    pub ended : is_settled (mark_of (run (machine manifest 1) s events) x) ≡ true
    pub keeps : (y : ℕ) → y ≢ x → (EdgeReaches manifest.builds x y → ⊥) → mark_of (run (machine manifest 1) s events) y ≡ mark_of s y
    pub stays : (y : ℕ) → is_settled (mark_of s y) ≡ true → is_settled (mark_of (run (machine manifest 1) s events) y) ≡ true
    pub depths : (pool : ℕ) → given_depth_of (run (machine manifest 1) s events) pool ≡ given_depth_of s pool

  pub record EndsAll (s : State) (x : ℕ) (paths : List (List ℕ)) : Type 0 where
    pub events : Numbered
    pub legal : Legal (machine manifest 1) s events
    pub ready : IsReady manifest (run (machine manifest 1) s events)
    pub ended : (path : List ℕ) (q : ℕ) → Contains paths path → producer_of manifest.builds path ≡ Some q → is_settled (mark_of (run (machine manifest 1) s events) q) ≡ true
    pub keeps : (y : ℕ) → (EdgeReaches manifest.builds x y → ⊥) → mark_of (run (machine manifest 1) s events) y ≡ mark_of s y
    pub stays : (y : ℕ) → is_settled (mark_of s y) ≡ true → is_settled (mark_of (run (machine manifest 1) s events) y) ≡ true
    pub depths : (pool : ℕ) → given_depth_of (run (machine manifest 1) s events) pool ≡ given_depth_of s pool

  first-case : (p path : List ℕ) (ps : List (List ℕ)) → Contains (p ∷ ps) path → (p ≡ path) ⊎ Contains ps path
  first-case p path ps h = elim (Contains-append_cases (p ∷ []) ps path h) [ inl here ↦ inl (only p path here) | inr there ↦ inr there ]

  pub ends-all : (x : ℕ) (each : (s : State) (path : List ℕ) (q : ℕ) → IsReady manifest s → Contains (inputs_of (build_at manifest.builds x)) path → producer_of manifest.builds path ≡ Some q → Ends s q)
      → (paths : List (List ℕ)) → ((path : List ℕ) → Contains paths path → Contains (inputs_of (build_at manifest.builds x)) path) → (s : State) → IsReady manifest s → EndsAll s x paths
  ends-all x each [] inside s ready = record { events = []; legal = tt; ready = ready; ended = λ path q h e. absurd (none path h); keeps = λ y h. refl; stays = λ y h. h; depths = λ pool. refl }
    where
      none : (path : List ℕ) → Contains [] path → ⊥
      none path (k, within, at) = omega (arith, within)
  ends-all x each (p ∷ ps) inside s ready =
      by (producer_of manifest.builds p) refl (λ t r. ends-all x each ps (λ path h. inside path (Contains-append_right (p ∷ []) ps path h)) t r)
    where
      here : Contains (p ∷ ps) p
      here = Contains-get_or (p ∷ ps) 0 p (omega arith)

      by : (o : Option ℕ) → producer_of manifest.builds p ≡ o → ((t : State) → IsReady manifest t → EndsAll t x ps) → EndsAll s x (p ∷ ps)
      by None is rest =
          let r = rest s ready in
          record {
            events = r.events;
            legal = r.legal;
            ready = r.ready;
            ended = λ path q h e. elim (first-case p path ps h) [
              | inl same ↦
                  let no : None ≡ Some q = sym is ∙ ap (producer_of manifest.builds) same ∙ e in
                  cc
              | inr there ↦ r.ended path q there e
            ];
            keeps = r.keeps;
            stays = r.stays;
            depths = r.depths;
          }
      by (Some z) is rest =
          let a = each s p z ready (inside p here) is in
          let t = run (machine manifest 1) s a.events in
          let r = rest t a.ready in
          let whole : run (machine manifest 1) s (a.events ++ r.events) ≡ run (machine manifest 1) t r.events = run-append (machine manifest 1) s a.events r.events in
          let step : EdgeSteps manifest.builds x z = record { path = p; is_input = inside p here; produced = is } in
          record {
            events = a.events ++ r.events;
            legal = legal-append s a.events r.events a.legal r.legal;
            ready = subst (λ u. IsReady manifest u) (sym whole) r.ready;
            ended = λ path q h e. subst (λ u. is_settled (mark_of u q) ≡ true) (sym whole) (elim (first-case p path ps h) [
              | inl same ↦
                  let here_is : Some z ≡ Some q = sym is ∙ ap (producer_of manifest.builds) same ∙ e in
                  let z_is : z ≡ q = cc in
                  r.stays q (subst (λ n. is_settled (mark_of t n) ≡ true) z_is a.ended)
              | inr there ↦ r.ended path q there e
            ]);
            keeps = λ y none. ap (λ u. mark_of u y) whole ∙ r.keeps y none ∙ a.keeps y (λ same. none (one (subst (λ n. EdgeSteps manifest.builds x n) (sym same) step))) (λ way. none (on step way));
            stays = λ y h. subst (λ u. is_settled (mark_of u y) ≡ true) (sym whole) (r.stays y (a.stays y h));
            depths = λ pool. ap (λ u. given_depth_of u pool) whole ∙ r.depths pool ∙ a.depths pool;
          }

  module _ (ranks : List ℕ) (ranked : IsRanked manifest.builds ranks) where
    pub ends : (fuel : ℕ) (s : State) (x : ℕ) (out : List ℕ) → producer_of manifest.builds out ≡ Some x → rank_at ranks x < fuel → IsReady manifest s → Ends s x
    ends zero s x out named below ready = absurd (omega (arith, below))
    ends (suc fuel) s x out named below ready =
        let build = build_at manifest.builds x in
        let a = ends-all x (λ t path q r input is. ends fuel t q path is (let f = ranked.falls x q (record { path = path; is_input = input; produced = is }) in omega (arith, f, below)) r) (inputs_of build) (λ path h. h) s ready in
        let t = run (machine manifest 1) s a.events in
        let free : IsFree manifest.builds t x = λ q step. a.ended step.path q step.is_input step.produced in
        let r = ends-by x out named t a.ready free (a.ready.marks x (producer_of-within out manifest.builds x named)) in
        let whole : run (machine manifest 1) s (a.events ++ r.events) ≡ run (machine manifest 1) t r.events = run-append (machine manifest 1) s a.events r.events in
        record {
          events = a.events ++ r.events;
          legal = legal-append s a.events r.events a.legal r.legal;
          ready = subst (λ u. IsReady manifest u) (sym whole) r.ready;
          ended = subst (λ u. is_settled (mark_of u x) ≡ true) (sym whole) r.ended;
          keeps = λ y other none. ap (λ u. mark_of u y) whole ∙ r.others y other ∙ a.keeps y none;
          stays = λ y h. subst (λ u. is_settled (mark_of u y) ≡ true) (sym whole) (elim (cases_eq y x) [
            | inl same ↦ ap (λ n. is_settled (mark_of (run (machine manifest 1) t r.events) n)) same ∙ r.ended
            | inr other ↦ ap is_settled (r.others y other) ∙ a.stays y h
          ]);
          depths = λ pool. ap (λ u. given_depth_of u pool) whole ∙ r.depths pool ∙ a.depths pool;
        }

    some-first : (s : State) (outs : List (List ℕ)) → holds_at (is_missing s) outs 0 ≡ true → (out : List ℕ) × Contains outs out
    some-first s [] h = absurd (true≢false (sym h))
    some-first s (o ∷ os) h = (o, Contains-get_or (o ∷ os) 0 o (omega arith))

    starts-alone : (s : State) (b : ℕ) → IsReady manifest s → b < length manifest.builds → (build_at manifest.builds b).phony ≡ false → mark_of s b ≡ mark.Wanted → StartsAlone manifest s b
    starts-alone s b ready within plain wants =
        let build = build_at manifest.builds b in
        let a = ends-all b (λ t path q r input is. ends (suc (rank_at ranks q)) t q path is (omega arith) r) (inputs_of build) (λ path h. h) s ready in
        let t = run (machine manifest 1) s a.events in
        let free : IsFree manifest.builds t b = λ q step. a.ended step.path q step.is_input step.produced in
        let wants_t : mark_of t b ≡ mark.Wanted = a.keeps b (ranked-acyclic manifest.builds ranks ranked b) ∙ wants in
        let gone : holds_at (is_missing t) (outputs_of build) 0 ≡ true = missing-by t build (mark_of t b) plain wants_t (a.ready.marks b within) in
        let o = some-first t (outputs_of build) gone in
        let named : producer_of manifest.builds o.0 ≡ Some b = producer-only manifest.builds o.0 b single o.1 in
        record {
          before = a.events;
          n = 0;
          e = Start o.0 0 (first_slot (pool_of manifest b));
          legal = legal-append s a.events ((0, Start o.0 0 (first_slot (pool_of manifest b))) ∷ []) a.legal (begin-accepted b o.0 named t a.ready plain wants_t gone free, tt);
          begins = ap (λ p. holds (λ n. n == b) p) named ∙ same-number b;
          apart = a.keeps;
        }

pub waiting-is-enough : WaitingIsEnough
waiting-is-enough graph s b is ready within plain wants = starts-alone graph.manifest is.single graph.ranks is.ranked s b ready within plain wants
