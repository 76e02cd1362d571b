-- Two edges that wait for neither run at once, on two jobs, unless one pool of depth 1 holds both.
use Rattle.std.proofs.Common.{◌≡◌, ◌≢◌, ℕ, ◌<◌, zero, suc, ◌==◌, Bool, true, false, not, List, [], ◌∷◌, ◌++◌, length, get_or, Contains, Option, Some, None, inl, inr, refl, sym, ap, subst, ◌∙◌, arith, true≢false, nat_lt, if◌then◌else◌}
use Rattle.std.specs.Option.{option_map}
use Rattle.std.specs.Prelude.{is_none, slice_get, unwrap_or}
use Rattle.std.proofs.lemmas.Bool.{cases_eq, eq-eqb, eqb-false, eqb-true, ltb-true, lt-ltb}
use Rattle.std.proofs.lemmas.List.Elements.{Contains-get_or}
use Rattle.rev_manifest.specs.Manifest.{ManifestValue}
use Rattle.rev_graph.specs.Graph.{GraphValue, IsGraph, rank_at, build_at, outputs_of, inputs_of, producer_of, pool_of, slots_of, numbered_pool, depth_of, first_double, EdgeReaches, EdgeReaches.step as one, EdgeReaches.further as on}
use Rattle.rev_graph.proofs.ProducerLemmas.{producer-only}
use Rattle.rev_graph.proofs.StepLemmas.{ranked-acyclic}
use Rattle.rev_cells.specs.declared.mark.Mark.{Mark}
use Rattle.rev_cells.specs.declared.mark.Mark.TheVariants as mark
use Rattle.rev_cells.specs.State.{State, mark_of, stamp_of, job_of, slot_of, given_depth_of, is_halted}
use Rattle.rev_causal.specs.Machine.{Legal, run}
use Rattle.rev_causal.proofs.Runs.{run-append}
use Rattle.rev_dirty.specs.Inputs.{inputs, paths_in}
use Rattle.rev_dirty.specs.Reasons.{holds, holds_at, is_missing, reasons_of}
use Rattle.rev_plan.specs.Options.{first_some}
use Rattle.rev_plan.specs.Plan.{is_running_mark}
use Rattle.rev_events.specs.declared.event.Event.{Event}
use Rattle.rev_events.specs.declared.event.Event.TheVariants.{Plan, Start, Finish, Fail, Abort, Clean, Pass, Touch, Interrupt, Resize}
use Rattle.rev_events.specs.declared.refusal.Refusal.TheVariants.{NoSuchEdge, NoSuchJob, Phony, PoolSlot}
use Rattle.rev_events.specs.Edge.{first_blocking, slot_holder}
use Rattle.rev_events.specs.Held.{IsHeldExactly}
use Rattle.rev_events.specs.Kinds.{start_refusal}
use Rattle.rev_events.specs.Machine.{of_edge, refusal, after}
use Rattle.rev_events.specs.Pools.{present_pool, at_present}
use Rattle.rev_events.specs.Refusal.{is_settled, is_wanted_mark, refuse_if, phony_edge, halted, not_wanted, blocked, not_dirty, no_such_job, job_busy, pool_slot, slot_busy}
use Rattle.rev_events.proofs.HeldEvents.{held-is-running}
use Rattle.rev_events.proofs.TestLemmas.{first-none, none-mapped, not-refused, not-false}
use Rattle.rev_footprint.specs.Machine.{machine}
use Rattle.rev_history.specs.Timeline.{Numbered}
use Rattle.rev_waits.specs.Waits.{Waits}
use Rattle.rev_races.specs.Laws.{IsReady, HasSourcesAlone, first_slot}
use Rattle.rev_races.specs.Races.{starts}
use Rattle.rev_races.specs.AtOnce.{ShareOneSlot, MayOverlap, CanStartBeside, ExactAtOnce}
use Rattle.rev_races.proofs.Waiting.{IsFree, IsOrdered, is_idle, farther, settled-not-due, settled-not-running, running-not-due, running-not-idle, wanted-due, event-ordered, opened-ordered, due-settled, start-named}
use Rattle.rev_races.proofs.Alone.{missing-dirty, no-blocking, rests, missing-by, begin-accepted, Begun, begun, EndsAll, ends-all, ends, legal-append, first-same}
use Rattle.rev_races.proofs.FromNothing.{opening_of, opening-alone, opening-stamped, some-output, opened, plan-accepted, plan-depths, ready, is-wanted}

-- MORE JOBS
more-job : (job : ℕ) → no_such_job 1 job ≡ None → no_such_job 2 job ≡ None
more-job job h =
    let less = ltb-true job 1 (not-false (nat_lt job 1) (not-refused (not (nat_lt job 1)) NoSuchJob h)) in
    ap (λ b. refuse_if (not b) NoSuchJob) (lt-ltb job 2 (omega (arith, less)))

module _ (manifest : ManifestValue) where
  start-more : (edge job : ℕ) (slot : Option ℕ) (s : State) → start_refusal manifest 1 edge job slot s ≡ None → start_refusal manifest 2 edge job slot s ≡ None
  unfolding start_refusal
  start-more edge job slot s acc =
      let build = build_at manifest.builds edge in
      let t1 = first-none (phony_edge build) _ acc in
      let t2 = first-none (halted (is_halted s)) _ t1.1 in
      let t3 = first-none (not_wanted (mark_of s edge)) _ t2.1 in
      let t4 = first-none (blocked (first_blocking manifest.builds s (inputs s build))) _ t3.1 in
      let t5 = first-none (not_dirty (reasons_of manifest.builds s edge)) _ t4.1 in
      let t6 = first-none (no_such_job 1 job) _ t5.1 in
      let t7 = first-none (job_busy (job_of s job)) _ t6.1 in
      let t8 = first-none (pool_slot (present_pool manifest s edge) slot) _ t7.1 in
      let t9 = first-none (slot_busy (slot_holder s (pool_of manifest edge) slot)) _ t8.1 in
      let e1 = t1.0 in
      let e2 = t2.0 in
      let e3 = t3.0 in
      let e4 = t4.0 in
      let e5 = t5.0 in
      let e6 = more-job job t6.0 in
      let e7 = t7.0 in
      let e8 = t8.0 in
      let e9 = t9.0 in
      λ i. first_some (e1 i ∷ e2 i ∷ e3 i ∷ e4 i ∷ e5 i ∷ e6 i ∷ e7 i ∷ e8 i ∷ e9 i ∷ [])

  event-more : (s : State) (e : Event) → refusal manifest 1 s e ≡ None → refusal manifest 2 s e ≡ None
  unfolding refusal
  event-more s (Plan targets) acc = acc
  event-more s (Start out job slot) acc = by (producer_of manifest.builds out) acc
    where
      by : (o : Option ℕ) → of_edge (Some NoSuchEdge) (λ edge. start_refusal manifest 1 edge job slot s) o ≡ None → of_edge (Some NoSuchEdge) (λ edge. start_refusal manifest 2 edge job slot s) o ≡ None
      by None acc = acc
      by (Some edge) acc = start-more edge job slot s acc
  event-more s (Finish out stamps listing) acc = acc
  event-more s (Fail out stamps) acc = acc
  event-more s (Abort out stamps) acc = acc
  event-more s (Clean out) acc = acc
  event-more s (Pass out) acc = acc
  event-more s (Touch path stamp) acc = acc
  event-more s Interrupt acc = acc
  event-more s (Resize pool depth) acc = acc

  run-more : (s : State) (es : Numbered) → run (machine manifest 2) s es ≡ run (machine manifest 1) s es
  run-more s [] = refl
  run-more s (e ∷ es) = run-more (after manifest s e.1) es

  legal-more : (s : State) (es : Numbered) → Legal (machine manifest 1) s es → Legal (machine manifest 2) s es
  legal-more s [] h = tt
  legal-more s (e ∷ es) h = (event-more s e.1 h.0, legal-more (after manifest s e.1) es h.1)

  -- one event more
  legal-end : (s : State) (es : Numbered) (e : Event) → Legal (machine manifest 2) s es → refusal manifest 2 (run (machine manifest 2) s es) e ≡ None → Legal (machine manifest 2) s (es ++ (0, e) ∷ [])
  legal-end s [] e h ok = (ok, tt)
  legal-end s (x ∷ xs) e h ok = (h.0, legal-end (after manifest s x.1) xs e h.1 ok)

-- POOLS
no-pool : (own : ℕ × ℕ) → None ≡ Some own → ⊥
no-pool own h = cc

-- the pool of an edge has the depth that stands with its number, and that is not 0
pool-is : (manifest : ManifestValue) (x n d : ℕ) → pool_of manifest x ≡ Some (n, d) → (depth_of manifest n ≡ Some d) × (d ≡ 0 → ⊥)
pool-is manifest x n d h = named (build_at manifest.builds x).pool h
  where
    by : (k : ℕ) (pool : List ℕ × ℕ) (z : Bool) → (pool.1 == 0) ≡ z → slice_get manifest.pools k ≡ Some pool → if◌then◌else◌ {A = Option (ℕ × ℕ)} z None (Some (k, pool.1)) ≡ Some (n, d) → (depth_of manifest n ≡ Some d) × (d ≡ 0 → ⊥)
    by k pool true e at h = absurd (no-pool (n, d) h)
    by k pool false e at h =
        let k_is : k ≡ n = ap (λ (o : Option (ℕ × ℕ)). (unwrap_or {T = ℕ × ℕ} o (0, 0)).0) h in
        let d_is : pool.1 ≡ d = ap (λ (o : Option (ℕ × ℕ)). (unwrap_or {T = ℕ × ℕ} o (0, 0)).1) h in
        (subst (λ m. depth_of manifest m ≡ Some d) k_is (ap (option_map (λ (p : List ℕ × ℕ). p.1)) at ∙ ap Some d_is), λ none. eqb-false pool.1 0 e (d_is ∙ none))

    listed : (k : ℕ) (pool : Option (List ℕ × ℕ)) → slice_get manifest.pools k ≡ pool → slots_of k pool ≡ Some (n, d) → (depth_of manifest n ≡ Some d) × (d ≡ 0 → ⊥)
    listed k None at h = absurd (no-pool (n, d) h)
    listed k (Some pool) at h = by k pool (pool.1 == 0) refl at h

    named : (pool : Option ℕ) → numbered_pool manifest.pools pool ≡ Some (n, d) → (depth_of manifest n ≡ Some d) × (d ≡ 0 → ⊥)
    named None h = absurd (no-pool (n, d) h)
    named (Some k) h = listed k (slice_get manifest.pools k) refl h

-- the slot of an edge beside another that is in the first slot of its pool
abbrev slot-beside : Option (ℕ × ℕ) → Option (ℕ × ℕ) → Option ℕ
slot-beside None other = None
slot-beside (Some pool) None = Some 0
slot-beside (Some pool) (Some other) = if pool.0 == other.0 then Some 1 else Some 0

-- WHERE ONE EDGE RUNS, ON THE FIRST JOB AND IN THE FIRST SLOT
module _ (manifest : ManifestValue) (single : first_double manifest.builds ≡ None) (s t : State) (is_ready : IsReady manifest s) (a b : ℕ) (oa : List ℕ)
    (named : producer_of manifest.builds oa ≡ Some a) (left : Begun manifest single a oa named s t) (held : IsHeldExactly manifest t) where
  -- who runs is that edge
  record IsIt (x job : ℕ) (slot : Option ℕ) : Type 0 where
    edge : x ≡ a
    on_job : 0 ≡ job
    in_slot : first_slot (pool_of manifest a) ≡ slot

  job-in : Mark → ℕ
  job-in (mark.Running job slot seen) = job
  job-in _ = 0

  slot-in : Mark → Option ℕ
  slot-in (mark.Running job slot seen) = slot
  slot-in _ = None

  who : (x job : ℕ) (slot : Option ℕ) (seen : ℕ) → mark_of t x ≡ mark.Running job slot seen → IsIt x job slot
  unfolding job-in slot-in
  who x job slot seen is = elim (cases_eq x a) [
    | inl same ↦
        let both = sym left.runs ∙ ap (mark_of t) (sym same) ∙ is in
        record { edge = same; on_job = ap job-in both; in_slot = ap slot-in both }
    | inr other ↦
        let within = held.edges x job (record { slot = slot; seen = seen; is = is }) in
        absurd (true≢false (sym (ap is_running_mark (sym (left.others x other) ∙ is)) ∙ rests manifest single s is_ready x within))
  ]

  second-free : job_of t 1 ≡ None
  second-free = by (job_of t 1) refl
    where
      by : (o : Option ℕ) → job_of t 1 ≡ o → o ≡ None
      by None e = refl
      by (Some x) e =
          let r = (held.jobs 1 x).0 e in
          let it = who x 1 r.slot r.seen r.is in
          absurd (let no = it.on_job in omega (arith, no))

  -- each slot but that one
  slot-open : (p q : ℕ) → ((d : ℕ) → pool_of manifest a ≡ Some (p, d) → q ≡ 0 → ⊥) → slot_of t p q ≡ None
  slot-open p q apart = by (slot_of t p q) refl
    where
      by : (o : Option ℕ) → slot_of t p q ≡ o → o ≡ None
      by None e = refl
      by (Some x) e =
          let r = (held.slots p q x).0 e in
          let it = who x r.job (Some q) r.seen r.is in
          let own : pool_of manifest a ≡ Some (p, r.depth) = ap (pool_of manifest) (sym it.edge) ∙ r.of_pool in
          let place : Some 0 ≡ Some q = sym (ap first_slot own) ∙ it.in_slot in
          let zero_is : q ≡ 0 = cc in
          absurd (apart r.depth own zero_is)

  -- the other edge fits in a slot beside it
  module _ (depths : (pool : ℕ) → given_depth_of s pool ≡ None) (room : ShareOneSlot manifest b a → ⊥) where
    given : (pool : ℕ) → given_depth_of t pool ≡ None
    given pool = left.kept.depths pool ∙ depths pool

    abbrev Fits : Option (ℕ × ℕ) → Option ℕ → Type 0
    Fits pool slot =
        (pool_slot (at_present t pool) slot ≡ None)
        × (slot_busy (slot_holder t pool slot) ≡ None)

    below : (pool : ℕ × ℕ) (place : ℕ) → place < pool.1 → pool_slot (at_present t (Some pool)) (Some place) ≡ None
    below pool place less =
        ap (λ (o : Option ℕ). refuse_if (not (nat_lt place (unwrap_or o pool.1))) PoolSlot) (given pool.0)
        ∙ ap (λ b. refuse_if (not b) PoolSlot) (lt-ltb place pool.1 less)

    some-depth : (pool : ℕ × ℕ) → pool_of manifest b ≡ Some pool → 0 < pool.1
    some-depth pool own = let deep = (pool-is manifest b pool.0 pool.1 own).1 in by pool.1 deep
      where
        by : (d : ℕ) → (d ≡ 0 → ⊥) → 0 < d
        by zero h = absurd (h refl)
        by (suc d) h = omega (arith)

    more-depth : (pool other : ℕ × ℕ) → pool_of manifest b ≡ Some pool → pool_of manifest a ≡ Some other → pool.0 ≡ other.0 → 1 < pool.1
    more-depth pool other own_b own_a same = by pool.1 refl (some-depth pool own_b)
      where
        by : (d : ℕ) → pool.1 ≡ d → 0 < d → 1 < d
        by zero e h = absurd (omega (arith, h))
        by (suc zero) e h =
            let here_b : pool_of manifest b ≡ Some (pool.0, 1) = own_b ∙ ap (λ n. Some (pool.0, n)) e in
            let depth_b = (pool-is manifest b pool.0 1 here_b).0 in
            let depth_a = (pool-is manifest a other.0 other.1 own_a).0 in
            let both : Some 1 ≡ Some other.1 = sym depth_b ∙ ap (depth_of manifest) same ∙ depth_a in
            let one_is : 1 ≡ other.1 = ap (λ (o : Option ℕ). unwrap_or o 0) both in
            let here_a : pool_of manifest a ≡ Some (pool.0, 1) = own_a ∙ (λ i. Some (sym same i, sym one_is i)) in
            absurd (room (pool.0, here_b, here_a))
        by (suc (suc d)) e h = omega (arith)

    fits : (mine his : Option (ℕ × ℕ)) → pool_of manifest b ≡ mine → pool_of manifest a ≡ his → Fits mine (slot-beside mine his)
    fits None his own_b own_a = (refl, refl)
    fits (Some pool) None own_b own_a =
        (below pool 0 (some-depth pool own_b), ap slot_busy (slot-open pool.0 0 (λ d is none. no-pool (pool.0, d) (sym own_a ∙ is))))
    fits (Some pool) (Some other) own_b own_a = by (pool.0 == other.0) refl
      where
        by : (same : Bool) → (pool.0 == other.0) ≡ same → Fits (Some pool) (if same then Some 1 else Some 0)
        by true e =
            (below pool 1 (more-depth pool other own_b own_a (eqb-true pool.0 other.0 e)), ap slot_busy (slot-open pool.0 1 (λ d is none. omega (arith, none))))
        by false e =
            (below pool 0 (some-depth pool own_b), ap slot_busy (slot-open pool.0 0 (λ d is none. eqb-false pool.0 other.0 e (ap (λ (o : Option (ℕ × ℕ)). (unwrap_or {T = ℕ × ℕ} o (0, 0)).0) (sym is ∙ own_a)))))

    -- its start on the second job
    module _ (plain : (build_at manifest.builds b).phony ≡ false) (wants_a : mark_of s a ≡ mark.Wanted) (wants_b : mark_of s b ≡ mark.Wanted) (others : b ≢ a)
        (gone : holds_at (is_missing s) (outputs_of (build_at manifest.builds b)) 0 ≡ true) (free : IsFree manifest.builds s b) where
      free-now : IsFree manifest.builds t b
      free-now q step = elim (cases_eq q a) [
        | inl same ↦ absurd (true≢false (sym (free q step) ∙ ap (λ x. is_settled (mark_of s x)) same ∙ ap is_settled wants_a))
        | inr other ↦ ap is_settled (left.others q other) ∙ free q step
      ]

      gone-now : holds_at (is_missing t) (outputs_of (build_at manifest.builds b)) 0 ≡ true
      gone-now = first-same manifest single s t (outputs_of (build_at manifest.builds b)) (λ path h. left.kept.stamps path (λ k. let within = k.1 in omega (arith, within))) gone

      second-start : start_refusal manifest 2 b 1 (slot-beside (pool_of manifest b) (pool_of manifest a)) t ≡ None
      unfolding start_refusal
      second-start =
          let slot = slot-beside (pool_of manifest b) (pool_of manifest a) in
          let fit = fits (pool_of manifest b) (pool_of manifest a) refl refl in
          let e1 : phony_edge (build_at manifest.builds b) ≡ None = ap (λ b. refuse_if b Phony) plain in
          let e2 : halted (is_halted t) ≡ None = ap halted (left.kept.halts ∙ is_ready.going) in
          let e3 : not_wanted (mark_of t b) ≡ None = ap not_wanted (left.others b others ∙ wants_b) in
          let e4 : blocked (first_blocking manifest.builds t (inputs t (build_at manifest.builds b))) ≡ None =
          ap blocked (no-blocking manifest single t (λ path. ap paths_in (left.deps path) ∙ is_ready.unlisted path) b free-now) in
          let e5 : not_dirty (reasons_of manifest.builds t b) ≡ None = missing-dirty manifest.builds t b plain gone-now in
          let e6 : no_such_job 2 1 ≡ None = refl in
          let e7 : job_busy (job_of t 1) ≡ None = ap job_busy second-free in
          let e8 : pool_slot (present_pool manifest t b) slot ≡ None = fit.0 in
          let e9 : slot_busy (slot_holder t (pool_of manifest b) slot) ≡ None = fit.1 in
          λ i. first_some (e1 i ∷ e2 i ∷ e3 i ∷ e4 i ∷ e5 i ∷ e6 i ∷ e7 i ∷ e8 i ∷ e9 i ∷ [])

      second-accepted : (ob : List ℕ) → producer_of manifest.builds ob ≡ Some b → refusal manifest 2 t (Start ob 1 (slot-beside (pool_of manifest b) (pool_of manifest a))) ≡ None
      unfolding refusal
      second-accepted ob is = subst (λ o. of_edge (Some NoSuchEdge) (λ edge. start_refusal manifest 2 edge 1 (slot-beside (pool_of manifest b) (pool_of manifest a)) t) o ≡ None) (sym is) second-start

-- BOTH ARE STILL TO RUN, AND NEITHER WAITS ANY MORE
module _ (graph : GraphValue) (is : IsGraph graph) where
  record BothNext (s : State) (b a : ℕ) : Type 0 where
    events : Numbered
    legal : Legal (machine graph.manifest 1) s events
    ready_there : IsReady graph.manifest (run (machine graph.manifest 1) s events)
    depths : (pool : ℕ) → given_depth_of (run (machine graph.manifest 1) s events) pool ≡ given_depth_of s pool
    wants_a : mark_of (run (machine graph.manifest 1) s events) a ≡ mark.Wanted
    wants_b : mark_of (run (machine graph.manifest 1) s events) b ≡ mark.Wanted
    free_a : IsFree graph.manifest.builds (run (machine graph.manifest 1) s events) a
    free_b : IsFree graph.manifest.builds (run (machine graph.manifest 1) s events) b

  all-end : (x : ℕ) (s : State) → IsReady graph.manifest s → EndsAll graph.manifest is.single s x (inputs_of (build_at graph.manifest.builds x))
  all-end x s is_ready =
      ends-all graph.manifest is.single x
      (λ t path q r input named. ends graph.manifest is.single graph.ranks is.ranked (suc (rank_at graph.ranks q)) t q path named (omega arith) r)
      (inputs_of (build_at graph.manifest.builds x)) (λ path h. h) s is_ready

  both-next : (s : State) (b a : ℕ) → IsReady graph.manifest s → mark_of s a ≡ mark.Wanted → mark_of s b ≡ mark.Wanted → (Waits graph.manifest.builds b a → ⊥) → (Waits graph.manifest.builds a b → ⊥) → BothNext s b a
  both-next s b a is_ready wa wb forth back =
      let m = machine graph.manifest 1 in
      let p = all-end a s is_ready in
      let t = run m s p.events in
      let q = all-end b t p.ready in
      let whole : run m s (p.events ++ q.events) ≡ run m t q.events = run-append m s p.events q.events in
      record {
        events = p.events ++ q.events;
        legal = legal-append graph.manifest is.single s p.events q.events p.legal q.legal;
        ready_there = subst (λ u. IsReady graph.manifest u) (sym whole) q.ready;
        depths = λ pool. ap (λ u. given_depth_of u pool) whole ∙ q.depths pool ∙ p.depths pool;
        wants_a = ap (λ u. mark_of u a) whole ∙ q.keeps a forth ∙ p.keeps a (ranked-acyclic graph.manifest.builds graph.ranks is.ranked a) ∙ wa;
        wants_b = ap (λ u. mark_of u b) whole ∙ q.keeps b (ranked-acyclic graph.manifest.builds graph.ranks is.ranked b) ∙ p.keeps b back ∙ wb;
        free_a = λ x step. subst (λ u. is_settled (mark_of u x) ≡ true) (sym whole) (q.stays x (p.ended step.path x step.is_input step.produced));
        free_b = λ x step. subst (λ u. is_settled (mark_of u x) ≡ true) (sym whole) (q.ended step.path x step.is_input step.produced);
      }

  -- FROM A PLAN
  module _ (s : State) (alone : HasSourcesAlone graph.manifest.builds s)
      (sourced : (x : ℕ) (path : List ℕ) → Contains (inputs_of (build_at graph.manifest.builds x)) path → is_none (producer_of graph.manifest.builds path) ≡ true → stamp_of s path ≡ 1)
      (a b : ℕ) (in_a : a < length graph.manifest.builds) (in_b : b < length graph.manifest.builds) (oa ob : List ℕ)
      (of_a : Contains (outputs_of (build_at graph.manifest.builds a)) oa) (of_b : Contains (outputs_of (build_at graph.manifest.builds b)) ob)
      (plain_a : (build_at graph.manifest.builds a).phony ≡ false) (plain_b : (build_at graph.manifest.builds b).phony ≡ false) where
    starts-beside : MayOverlap graph.manifest b a → CanStartBeside graph.manifest b a
    starts-beside may =
        let manifest = graph.manifest in
        let m = machine manifest 2 in
        let plan = Plan (oa ∷ ob ∷ []) in
        let p = after manifest s plan in
        let planned : refusal manifest 1 s plan ≡ None = plan-accepted graph is s alone sourced a b in_a in_b oa ob of_a of_b in
        let r = both-next p b a (ready graph is s alone sourced a b in_a in_b oa ob of_a of_b)
        (is-wanted graph is s alone sourced a b in_a in_b oa ob of_a of_b a oa in_a (Contains-get_or (oa ∷ ob ∷ []) 0 [] (omega arith)) of_a plain_a)
        (is-wanted graph is s alone sourced a b in_a in_b oa ob of_a of_b b ob in_b (Contains-get_or (oa ∷ ob ∷ []) 1 [] (omega arith)) of_b plain_b) may.forth may.back in
        let t = run (machine manifest 1) p r.events in
        let named_a : producer_of manifest.builds oa ≡ Some a = producer-only manifest.builds oa a is.single of_a in
        let named_b : producer_of manifest.builds ob ≡ Some b = producer-only manifest.builds ob b is.single of_b in
        let gone_a = missing-by manifest is.single t (build_at manifest.builds a) (mark_of t a) plain_a r.wants_a (r.ready_there.marks a in_a) in
        let gone_b = missing-by manifest is.single t (build_at manifest.builds b) (mark_of t b) plain_b r.wants_b (r.ready_there.marks b in_b) in
        let one = Start oa 0 (first_slot (pool_of manifest a)) in
        let two = Start ob 1 (slot-beside (pool_of manifest b) (pool_of manifest a)) in
        let one_ok : refusal manifest 1 t one ≡ None = begin-accepted manifest is.single a oa named_a t r.ready_there plain_a r.wants_a gone_a r.free_a in
        let u = after manifest t one in
        let left = begun manifest is.single a oa named_a t in
        let depths : (pool : ℕ) → given_depth_of t pool ≡ None = λ pool. r.depths pool ∙ plan-depths graph is s alone sourced a b in_a in_b oa ob of_a of_b pool ∙ (opened graph is s alone).depths pool in
        let two_ok : refusal manifest 2 u two ≡ None =
        second-accepted manifest is.single t u r.ready_there a b oa named_a left (held-is-running.kept manifest 1 t one one_ok r.ready_there.held) depths may.room plain_b r.wants_a r.wants_b may.others gone_b r.free_b ob named_b in
        let same : run m p r.events ≡ t = run-more manifest p r.events in
        let here : run m p (r.events ++ (0, one) ∷ []) ≡ u = run-append m p r.events ((0, one) ∷ []) ∙ ap (λ v. after manifest v one) same in
        let first : Legal m p (r.events ++ (0, one) ∷ []) =
        legal-end manifest p r.events one (legal-more manifest p r.events r.legal) (subst (λ v. refusal manifest 2 v one ≡ None) (sym same) (event-more manifest t one one_ok)) in
        record {
          opening = s;
          from_nothing = alone;
          before = (0, plan) ∷ (r.events ++ (0, one) ∷ []);
          n = 0;
          e = two;
          legal = (event-more manifest s plan planned, legal-end manifest p (r.events ++ (0, one) ∷ []) two first (subst (λ v. refusal manifest 2 v two ≡ None) (sym here) two_ok));
          begins = ap (λ o. holds (λ n. n == b) o) named_b ∙ eq-eqb b b refl;
          runs = ap (λ v. is_running_mark (mark_of v a)) here ∙ ap is_running_mark left.runs;
          depths = λ pool. ap (λ v. given_depth_of v pool) here ∙ left.kept.depths pool ∙ depths pool;
        }

-- WHERE ONE STARTS WHILE THE OTHER RUNS
module _ (manifest : ManifestValue) where
  -- where the last event of a list begins
  record Stands (s : State) (e : Event) : Type 0 where
    ordered : IsOrdered manifest.builds s
    held : IsHeldExactly manifest s
    accepted : refusal manifest 2 s e ≡ None

  stands : (s : State) (before : Numbered) (n : ℕ) (e : Event) → IsOrdered manifest.builds s → IsHeldExactly manifest s → Legal (machine manifest 2) s (before ++ (n, e) ∷ []) → Stands (run (machine manifest 2) s before) e
  stands s [] n e ordered held legal = record { ordered = ordered; held = held; accepted = legal.0 }
  stands s (x ∷ before) n e ordered held legal =
      stands (after manifest s x.1) before n e (event-ordered manifest 2 s x.1 legal.0 ordered) (held-is-running.kept manifest 2 s x.1 legal.0 held) legal.1

  -- what a running edge waits for is settled
  runs-settled : (s : State) (a b : ℕ) → IsOrdered manifest.builds s → is_running_mark (mark_of s a) ≡ true → EdgeReaches manifest.builds a b → is_settled (mark_of s b) ≡ true
  runs-settled s a b ordered busy way = along way
    where
      awake : is_idle (mark_of s a) ≡ false
      awake = running-not-idle (mark_of s a) busy

      free : IsFree manifest.builds s a
      free = ordered a (a, awake, inl refl) (running-not-due (mark_of s a) busy)

      behind : (p : ℕ) → EdgeReaches manifest.builds a p → is_settled (mark_of s p) ≡ true → (q : ℕ) → EdgeReaches manifest.builds p q → is_settled (mark_of s q) ≡ true
      behind p front h q (one step) = ordered p (a, awake, inr front) (settled-not-due (mark_of s p) h) q step
      behind p front h q (on {middle = m} step rest) =
          behind m (farther front step) (ordered p (a, awake, inr front) (settled-not-due (mark_of s p) h) m step) q rest

      along : EdgeReaches manifest.builds a b → is_settled (mark_of s b) ≡ true
      along (one step) = free b step
      along (on {middle = m} step rest) = behind m (one step) (free m step) b rest

  -- the slot that an accepted start takes
  record Takes (s : State) (b : ℕ) : Type 0 where
    slot : Option ℕ
    fits : pool_slot (present_pool manifest s b) slot ≡ None
    free : slot_busy (slot_holder s (pool_of manifest b) slot) ≡ None

  start-takes : (s : State) (edge job : ℕ) (slot : Option ℕ) → start_refusal manifest 2 edge job slot s ≡ None → Takes s edge
  unfolding start_refusal
  start-takes s edge job slot acc =
      let build = build_at manifest.builds edge in
      let t1 = first-none (phony_edge build) _ acc in
      let t2 = first-none (halted (is_halted s)) _ t1.1 in
      let t3 = first-none (not_wanted (mark_of s edge)) _ t2.1 in
      let t4 = first-none (blocked (first_blocking manifest.builds s (inputs s build))) _ t3.1 in
      let t5 = first-none (not_dirty (reasons_of manifest.builds s edge)) _ t4.1 in
      let t6 = first-none (no_such_job 2 job) _ t5.1 in
      let t7 = first-none (job_busy (job_of s job)) _ t6.1 in
      let t8 = first-none (pool_slot (present_pool manifest s edge) slot) _ t7.1 in
      let t9 = first-none (slot_busy (slot_holder s (pool_of manifest edge) slot)) _ t8.1 in
      record { slot = slot; fits = t8.0; free = t9.0 }

  takes : (s : State) (e : Event) (b : ℕ) → refusal manifest 2 s e ≡ None → starts manifest b e ≡ true → Takes s b
  unfolding refusal
  takes s (Plan targets) b acc h = absurd (true≢false (sym h))
  takes s (Start out job slot) b acc h = by (producer_of manifest.builds out) acc h
    where
      by : (o : Option ℕ) → of_edge (Some NoSuchEdge) (λ edge. start_refusal manifest 2 edge job slot s) o ≡ None → holds (λ n. n == b) o ≡ true → Takes s b
      by None acc h = absurd (true≢false (sym h))
      by (Some edge) acc h = subst (λ x. Takes s x) (eqb-true edge b h) (start-takes s edge job slot acc)
  takes s (Finish out stamps listing) b acc h = absurd (true≢false (sym h))
  takes s (Fail out stamps) b acc h = absurd (true≢false (sym h))
  takes s (Abort out stamps) b acc h = absurd (true≢false (sym h))
  takes s (Clean out) b acc h = absurd (true≢false (sym h))
  takes s (Pass out) b acc h = absurd (true≢false (sym h))
  takes s (Touch path stamp) b acc h = absurd (true≢false (sym h))
  takes s Interrupt b acc h = absurd (true≢false (sym h))
  takes s (Resize pool depth) b acc h = absurd (true≢false (sym h))

  -- a slot of a pool of depth 1 is the first one
  only-slot : (s : State) (pool : ℕ) (slot : Option ℕ) → given_depth_of s pool ≡ None → pool_slot (at_present s (Some (pool, 1))) slot ≡ None → slot ≡ Some 0
  only-slot s pool None given fits =
      let no : Some PoolSlot ≡ None = fits in
      cc
  only-slot s pool (Some place) given fits =
      let less = ltb-true place 1 (not-false (nat_lt place 1) (not-refused (not (nat_lt place 1)) PoolSlot (ap (λ (o : Option ℕ). refuse_if (not (nat_lt place (unwrap_or o 1))) PoolSlot) (sym given) ∙ fits))) in
      ap Some (omega (arith, less))

  -- two edges of one such pool do not run at once
  no-room : (s : State) (a b : ℕ) → IsHeldExactly manifest s → ((pool : ℕ) → given_depth_of s pool ≡ None) → Takes s b → is_running_mark (mark_of s a) ≡ true → ShareOneSlot manifest b a → ⊥
  no-room s a b held depths took busy (pool, own_b, own_a) = by (mark_of s a) refl busy
    where
      mine : took.slot ≡ Some 0
      mine = only-slot s pool took.slot (depths pool) (subst (λ o. pool_slot (at_present s o) took.slot ≡ None) own_b took.fits)

      none-holds : slot_of s pool 0 ≡ None
      none-holds =
          none-mapped _ (slot_of s pool 0)
          (subst (λ o. slot_busy (slot_holder s (Some (pool, 1)) o) ≡ None) mine (subst (λ o. slot_busy (slot_holder s o took.slot) ≡ None) own_b took.free))

      by : (m : Mark) → mark_of s a ≡ m → is_running_mark m ≡ true → ⊥
      by (mark.Running job slot seen) e h =
          let his : slot ≡ Some 0 = only-slot s pool slot (depths pool) (subst (λ o. pool_slot (at_present s o) slot ≡ None) own_a (held.placed a job slot seen e)) in
          let holder : slot_of s pool 0 ≡ Some a = (held.slots pool 0 a).1 (record { job = job; seen = seen; depth = 1; is = e ∙ ap (λ (o : Option ℕ). mark.Running job o seen) his; of_pool = own_a }) in
          let no : None ≡ Some a = sym none-holds ∙ holder in
          cc
      by (mark.Done changed) e h = true≢false (sym h)
      by mark.Idle e h = true≢false (sym h)
      by mark.Wanted e h = true≢false (sym h)
      by mark.Through e h = true≢false (sym h)
      by mark.Clean e h = true≢false (sym h)
      by mark.Failed e h = true≢false (sym h)
      by mark.Stopped e h = true≢false (sym h)

  wanted-rests : (m : Mark) → is_wanted_mark m ≡ true → is_running_mark m ≡ false
  wanted-rests mark.Wanted h = refl
  wanted-rests mark.Idle h = refl
  wanted-rests mark.Through h = refl
  wanted-rests (mark.Running job slot seen) h = sym h
  wanted-rests (mark.Done changed) h = refl
  wanted-rests mark.Clean h = refl
  wanted-rests mark.Failed h = refl
  wanted-rests mark.Stopped h = refl

overlaps : (graph : GraphValue) (b a : ℕ) → IsGraph graph → CanStartBeside graph.manifest b a → MayOverlap graph.manifest b a
overlaps graph b a is c =
    let manifest = graph.manifest in
    let s = run (machine manifest 2) c.opening c.before in
    let start = opened graph is c.opening c.from_nothing in
    let at = stands manifest c.opening c.before c.n c.e (opened-ordered manifest 2 c.opening start) (held-is-running.opened manifest c.opening start) c.legal in
    let asks = start-named manifest 2 s c.e b at.accepted c.begins in
    record {
      others = λ same. true≢false (sym c.runs ∙ wanted-rests manifest (mark_of s a) (subst (λ x. is_wanted_mark (mark_of s x) ≡ true) same asks.0));
      forth = λ way. true≢false (sym c.runs ∙ settled-not-running (mark_of s a) (due-settled manifest 2 s b at.ordered asks.0 asks.1 a way));
      back = λ way. true≢false (sym (wanted-due (mark_of s b) asks.0) ∙ settled-not-due (mark_of s b) (runs-settled manifest s a b at.ordered c.runs way));
      room = no-room manifest s a b at.held c.depths (takes manifest s c.e b at.accepted c.begins) c.runs;
    }

pub exact-at-once : ExactAtOnce
exact-at-once graph a b is in_a in_b plain_a plain_b = (
  λ may.
      starts-beside graph is (opening_of graph.manifest.builds) (opening-alone graph.manifest.builds) (λ x path h none. opening-stamped graph.manifest.builds x path h none) a b in_a in_b
      (get_or (outputs_of (build_at graph.manifest.builds a)) 0 []) (get_or (outputs_of (build_at graph.manifest.builds b)) 0 [])
      (Contains-get_or (outputs_of (build_at graph.manifest.builds a)) 0 [] (some-output graph is a in_a)) (Contains-get_or (outputs_of (build_at graph.manifest.builds b)) 0 [] (some-output graph is b in_b))
      plain_a plain_b may,
  λ c. overlaps graph b a is c,
)
