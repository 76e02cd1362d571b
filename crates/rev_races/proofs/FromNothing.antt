-- From nothing, an edge can start before each edge that it does not wait for.
use Rattle.std.proofs.Common.{◌≡◌, ℕ, ◌<◌, zero, suc, ◌==◌, Bool, true, false, cond, List, [], ◌∷◌, ◌++◌, map, length, filter, get_or, Contains, Option, Some, None, ◌⊎◌, inl, inr, refl, sym, ap, subst, append-nil, ◌∙◌, arith, true≢false, if◌then◌else◌}
use Rattle.std.specs.List.{list_any}
use Rattle.std.specs.Option.{option_map}
use Rattle.std.specs.FinMap.{get}
use Rattle.std.specs.Prelude.{slice_get}
use Rattle.std.specs.Ordering.{eq_by_cmp}
use Rattle.std.proofs.lemmas.List.Elements.{Contains-get_or, Contains-append_left, Contains-append_cases}
use Rattle.rev_manifest.specs.Manifest.{BuildValue}
use Rattle.rev_graph.specs.Graph.{GraphValue, IsGraph, build_at, no_build, outputs_of, inputs_of, producer_of, EdgeSteps, EdgeReaches, EdgeReaches.step as one, EdgeReaches.further as on}
use Rattle.rev_graph.proofs.ProducerLemmas.{producer-has, producer-only}
use Rattle.rev_graph.proofs.StepLemmas.{only, ranked-acyclic}
use Rattle.rev_cells.specs.declared.cell.Cell.{Cell}
use Rattle.rev_cells.specs.declared.cell.Cell.TheVariants as cell
use Rattle.rev_cells.specs.declared.mark.Mark.{Mark}
use Rattle.rev_cells.specs.declared.mark.Mark.TheVariants as mark
use Rattle.rev_cells.specs.declared.value.Value.{Value}
use Rattle.rev_cells.specs.declared.value.Value.TheVariants as value
use Rattle.rev_cells.specs.Keys.{cell_cmp}
use Rattle.rev_cells.specs.State.{State, mark_of, stamp_of, deps_of, is_halted, default_or, given_depth_of, mark_in, stamp_in, deps_in, depth_in, halted_in, job_in, slot_in}
use Rattle.rev_cells.proofs.EntryLemmas.{cells_total, cells_exact}
use Rattle.rev_causal.specs.Order.{Has}
use Rattle.rev_causal.specs.Store.{keys_of, set_cell, set_cells}
use Rattle.rev_causal.proofs.Store.{get-set_cell}
use Rattle.rev_dirty.specs.Inputs.{deps_record, first_deps, inputs, paths_in}
use Rattle.rev_dirty.specs.declared.reason.Reason.{Reason}
use Rattle.rev_dirty.specs.declared.reason.Reason.TheVariants as reason
use Rattle.rev_dirty.specs.Reasons.{holds_at, is_missing, is_reason, candidates, positions_in, reasons_of}
use Rattle.rev_plan.specs.Plan.{is_running_mark}
use Rattle.rev_events.specs.Edge.{Effect, write}
use Rattle.rev_events.specs.Machine.{refusal, effect, after}
use Rattle.rev_events.specs.Refusal.{is_settled}
use Rattle.rev_events.proofs.HeldEvents.{held-is-running}
use Rattle.rev_events.proofs.WriteLemmas.{unwritten}
use Rattle.rev_events.proofs.WrittenLemmas.{written-same}
use Rattle.rev_events.specs.Written.{written}
use Rattle.rev_races.specs.Laws.{CanEnd, CanEnd.settled, CanEnd.passes, CanEnd.runs, IsReady}
use Rattle.rev_waits.specs.Waits.{Waits}
use Rattle.rev_races.proofs.Waiting.{decide}
use Rattle.std.specs.Prelude.{is_none}
use Rattle.std.specs.FinMap.{empty, get-empty}
use Rattle.std.proofs.lemmas.Option.{slice_get_within, slice_get-get_or}
use Rattle.std.specs.Cmp.{eq_by_cmp_equiv}
use Rattle.rev_plan.specs.Least.{StepsBy, Reached.target, Wanted, Wanted.dirty, Through, Through.near, Through.beyond, WayBy, WayBy.one_step, WayBy.then_on}
use Rattle.rev_plan.specs.Plan.{edge_numbers, marks_of, is_dirty, is_own_reason, input_paths, plan_refusal}
use Rattle.rev_plan.specs.Planned.{IsMarkOf, IsMarkOf.wanted, IsMarkOf.through, IsMarkOf.idle, LeadsTo}
use Rattle.rev_plan.specs.Refusals.{StandsOnLine, Lacks}
use Rattle.rev_plan.proofs.RefusalLemmas.{refusals-are-first}
use Rattle.rev_events.specs.declared.event.Event.TheVariants.{Plan}
use Rattle.rev_events.specs.Held.{IsOpened}
use Rattle.rev_events.specs.Machine.{write_marks}
use Rattle.rev_events.specs.Refusal.{of_plan}
use Rattle.rev_events.proofs.PlannedState.{leads-to}
use Rattle.rev_races.specs.Laws.{HasSourcesAlone, CanStartBefore, ExactFromNothing, is_source_stamp}
use Rattle.rev_races.proofs.Waiting.{is-mark, starts-wait-in-lists, through-reached, line-whole}
use Rattle.rev_races.proofs.Alone.{waiting-is-enough}

-- THE OPENING
-- those of some paths that no edge makes
source_in : List BuildValue → List (List ℕ) → List (List ℕ)
source_in builds [] = []
source_in builds (p ∷ ps) = if is_none (producer_of builds p) then p ∷ source_in builds ps else source_in builds ps

pub sources_of : List BuildValue → List BuildValue → List (List ℕ)
sources_of all [] = []
sources_of all (b ∷ bs) = source_in all (inputs_of b) ++ sources_of all bs

first-case : (p path : List ℕ) (ps : List (List ℕ)) → Contains (p ∷ ps) path → (p ≡ path) ⊎ Contains ps path
first-case p path ps h = elim (Contains-append_cases (p ∷ []) ps path h) [ inl here ↦ inl (only p path here) | inr there ↦ inr there ]

has-left : (xs ys : List (List ℕ)) (x : List ℕ) → Has xs x → Has (xs ++ ys) x
has-left [] ys x h = absurd h
has-left (z ∷ xs) ys x (inl e) = inl e
has-left (z ∷ xs) ys x (inr h) = inr (has-left xs ys x h)

has-right : (xs ys : List (List ℕ)) (x : List ℕ) → Has ys x → Has (xs ++ ys) x
has-right [] ys x h = h
has-right (z ∷ xs) ys x h = inr (has-right xs ys x h)

has-cases : (xs ys : List (List ℕ)) (x : List ℕ) → Has (xs ++ ys) x → Has xs x ⊎ Has ys x
has-cases [] ys x h = inr h
has-cases (z ∷ xs) ys x (inl e) = inl (inl e)
has-cases (z ∷ xs) ys x (inr h) = elim (has-cases xs ys x h) [ inl a ↦ inl (inr a) | inr b ↦ inr b ]

has-source : (builds : List BuildValue) (ps : List (List ℕ)) (path : List ℕ) → Contains ps path → is_none (producer_of builds path) ≡ true → Has (source_in builds ps) path
unfolding source_in
has-source builds [] path (k, within, at) none = absurd (omega (arith, within))
has-source builds (p ∷ ps) path h none = by (is_none (producer_of builds p)) refl (first-case p path ps h) (λ k. has-source builds ps path k none)
  where
    by : (b : Bool) → is_none (producer_of builds p) ≡ b → (p ≡ path) ⊎ Contains ps path → (Contains ps path → Has (source_in builds ps) path) → Has (if b then p ∷ source_in builds ps else source_in builds ps) path
    by true e (inl same) rest = inl same
    by true e (inr there) rest = inr (rest there)
    by false e (inl same) rest = absurd (true≢false (sym none ∙ ap (λ q. is_none (producer_of builds q)) (sym same) ∙ e))
    by false e (inr there) rest = rest there

is-source : (builds : List BuildValue) (ps : List (List ℕ)) (path : List ℕ) → Has (source_in builds ps) path → is_none (producer_of builds path) ≡ true
unfolding source_in
is-source builds [] path h = absurd h
is-source builds (p ∷ ps) path h = by (is_none (producer_of builds p)) refl h (λ k. is-source builds ps path k)
  where
    by : (b : Bool) → is_none (producer_of builds p) ≡ b → Has (if b then p ∷ source_in builds ps else source_in builds ps) path → (Has (source_in builds ps) path → is_none (producer_of builds path) ≡ true) → is_none (producer_of builds path) ≡ true
    by true e (inl same) rest = ap (λ q. is_none (producer_of builds q)) (sym same) ∙ e
    by true e (inr k) rest = rest k
    by false e k rest = rest k

has-sources : (all bs : List BuildValue) (x : ℕ) (path : List ℕ) → Contains (inputs_of (build_at bs x)) path → is_none (producer_of all path) ≡ true → Has (sources_of all bs) path
unfolding sources_of
has-sources all [] x path (k, within, at) none = absurd (omega (arith, within))
has-sources all (b ∷ bs) zero path h none = has-left (source_in all (inputs_of b)) (sources_of all bs) path (has-source all (inputs_of b) path h none)
has-sources all (b ∷ bs) (suc x) path h none = has-right (source_in all (inputs_of b)) (sources_of all bs) path (has-sources all bs x path h none)

are-sources : (all bs : List BuildValue) (path : List ℕ) → Has (sources_of all bs) path → is_none (producer_of all path) ≡ true
unfolding sources_of
are-sources all [] path h = absurd h
are-sources all (b ∷ bs) path h = elim (has-cases (source_in all (inputs_of b)) (sources_of all bs) path h) [ inl k ↦ is-source all (inputs_of b) path k | inr k ↦ are-sources all bs path k ]

pub stamp_each : List (List ℕ) → Effect
stamp_each [] = []
stamp_each (p ∷ ps) = (cell.Stamp p, Some (value.Stamp 1)) ∷ stamp_each ps

stamped : (paths : List (List ℕ)) (s : State) (p : List ℕ) → (stamp_of s p ≡ 1) ⊎ Has paths p → stamp_of (set_cells cell_cmp s (stamp_each paths)) p ≡ 1
unfolding stamp_each
stamped [] s p (inl h) = h
stamped [] s p (inr h) = absurd h
stamped (q ∷ qs) s p h = stamped qs (set_cell cell_cmp s (cell.Stamp q) (Some (value.Stamp 1))) p (next h)
  where
    read : (b : Bool) → eq_by_cmp cell_cmp (cell.Stamp p) (cell.Stamp q) ≡ b → stamp_in (default_or (cell.Stamp p) (cond b (Some (value.Stamp 1)) (get s (cell.Stamp p)))) ≡ stamp_of (set_cell cell_cmp s (cell.Stamp q) (Some (value.Stamp 1))) p
    read b e = ap (λ o. stamp_in (default_or (cell.Stamp p) o)) (sym (get-set_cell cells_total cells_exact s (cell.Stamp q) (Some (value.Stamp 1)) (cell.Stamp p) ∙ ap (λ c. cond c (Some (value.Stamp 1)) (get s (cell.Stamp p))) e))

    either : (b : Bool) → eq_by_cmp cell_cmp (cell.Stamp p) (cell.Stamp q) ≡ b → stamp_of s p ≡ 1 → stamp_of (set_cell cell_cmp s (cell.Stamp q) (Some (value.Stamp 1))) p ≡ 1
    either true e h = sym (read true e)
    either false e h = sym (read false e) ∙ h

    next : (stamp_of s p ≡ 1) ⊎ Has (q ∷ qs) p → (stamp_of (set_cell cell_cmp s (cell.Stamp q) (Some (value.Stamp 1))) p ≡ 1) ⊎ Has qs p
    next (inl h) = inl (either (eq_by_cmp cell_cmp (cell.Stamp p) (cell.Stamp q)) refl h)
    next (inr (inl e)) = inl (sym (read true (ap (λ x. eq_by_cmp cell_cmp (cell.Stamp p) (cell.Stamp x)) e ∙ (eq_by_cmp_equiv cells_total).refl (cell.Stamp p))))
    next (inr (inr h)) = inr h

only-stamps : (paths : List (List ℕ)) (c : Cell) → Has (keys_of (stamp_each paths)) c → (path : List ℕ) × (cell.Stamp path ≡ c) × Has paths path
unfolding stamp_each
only-stamps [] c h = absurd h
only-stamps (p ∷ ps) c (inl e) = (p, e, inl refl)
only-stamps (p ∷ ps) c (inr h) = let r = only-stamps ps c h in (r.0, r.1, inr r.2)

abbrev pub opening_of : List BuildValue → State
opening_of builds = set_cells cell_cmp empty (stamp_each (sources_of builds builds))

pub opening-alone : (builds : List BuildValue) → HasSourcesAlone builds (opening_of builds)
opening-alone builds c other =
    unwritten empty (stamp_each (sources_of builds builds)) c
    (λ h. let r = only-stamps (sources_of builds builds) c h in
    true≢false (sym (are-sources builds builds r.0 r.2) ∙ ap (is_source_stamp builds) r.1 ∙ other))
    ∙ get-empty cell_cmp c

pub opening-stamped : (builds : List BuildValue) (x : ℕ) (path : List ℕ) → Contains (inputs_of (build_at builds x)) path → is_none (producer_of builds path) ≡ true → stamp_of (opening_of builds) path ≡ 1
opening-stamped builds x path h none = stamped (sources_of builds builds) empty path (inr (has-sources builds builds x path h none))

-- WHERE SOURCES ARE ALONE
is-none : {A : Type 0} (o : Option A) → is_none o ≡ true → o ≡ None
is-none None h = refl
is-none (Some x) h = absurd (true≢false (sym h))

contains-of : {A : Type 0} (xs : List A) (k : ℕ) (x : A) → slice_get xs k ≡ Some x → Contains xs x
contains-of xs k x h =
    let within = slice_get_within xs k x h in
    let both : Some (get_or xs k x) ≡ Some x = sym (slice_get-get_or xs k x within) ∙ h in
    let at : get_or xs k x ≡ x = cc in
    (k, within, at)

after-last : (s : State) (xs : Effect) (w : Cell × Option Value) → get (set_cells cell_cmp s (xs ++ w ∷ [])) w.0 ≡ w.1
after-last s [] w = get-set_cell cells_total cells_exact s w.0 w.1 w.0 ∙ ap (λ b. cond b w.1 (get s w.0)) ((eq_by_cmp_equiv cells_total).refl w.0)
after-last s (x ∷ xs) w = after-last (set_cell cell_cmp s x.0 x.1) xs w

first-missing : (s : State) (outs : List (List ℕ)) → 0 < length outs → ((o : List ℕ) → Contains outs o → stamp_of s o ≡ 0) → holds_at (is_missing s) outs 0 ≡ true
first-missing s [] some none = absurd (omega (arith, some))
first-missing s (o ∷ os) some none = ap (λ n. n == 0) (none o (Contains-get_or (o ∷ os) 0 o (omega arith)))

any-by : (s : State) (r : Reason → Bool) (ins : List ℕ) (outs : List (List ℕ)) → holds_at (is_missing s) outs 0 ≡ true → r (reason.Missing 0) ≡ true → list_any is_own_reason (filter r (candidates (positions_in outs) ins)) ≡ true
any-by s r ins [] h k = absurd (true≢false (sym h))
any-by s r ins (o ∷ os) h k = rw k refl

dirty-of : (builds : List BuildValue) (s : State) (x : ℕ) → (build_at builds x).phony ≡ false → holds_at (is_missing s) (outputs_of (build_at builds x)) 0 ≡ true → is_dirty builds s x ≡ true
unfolding reasons_of
dirty-of builds s x plain h =
    any-by s (is_reason builds s (build_at builds x)) (positions_in (inputs s (build_at builds x))) (outputs_of (build_at builds x)) h (rw plain h)

-- a plan writes no depth
no-depth : (edges : List ℕ) (pool : ℕ) → Has (map cell.Mark edges ++ cell.Halted ∷ []) (cell.Depth pool) → ⊥
no-depth [] pool (inl e) = cc
no-depth [] pool (inr h) = h
no-depth (x ∷ xs) pool (inl e) = cc
no-depth (x ∷ xs) pool (inr h) = no-depth xs pool h

module _ (graph : GraphValue) (is : IsGraph graph) where
  pub some-output : (x : ℕ) → x < length graph.manifest.builds → 0 < length (outputs_of (build_at graph.manifest.builds x))
  some-output x within = (is.kept.builds x no_build within).outputs.some

  module _ (s : State) (alone : HasSourcesAlone graph.manifest.builds s) where
    pub opened : IsOpened s
    opened = record {
      marks = λ x. ap (λ o. mark_in (default_or (cell.Mark x) o)) (alone (cell.Mark x) refl);
      jobs = λ j. ap (λ o. job_in (default_or (cell.Job j) o)) (alone (cell.Job j) refl);
      slots = λ p q. ap (λ o. slot_in (default_or (cell.Slot p q) o)) (alone (cell.Slot p q) refl);
      depths = λ p. ap (λ o. depth_in (default_or (cell.Depth p) o)) (alone (cell.Depth p) refl);
    }

    no-deps : (path : List ℕ) → deps_of s path ≡ None
    no-deps path = ap (λ o. deps_in (default_or (cell.Deps path) o)) (alone (cell.Deps path) refl)

    unmade : (path : List ℕ) (q : ℕ) → producer_of graph.manifest.builds path ≡ Some q → stamp_of s path ≡ 0
    unmade path q e = ap (λ o. stamp_in (default_or (cell.Stamp path) o)) (alone (cell.Stamp path) (ap is_none e))

    no-list : (build : BuildValue) → paths_in (deps_record s build) ≡ []
    no-list build = by build.keeps_deps (outputs_of build)
      where
        by : (b : Bool) (outs : List (List ℕ)) → paths_in (if b then first_deps s outs else None) ≡ []
        by true [] = refl
        by true (o ∷ os) = ap paths_in (no-deps o)
        by false outs = refl

    lines : (build : BuildValue) → inputs_of build ≡ input_paths s build
    lines build = sym ((λ i. inputs_of build ++ no-list build i) ∙ append-nil (inputs_of build)) ∙ line-whole s build

    edge-step : {x y : ℕ} → StepsBy (input_paths s) graph.manifest.builds x y → EdgeSteps graph.manifest.builds x y
    edge-step {x} {y} st = record { path = st.path; is_input = subst (λ ps. Contains ps st.path) (sym (lines (build_at graph.manifest.builds x))) st.is_path; produced = st.produced }

    edge-way : {x y : ℕ} → WayBy (input_paths s) graph.manifest.builds x y → EdgeReaches graph.manifest.builds x y
    edge-way (one_step st) = one (edge-step st)
    edge-way (then_on st way) = on (edge-step st) (edge-way way)

    pub missing-first : (t : State) → ((path : List ℕ) → stamp_of t path ≡ stamp_of s path) → (x : ℕ) → x < length graph.manifest.builds → holds_at (is_missing t) (outputs_of (build_at graph.manifest.builds x)) 0 ≡ true
    missing-first t same x within =
        first-missing t (outputs_of (build_at graph.manifest.builds x)) (some-output x within)
        (λ o h. same o ∙ unmade o x (producer-only graph.manifest.builds o x is.single h))

    -- where each source is there
    module _ (sourced : (x : ℕ) (path : List ℕ) → Contains (inputs_of (build_at graph.manifest.builds x)) path → is_none (producer_of graph.manifest.builds path) ≡ true → stamp_of s path ≡ 1)
        (a b : ℕ) (in_a : a < length graph.manifest.builds) (in_b : b < length graph.manifest.builds) (oa ob : List ℕ)
        (of_a : Contains (outputs_of (build_at graph.manifest.builds a)) oa) (of_b : Contains (outputs_of (build_at graph.manifest.builds b)) ob) where
      on-line : (k : ℕ) (path : List ℕ) → slice_get (oa ∷ ob ∷ []) k ≡ Some path → StandsOnLine graph.manifest.builds path
      on-line zero path h =
          let same : oa ≡ path = cc in
          record { edge = a; is_edge = in_a; stands_there = Contains-append_left (outputs_of (build_at graph.manifest.builds a)) (inputs_of (build_at graph.manifest.builds a) ++ (build_at graph.manifest.builds a).validations) path (subst (λ p. Contains (outputs_of (build_at graph.manifest.builds a)) p) same of_a) }
      on-line (suc zero) path h =
          let same : ob ≡ path = cc in
          record { edge = b; is_edge = in_b; stands_there = Contains-append_left (outputs_of (build_at graph.manifest.builds b)) (inputs_of (build_at graph.manifest.builds b) ++ (build_at graph.manifest.builds b).validations) path (subst (λ p. Contains (outputs_of (build_at graph.manifest.builds b)) p) same of_b) }
      on-line (suc (suc k)) path h =
          let no : None ≡ Some path = h in
          cc

      plan-none : plan_refusal graph.manifest s (oa ∷ ob ∷ []) ≡ None
      plan-none = (refusals-are-first.accepted graph.manifest s (oa ∷ ob ∷ [])).1 (record {
        nothing_runs = λ x r. true≢false (sym (ap is_running_mark r.mark_is) ∙ ap is_running_mark (opened.marks x));
        all_known = λ k u. u.on_no_line (on-line k u.path u.is_target);
        none_lacks = λ x l. lacks-none x l.position l.lacks;
        none_cyclic = λ x c. ranked-acyclic graph.manifest.builds graph.ranks is.ranked x (edge-way c.1);
      })
        where
          lacks-none : (x k : ℕ) → Lacks graph.manifest.builds s x k → ⊥
          lacks-none x k l = by (producer_of graph.manifest.builds l.path) refl
            where
              by : (o : Option ℕ) → producer_of graph.manifest.builds l.path ≡ o → ⊥
              by None e =
                  let there = sourced x l.path (contains-of (inputs_of (build_at graph.manifest.builds x)) k l.path l.is_input) (ap is_none e) in
                  let no = l.is_missing in
                  omega (arith, there, no)
              by (Some q) e = l.unproduced q (producer-has graph.manifest.builds l.path q e)

      pub plan-accepted : refusal graph.manifest 1 s (Plan (oa ∷ ob ∷ [])) ≡ None
      unfolding refusal
      plan-accepted = ap (λ o. option_map of_plan o) plan-none

      abbrev planned : State
      planned = after graph.manifest s (Plan (oa ∷ ob ∷ []))

      to : LeadsTo graph.manifest (oa ∷ ob ∷ []) s (after graph.manifest s (Plan (oa ∷ ob ∷ [])))
      to = leads-to graph.manifest s (oa ∷ ob ∷ []) 1 plan-accepted

      pub plan-depths : (pool : ℕ) → given_depth_of (after graph.manifest s (Plan (oa ∷ ob ∷ []))) pool ≡ given_depth_of s pool
      unfolding written
      plan-depths pool =
          ap (λ o. depth_in (default_or (cell.Depth pool) o))
          (unwritten s (effect graph.manifest s (Plan (oa ∷ ob ∷ []))) (cell.Depth pool)
          (λ h. no-depth (edge_numbers graph.manifest.builds) pool (subst (λ cs. Has cs (cell.Depth pool)) (written-same graph.manifest s (Plan (oa ∷ ob ∷ []))) h)))

      never-zero : (pool : ℕ) → given_depth_of (after graph.manifest s (Plan (oa ∷ ob ∷ []))) pool ≡ Some 0 → ⊥
      never-zero pool is =
          true≢false (sym (ap is_none (plan-depths pool ∙ opened.depths pool)) ∙ ap is_none is)

      plan-going : is_halted (after graph.manifest s (Plan (oa ∷ ob ∷ []))) ≡ false
      unfolding effect
      plan-going = ap (λ o. halted_in (default_or cell.Halted o)) (after-last s (write_marks (edge_numbers graph.manifest.builds) (marks_of graph.manifest s (oa ∷ ob ∷ []))) (write cell.Halted (value.Halted false)))

      can : (x : ℕ) (m : Mark) → x < length graph.manifest.builds → IsMarkOf graph.manifest.builds s (oa ∷ ob ∷ []) x m → CanEnd (after graph.manifest s (Plan (oa ∷ ob ∷ []))) (build_at graph.manifest.builds x) m
      can x m within (wanted w) = elim (decide (build_at graph.manifest.builds x).phony) [
        | inl phony ↦ passes phony refl
        | inr plain ↦ runs plain refl (missing-first (after graph.manifest s (Plan (oa ∷ ob ∷ []))) to.stamps x within)
      ]
      can x m within (through t) = elim (decide (build_at graph.manifest.builds x).phony) [
        | inl phony ↦ passes phony refl
        | inr plain ↦ absurd (not-both t (dirty (through-reached graph.manifest s (oa ∷ ob ∷ []) 1 plan-accepted t) (dirty-of graph.manifest.builds s x plain (missing-first s (λ path. refl) x within))))
      ]
        where
          not-both : {x : ℕ} → Through graph.manifest.builds s (oa ∷ ob ∷ []) x → Wanted graph.manifest.builds s (oa ∷ ob ∷ []) x → ⊥
          not-both (near r none st w) = none
          not-both (beyond r none st t) = none
      can x m within (idle p q) = settled refl

      pub ready : IsReady graph.manifest (after graph.manifest s (Plan (oa ∷ ob ∷ [])))
      ready = record {
        held = held-is-running.kept graph.manifest 1 s (Plan (oa ∷ ob ∷ [])) plan-accepted (held-is-running.opened graph.manifest s opened);
        going = plan-going;
        unlisted = λ path. ap paths_in (to.deps path ∙ no-deps path);
        roomy = never-zero;
        marks = λ x within. can x (mark_of (after graph.manifest s (Plan (oa ∷ ob ∷ []))) x) within (is-mark graph.manifest s (oa ∷ ob ∷ []) 1 plan-accepted x within);
      }

      must : (x : ℕ) (m : Mark) → IsMarkOf graph.manifest.builds s (oa ∷ ob ∷ []) x m → Wanted graph.manifest.builds s (oa ∷ ob ∷ []) x → m ≡ mark.Wanted
      must x m (wanted w) v = refl
      must x m (through (near r none st w)) v = absurd (none v)
      must x m (through (beyond r none st t)) v = absurd (none v)
      must x m (idle p q) v = absurd (p v)

      pub is-wanted : (x : ℕ) (out : List ℕ) → x < length graph.manifest.builds → Contains (oa ∷ ob ∷ []) out → Contains (outputs_of (build_at graph.manifest.builds x)) out → (build_at graph.manifest.builds x).phony ≡ false
          → mark_of (after graph.manifest s (Plan (oa ∷ ob ∷ []))) x ≡ mark.Wanted
      is-wanted x out within goal of_x plain =
          must x (mark_of (after graph.manifest s (Plan (oa ∷ ob ∷ []))) x) (is-mark graph.manifest s (oa ∷ ob ∷ []) 1 plan-accepted x within)
          (dirty (target out goal (producer-only graph.manifest.builds out x is.single of_x)) (dirty-of graph.manifest.builds s x plain (missing-first s (λ path. refl) x within)))

      starts-before : (build_at graph.manifest.builds a).phony ≡ false → (build_at graph.manifest.builds b).phony ≡ false → (Waits graph.manifest.builds b a → ⊥) → CanStartBefore graph.manifest b a
      starts-before plain_a plain_b free =
          let w = waiting-is-enough graph (after graph.manifest s (Plan (oa ∷ ob ∷ []))) b is ready in_b plain_b (is-wanted b ob in_b (Contains-get_or (oa ∷ ob ∷ []) 1 [] (omega arith)) of_b plain_b) in
          record {
            opening = s;
            from_nothing = alone;
            before = (0, Plan (oa ∷ ob ∷ [])) ∷ w.before;
            n = w.n;
            e = w.e;
            legal = (plan-accepted, w.legal);
            begins = w.begins;
            wanted = w.apart a free ∙ is-wanted a oa in_a (Contains-get_or (oa ∷ ob ∷ []) 0 [] (omega arith)) of_a plain_a;
          }

pub exact-from-nothing : ExactFromNothing
exact-from-nothing graph a b is in_a in_b plain_a plain_b = (
  λ free.
      starts-before graph is (opening_of graph.manifest.builds) (opening-alone graph.manifest.builds) (λ x path h none. opening-stamped graph.manifest.builds x path h none) a b in_a in_b
      (get_or (outputs_of (build_at graph.manifest.builds a)) 0 []) (get_or (outputs_of (build_at graph.manifest.builds b)) 0 [])
      (Contains-get_or (outputs_of (build_at graph.manifest.builds a)) 0 [] (some-output graph is a in_a)) (Contains-get_or (outputs_of (build_at graph.manifest.builds b)) 0 [] (some-output graph is b in_b)) plain_a plain_b free,
  λ c way.
      let h = (starts-wait-in-lists graph.manifest 1 c.opening c.before [] c.n c.e a b (opened graph is c.opening c.from_nothing) c.legal c.begins way).0 in
      true≢false (sym h ∙ ap is_settled c.wanted),
)
