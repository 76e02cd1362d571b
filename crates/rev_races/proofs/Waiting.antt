-- Where an edge starts, what it waits for is settled, and stays so until the next plan.
use Rattle.std.proofs.Common.{◌≡◌, ℕ, ◌<◌, ◌≤◌, zero, suc, ◌==◌, Bool, true, false, cond, not, ◌||◌, List, [], ◌∷◌, ◌++◌, map, length, Contains, Option, Some, None, ◌⊎◌, inl, inr, refl, sym, ap, subst, ◌∙◌, arith, true≢false, nat_lt, if◌then◌else◌}
use Rattle.std.specs.List.{AllByRecursion, position, position_or_len}
use Rattle.std.proofs.lemmas.Bool.{cases_eq, cases_lt, eqb-true}
use Rattle.std.proofs.lemmas.List.Elements.{Contains-append_left}
use Rattle.rev_manifest.specs.Manifest.{BuildValue, ManifestValue}
use Rattle.rev_graph.specs.Graph.{build_at, no_build, outputs_of, inputs_of, producer_of, pool_of, EdgeSteps, EdgeReaches, EdgeReaches.step as one, EdgeReaches.further as on}
use Rattle.rev_cells.specs.declared.cell.Cell.{Cell}
use Rattle.rev_cells.specs.declared.cell.Cell.TheVariants as cell
use Rattle.rev_cells.specs.declared.mark.Mark.{Mark}
use Rattle.rev_cells.specs.declared.mark.Mark.TheVariants as mark
use Rattle.rev_cells.specs.State.{State, mark_of, default_or, mark_in, is_halted}
use Rattle.rev_causal.specs.Order.{Has}
use Rattle.rev_causal.specs.Machine.{Legal, run}
use Rattle.std.proofs.lemmas.Bool.{ltb-false}
use Rattle.std.proofs.lemmas.List.{length-map}
use Rattle.std.proofs.lemmas.List.Sums.{fails_before_first}
use Rattle.std.proofs.Math.ListN.{get_or-map}
use Rattle.rev_graph.specs.Graph.{input_producers}
use Rattle.rev_events.specs.declared.refusal.Refusal.TheVariants.{NoSuchEdge}
use Rattle.rev_events.specs.declared.event.Listing.{Listing}
use Rattle.rev_events.specs.Edge.{is_waiting, producers_of_inputs}
use Rattle.rev_events.proofs.EdgeLemmas.{producers-are, blocking-is}
use Rattle.std.specs.Prelude.{slice_get}
use Rattle.std.proofs.lemmas.Option.{slice_get-get_or}
use Rattle.std.proofs.lemmas.List.FromFn.{get_or-map-range_with_len, length-map-range_with_len}
use Rattle.rev_graph.proofs.GraphLemmas.{producer_of-within}
use Rattle.rev_plan.specs.Plan.{edge_numbers}
use Rattle.rev_plan.specs.Least.{StepsBy, Reached, Reached.needed, Wanted, Wanted.dirty, Wanted.behind, Through, Through.near, Through.beyond}
use Rattle.rev_plan.specs.Planned.{IsMarkOf, IsMarkOf.wanted, IsMarkOf.through, IsMarkOf.idle}
use Rattle.rev_plan.proofs.LeastLemmas.{input-need}
use Rattle.rev_plan.proofs.PlannedLemmas.{marks-are-of-the-sets}
use Rattle.rev_events.proofs.PlannedState.{leads-to}
use Rattle.rev_events.specs.declared.refusal.Refusal.{Refusal}
use Rattle.rev_races.specs.Laws.{StartsWait, StartsWaitInLists, until_plan}
use Rattle.rev_dirty.specs.Inputs.{InputValue, an, inputs, deps_record, paths_in, paths_of}
use Rattle.rev_dirty.specs.declared.input.InputKind.{InputKind}
use Rattle.rev_dirty.specs.declared.input.InputKind.TheVariants.{Listed, OnLine, OrderOnly}
use Rattle.rev_dirty.specs.Reasons.{holds}
use Rattle.rev_dirty.specs.Seen.{stamp_cells, built_cells, first_deps_cell, deps_cells}
use Rattle.rev_plan.specs.Plan.{is_running_mark, input_paths, targets_or}
use Rattle.rev_events.specs.declared.event.Event.{Event}
use Rattle.rev_events.specs.declared.event.Event.TheVariants.{Plan, Start, Finish, Fail, Abort, Clean, Pass, Touch, Interrupt, Resize}
use Rattle.rev_events.specs.Edge.{first_blocking, slot_cells, held_cells}
use Rattle.rev_events.specs.Held.{IsOpened}
use Rattle.rev_events.specs.Kinds.{start_refusal, clean_refusal, pass_refusal, finish_refusal, fail_refusal, abort_refusal}
use Rattle.rev_events.specs.Machine.{of_edge, refusal, effect, after}
use Rattle.rev_events.specs.Refusal.{is_settled, is_wanted_mark, is_through_mark, phony_edge, not_phony, halted, not_halted, not_wanted, not_marked, not_running, blocked}
use Rattle.rev_events.specs.Written.{start_writes, mark_writes, finish_writes, end_writes, written}
use Rattle.rev_events.proofs.TestLemmas.{first-none, none-mapped, not-refused}
use Rattle.rev_events.proofs.WriteLemmas.{unwritten}
use Rattle.rev_events.proofs.WrittenLemmas.{written-same}
use Rattle.rev_footprint.specs.Machine.{machine}
use Rattle.rev_history.specs.Timeline.{Numbered, machine_at}
use Rattle.rev_waits.specs.Waits.{Waits}
use Rattle.rev_races.specs.Races.{starts, is_plan}

-- MARKS
-- the edge waits to be run or passed
abbrev pub is_due : Mark → Bool
is_due m = is_wanted_mark m || is_through_mark m

abbrev pub is_idle : Mark → Bool
is_idle mark.Idle = true
is_idle _ = false

pub settled-not-due : (m : Mark) → is_settled m ≡ true → is_due m ≡ false
settled-not-due (mark.Running job slot seen) h = refl
settled-not-due (mark.Done changed) h = refl
settled-not-due mark.Idle h = refl
settled-not-due mark.Wanted h = sym h
settled-not-due mark.Through h = sym h
settled-not-due mark.Clean h = refl
settled-not-due mark.Failed h = refl
settled-not-due mark.Stopped h = refl

pub settled-not-running : (m : Mark) → is_settled m ≡ true → is_running_mark m ≡ false
settled-not-running (mark.Running job slot seen) h = sym h
settled-not-running (mark.Done changed) h = refl
settled-not-running mark.Idle h = refl
settled-not-running mark.Wanted h = refl
settled-not-running mark.Through h = refl
settled-not-running mark.Clean h = refl
settled-not-running mark.Failed h = refl
settled-not-running mark.Stopped h = refl

pub running-not-due : (m : Mark) → is_running_mark m ≡ true → is_due m ≡ false
running-not-due (mark.Running job slot seen) h = refl
running-not-due (mark.Done changed) h = refl
running-not-due mark.Idle h = refl
running-not-due mark.Wanted h = sym h
running-not-due mark.Through h = sym h
running-not-due mark.Clean h = refl
running-not-due mark.Failed h = refl
running-not-due mark.Stopped h = refl

pub running-not-idle : (m : Mark) → is_running_mark m ≡ true → is_idle m ≡ false
running-not-idle (mark.Running job slot seen) h = refl
running-not-idle (mark.Done changed) h = refl
running-not-idle mark.Idle h = sym h
running-not-idle mark.Wanted h = refl
running-not-idle mark.Through h = refl
running-not-idle mark.Clean h = refl
running-not-idle mark.Failed h = refl
running-not-idle mark.Stopped h = refl

pub due-not-idle : (m : Mark) → is_due m ≡ true → is_idle m ≡ false
due-not-idle (mark.Running job slot seen) h = refl
due-not-idle (mark.Done changed) h = refl
due-not-idle mark.Idle h = sym h
due-not-idle mark.Wanted h = refl
due-not-idle mark.Through h = refl
due-not-idle mark.Clean h = refl
due-not-idle mark.Failed h = refl
due-not-idle mark.Stopped h = refl

pub wanted-due : (m : Mark) → is_wanted_mark m ≡ true → is_due m ≡ true
wanted-due m h = rw h refl

not-false : (b : Bool) → not b ≡ false → b ≡ true
not-false true h = refl
not-false false h = absurd (true≢false h)

not-both : (b : Bool) → b ≡ true → b ≡ false → ⊥
not-both b h k = true≢false (sym h ∙ k)

pub decide : (b : Bool) → (b ≡ true) ⊎ (b ≡ false)
decide true = inl refl
decide false = inr refl

pub farther : {builds : List BuildValue} {a b c : ℕ} → EdgeReaches builds a b → EdgeSteps builds b c → EdgeReaches builds a c
farther (one s) t = on s (one t)
farther (on s way) t = on s (farther way t)

-- INPUTS
pub line-whole : (state : State) (build : BuildValue) → inputs_of build ++ paths_in (deps_record state build) ≡ input_paths state build
line-whole state build = whole
  where
    listed : List (List ℕ)
    listed = paths_in (deps_record state build)

    mapped : (kind : InputKind) (paths : List (List ℕ)) → paths_of (map (an kind) paths) ≡ paths
    mapped kind [] = refl
    mapped kind (p ∷ ps) = ap (λ (qs : List (List ℕ)). p ∷ qs) (mapped kind ps)

    appended : (xs ys : List InputValue) → paths_of (xs ++ ys) ≡ paths_of xs ++ paths_of ys
    appended [] ys = refl
    appended (x ∷ xs) ys = ap (λ (qs : List (List ℕ)). x.path ∷ qs) (appended xs ys)

    first : List InputValue
    first = map (an OnLine) (build.explicit ++ build.implicit)

    second : List InputValue
    second = map (an OrderOnly) build.order_only

    third : List InputValue
    third = map (an Listed) (paths_in (deps_record state build))

    whole : inputs_of build ++ listed ≡ input_paths state build
    whole = sym (appended (first ++ second) third
        ∙ (λ i. appended first second i ++ mapped Listed listed i)
        ∙ (λ i. mapped OnLine (build.explicit ++ build.implicit) i ++ mapped OrderOnly build.order_only i ++ listed))

pub line-input : (state : State) (build : BuildValue) (path : List ℕ) → Contains (inputs_of build) path → Contains (input_paths state build) path
line-input state build path h = subst (λ ps. Contains ps path) (line-whole state build) (Contains-append_left (inputs_of build) (paths_in (deps_record state build)) path h)

-- where no place is found, no element passes
position-by : {X : Type 0} (p : X → Bool) (xs : List X) (b : Bool) → nat_lt (position_or_len p xs) (length xs) ≡ b → cond b (Some (position_or_len p xs)) None ≡ None → (x : X) → Contains xs x → p x ≡ false
position-by p xs true e none x h =
    let found : Some (position_or_len p xs) ≡ None = none in
    cc
position-by p xs false e none x (k, within, at) =
    let more = ltb-false (position_or_len p xs) (length xs) e in
    sym (ap p at) ∙ fails_before_first p xs k x (omega (arith, within, more))

position-none : {X : Type 0} (p : X → Bool) (xs : List X) → position p xs ≡ None → (x : X) → Contains xs x → p x ≡ false
position-none p xs none x h = position-by p xs (nat_lt (position_or_len p xs) (length xs)) refl none x h

contains-map : {X Y : Type 0} (f : X → Y) (xs : List X) (x : X) → Contains xs x → Contains (map f xs) (f x)
contains-map f xs x (k, within, at) = (k, omega (arith, within, length-map xs f), get_or-map f xs k x ∙ ap f at)

-- no input of an edge's build line waits
abbrev pub IsFree : List BuildValue → State → ℕ → Type 0
IsFree builds s edge = (q : ℕ) → EdgeSteps builds edge q → is_settled (mark_of s q) ≡ true

pub free-inputs : (builds : List BuildValue) (s : State) (edge : ℕ) → blocked (first_blocking builds s (inputs s (build_at builds edge))) ≡ None → IsFree builds s edge
free-inputs builds s edge h q step =
    let build = build_at builds edge in
    let none = blocking-is builds s build ∙ none-mapped _ (first_blocking builds s (inputs s build)) h in
    let on_line = Contains-append_left (input_producers builds build) (map (producer_of builds) (paths_in (deps_record s build))) (producer_of builds step.path)
    (contains-map (producer_of builds) (inputs_of build) step.path step.is_input) in
    let among = subst (λ os. Contains os (producer_of builds step.path)) (producers-are builds s build) on_line in
    let free = position-none (is_waiting s) (producers_of_inputs builds s build) none (producer_of builds step.path) among in
    not-false (is_settled (mark_of s q)) (subst (λ o. is_waiting s o ≡ false) step.produced free)
  where
    not-false : (b : Bool) → not b ≡ false → b ≡ true
    not-false true h = refl
    not-false false h = absurd (true≢false h)

-- CELLS THAT ARE NOT MARKS
abbrev pub is_mark_cell : Cell → Bool
is_mark_cell (cell.Mark edge) = true
is_mark_cell _ = false

abbrev pub NoMarks : List Cell → Type 0
NoMarks [] = Unit {0}
NoMarks (c ∷ cs) = (is_mark_cell c ≡ false) × NoMarks cs

pub none-append : (xs ys : List Cell) → NoMarks xs → NoMarks ys → NoMarks (xs ++ ys)
none-append [] ys a b = b
none-append (x ∷ xs) ys a b = (a.0, none-append xs ys a.1 b)

pub none-stamps : (paths : List (List ℕ)) → NoMarks (stamp_cells paths)
none-stamps [] = tt
none-stamps (p ∷ ps) = (refl, none-stamps ps)

pub none-built : (paths : List (List ℕ)) → NoMarks (built_cells paths)
none-built [] = tt
none-built (p ∷ ps) = (refl, none-built ps)

pub none-deps : (build : BuildValue) → NoMarks (deps_cells build)
none-deps build = by build.keeps_deps (outputs_of build)
  where
    first : (paths : List (List ℕ)) → NoMarks (first_deps_cell paths)
    first [] = tt
    first (p ∷ ps) = (refl, tt)

    by : (b : Bool) (paths : List (List ℕ)) → NoMarks (if b then first_deps_cell paths else [])
    by true paths = first paths
    by false paths = tt

pub none-slot : (pool : Option (ℕ × ℕ)) (slot : Option ℕ) → NoMarks (slot_cells pool slot)
none-slot None None = tt
none-slot None (Some q) = tt
none-slot (Some p) None = tt
none-slot (Some p) (Some q) = (refl, tt)

pub none-held : (pool : Option (ℕ × ℕ)) (m : Mark) → NoMarks (held_cells pool m)
none-held pool (mark.Running job slot seen) = (refl, none-slot pool slot)
none-held pool (mark.Done changed) = tt
none-held pool mark.Idle = tt
none-held pool mark.Wanted = tt
none-held pool mark.Through = tt
none-held pool mark.Clean = tt
none-held pool mark.Failed = tt
none-held pool mark.Stopped = tt

pub no-mark : (cs : List Cell) (x : ℕ) → NoMarks cs → Has cs (cell.Mark x) → ⊥
no-mark [] x none h = h
no-mark (c ∷ cs) x none (inl e) = true≢false (sym (ap is_mark_cell e) ∙ none.0)
no-mark (c ∷ cs) x none (inr h) = no-mark cs x none.1 h

same-edge : (x y : ℕ) → cell.Mark x ≡ cell.Mark y → y ≡ x
same-edge x y e = cc

-- only this edge's mark is among the cells
abbrev pub MarksOnly : ℕ → List Cell → Type 0
MarksOnly edge cs = (x : ℕ) → Has cs (cell.Mark x) → x ≡ edge

first-only : (edge : ℕ) (cs : List Cell) → NoMarks cs → MarksOnly edge (cell.Mark edge ∷ cs)
first-only edge cs none x (inl e) = same-edge edge x e
first-only edge cs none x (inr h) = absurd (no-mark cs x none h)

-- STEPS
-- what an event may do to a mark: nothing; begin or pass an edge of which no input waits; end a command
abbrev pub Moves : List BuildValue → State → State → ℕ → Type 0
Moves builds s t x =
    (mark_of t x ≡ mark_of s x) ⊎ (((is_due (mark_of s x) ≡ true) × IsFree builds s x) ⊎ (is_running_mark (mark_of s x) ≡ true))

module _ (manifest : ManifestValue) where
  pub same-marks : (s : State) (e : Event) (x : ℕ) → (Has (written manifest s e) (cell.Mark x) → ⊥) → mark_of (after manifest s e) x ≡ mark_of s x
  same-marks s e x none =
      ap (λ o. mark_in (default_or (cell.Mark x) o))
      (unwritten s (effect manifest s e) (cell.Mark x) (λ h. none (subst (λ (cs : List Cell). Has cs (cell.Mark x)) (written-same manifest s e) h)))

  -- an event that writes one mark
  one-moves : (s : State) (e : Event) (edge : ℕ) → MarksOnly edge (written manifest s e)
      → (((is_due (mark_of s edge) ≡ true) × IsFree manifest.builds s edge) ⊎ (is_running_mark (mark_of s edge) ≡ true))
      → (x : ℕ) → Moves manifest.builds s (after manifest s e) x
  one-moves s e edge only does x = elim (cases_eq x edge) [
    | inl same ↦ inr (subst (λ y. ((is_due (mark_of s y) ≡ true) × IsFree manifest.builds s y) ⊎ (is_running_mark (mark_of s y) ≡ true)) (sym same) does)
    | inr other ↦ inl (same-marks s e x (λ h. other (only x h)))
  ]

  none-moves : (s : State) (e : Event) → NoMarks (written manifest s e) → (x : ℕ) → Moves manifest.builds s (after manifest s e) x
  none-moves s e none x = inl (same-marks s e x (no-mark (written manifest s e) x none))

  -- WHAT ACCEPTANCE SAYS
  pub start-asks : (jobs edge job : ℕ) (slot : Option ℕ) (s : State) → start_refusal manifest jobs edge job slot s ≡ None
      → (is_wanted_mark (mark_of s edge) ≡ true) × IsFree manifest.builds s edge
  unfolding start_refusal
  start-asks jobs edge job slot s acc =
      let build = build_at manifest.builds edge in
      let t1 = first-none (phony_edge build) _ acc in
      let t2 = first-none (halted (is_halted s)) _ t1.1 in
      let t3 = first-none (not_wanted (mark_of s edge)) _ t2.1 in
      let t4 = first-none (blocked (first_blocking manifest.builds s (inputs s build))) _ t3.1 in
      (not-false (is_wanted_mark (mark_of s edge)) (not-refused (not (is_wanted_mark (mark_of s edge))) _ t3.0), free-inputs manifest.builds s edge t4.0)

  clean-asks : (edge : ℕ) (s : State) → clean_refusal manifest edge s ≡ None → (is_wanted_mark (mark_of s edge) ≡ true) × IsFree manifest.builds s edge
  unfolding clean_refusal
  clean-asks edge s acc =
      let build = build_at manifest.builds edge in
      let t1 = first-none (phony_edge build) _ acc in
      let t2 = first-none (not_wanted (mark_of s edge)) _ t1.1 in
      let t3 = first-none (blocked (first_blocking manifest.builds s (inputs s build))) _ t2.1 in
      (not-false (is_wanted_mark (mark_of s edge)) (not-refused (not (is_wanted_mark (mark_of s edge))) _ t2.0), free-inputs manifest.builds s edge t3.0)

  pass-asks : (edge : ℕ) (s : State) → pass_refusal manifest edge s ≡ None → (is_due (mark_of s edge) ≡ true) × IsFree manifest.builds s edge
  unfolding pass_refusal
  pass-asks edge s acc =
      let build = build_at manifest.builds edge in
      let t1 = first-none (not_phony build (mark_of s edge)) _ acc in
      let t2 = first-none (not_marked (mark_of s edge)) _ t1.1 in
      let t3 = first-none (blocked (first_blocking manifest.builds s (inputs s build))) _ t2.1 in
      (not-false (is_due (mark_of s edge)) (not-refused (not (is_due (mark_of s edge))) _ t2.0), free-inputs manifest.builds s edge t3.0)

  running-of : (m : Mark) → not_running m ≡ None → is_running_mark m ≡ true
  running-of m h = not-false (is_running_mark m) (not-refused (not (is_running_mark m)) _ h)

  finish-asks : (edge : ℕ) (stamps : List ℕ) (listing : Listing) (s : State) → finish_refusal manifest edge stamps listing s ≡ None → is_running_mark (mark_of s edge) ≡ true
  unfolding finish_refusal
  finish-asks edge stamps listing s acc =
      let t1 = first-none (phony_edge (build_at manifest.builds edge)) _ acc in
      running-of (mark_of s edge) (first-none (not_running (mark_of s edge)) _ t1.1).0

  fail-asks : (edge : ℕ) (stamps : List ℕ) (s : State) → fail_refusal manifest edge stamps s ≡ None → is_running_mark (mark_of s edge) ≡ true
  unfolding fail_refusal
  fail-asks edge stamps s acc =
      let t1 = first-none (phony_edge (build_at manifest.builds edge)) _ acc in
      running-of (mark_of s edge) (first-none (not_running (mark_of s edge)) _ t1.1).0

  abort-asks : (edge : ℕ) (stamps : List ℕ) (s : State) → abort_refusal manifest edge stamps s ≡ None → is_running_mark (mark_of s edge) ≡ true
  unfolding abort_refusal
  abort-asks edge stamps s acc =
      let t1 = first-none (phony_edge (build_at manifest.builds edge)) _ acc in
      let t2 = first-none (not_halted (is_halted s)) _ t1.1 in
      running-of (mark_of s edge) (first-none (not_running (mark_of s edge)) _ t2.1).0

  -- EVERY EVENT BUT A PLAN
  abbrev Does : State → ℕ → Type 0
  Does s edge = ((is_due (mark_of s edge) ≡ true) × IsFree manifest.builds s edge) ⊎ (is_running_mark (mark_of s edge) ≡ true)

  edge-moves : (s : State) (e : Event) (o : Option ℕ) (w : ℕ → List Cell) (r : ℕ → Option Refusal) → written manifest s e ≡ of_edge [] w o → of_edge (Some NoSuchEdge) r o ≡ None
      → ((edge : ℕ) → MarksOnly edge (w edge)) → ((edge : ℕ) → r edge ≡ None → Does s edge) → (x : ℕ) → Moves manifest.builds s (after manifest s e) x
  edge-moves s e None w r is acc only does =
      let no : Some NoSuchEdge ≡ None = acc in
      cc
  edge-moves s e (Some edge) w r is acc only does = one-moves s e edge (subst (λ cs. MarksOnly edge cs) (sym is) (only edge)) (does edge acc)

  pub start-only : (job : ℕ) (slot : Option ℕ) (s : State) (edge : ℕ) → MarksOnly edge (start_writes manifest edge job slot s)
  unfolding start_writes
  start-only job slot s edge = first-only edge (cell.Job job ∷ slot_cells (pool_of manifest edge) slot) (refl, none-slot (pool_of manifest edge) slot)

  pub mark-only : (s : State) (edge : ℕ) → MarksOnly edge (mark_writes manifest edge s)
  unfolding mark_writes
  mark-only s edge = first-only edge [] tt

  pub finish-only : (s : State) (edge : ℕ) → MarksOnly edge (finish_writes manifest edge s)
  unfolding finish_writes
  finish-only s edge =
      let build = build_at manifest.builds edge in
      let held = held_cells (pool_of manifest edge) (mark_of s edge) in
      let outs = outputs_of build in
      first-only edge (held ++ (stamp_cells outs ++ (built_cells outs ++ deps_cells build)))
      (none-append held (stamp_cells outs ++ (built_cells outs ++ deps_cells build)) (none-held (pool_of manifest edge) (mark_of s edge))
      (none-append (stamp_cells outs) (built_cells outs ++ deps_cells build) (none-stamps outs)
      (none-append (built_cells outs) (deps_cells build) (none-built outs) (none-deps build))))

  end-only : (s : State) (edge : ℕ) → MarksOnly edge (end_writes manifest edge s)
  unfolding end_writes
  end-only s edge =
      let build = build_at manifest.builds edge in
      let held = held_cells (pool_of manifest edge) (mark_of s edge) in
      first-only edge (held ++ stamp_cells (outputs_of build)) (none-append held (stamp_cells (outputs_of build)) (none-held (pool_of manifest edge) (mark_of s edge)) (none-stamps (outputs_of build)))

  pub event-moves : (jobs : ℕ) (s : State) (e : Event) → refusal manifest jobs s e ≡ None → is_plan e ≡ false → (x : ℕ) → Moves manifest.builds s (after manifest s e) x
  unfolding refusal written
  event-moves jobs s (Plan targets) acc other = absurd (true≢false other)
  event-moves jobs s (Start out job slot) acc other =
      edge-moves s (Start out job slot) (producer_of manifest.builds out) (λ edge. start_writes manifest edge job slot s) (λ edge. start_refusal manifest jobs edge job slot s) refl acc (start-only job slot s)
      (λ edge ok. let asks = start-asks jobs edge job slot s ok in inl (wanted-due (mark_of s edge) asks.0, asks.1))
  event-moves jobs s (Finish out stamps listing) acc other =
      edge-moves s (Finish out stamps listing) (producer_of manifest.builds out) (λ edge. finish_writes manifest edge s) (λ edge. finish_refusal manifest edge stamps listing s) refl acc (finish-only s)
      (λ edge ok. inr (finish-asks edge stamps listing s ok))
  event-moves jobs s (Fail out stamps) acc other =
      edge-moves s (Fail out stamps) (producer_of manifest.builds out) (λ edge. end_writes manifest edge s) (λ edge. fail_refusal manifest edge stamps s) refl acc (end-only s)
      (λ edge ok. inr (fail-asks edge stamps s ok))
  event-moves jobs s (Abort out stamps) acc other =
      edge-moves s (Abort out stamps) (producer_of manifest.builds out) (λ edge. end_writes manifest edge s) (λ edge. abort_refusal manifest edge stamps s) refl acc (end-only s)
      (λ edge ok. inr (abort-asks edge stamps s ok))
  event-moves jobs s (Clean out) acc other =
      edge-moves s (Clean out) (producer_of manifest.builds out) (λ edge. mark_writes manifest edge s) (λ edge. clean_refusal manifest edge s) refl acc (mark-only s)
      (λ edge ok. let asks = clean-asks edge s ok in inl (wanted-due (mark_of s edge) asks.0, asks.1))
  event-moves jobs s (Pass out) acc other =
      edge-moves s (Pass out) (producer_of manifest.builds out) (λ edge. mark_writes manifest edge s) (λ edge. pass_refusal manifest edge s) refl acc (mark-only s)
      (λ edge ok. inl (pass-asks edge s ok))
  event-moves jobs s (Touch path stamp) acc other = none-moves s (Touch path stamp) (refl, tt)
  event-moves jobs s Interrupt acc other = none-moves s Interrupt (refl, tt)
  event-moves jobs s (Resize pool depth) acc other = none-moves s (Resize pool depth) (refl, tt)

-- THE INVARIANT
-- an edge that is not idle, and all that it waits for
abbrev pub IsInPlay : List BuildValue → State → ℕ → Type 0
IsInPlay builds s p = (e : ℕ) × (is_idle (mark_of s e) ≡ false) × ((e ≡ p) ⊎ EdgeReaches builds e p)

-- What is in play and neither wanted nor through has no input of its build line that waits.
abbrev pub IsOrdered : List BuildValue → State → Type 0
IsOrdered builds s = (p : ℕ) → IsInPlay builds s p → is_due (mark_of s p) ≡ false → IsFree builds s p

module _ (builds : List BuildValue) (s t : State) (moves : (x : ℕ) → Moves builds s t x) where
  idle-before : (x : ℕ) → is_idle (mark_of t x) ≡ false → is_idle (mark_of s x) ≡ false
  idle-before x h = elim (moves x) [
    | inl same ↦ sym (ap is_idle same) ∙ h
    | inr (inl begun) ↦ due-not-idle (mark_of s x) begun.0
    | inr (inr runs) ↦ running-not-idle (mark_of s x) runs
  ]

  -- a settled mark stays
  pub settled-same : (x : ℕ) → is_settled (mark_of s x) ≡ true → mark_of t x ≡ mark_of s x
  settled-same x h = elim (moves x) [
    | inl same ↦ same
    | inr (inl begun) ↦ absurd (true≢false (sym begun.0 ∙ settled-not-due (mark_of s x) h))
    | inr (inr runs) ↦ absurd (true≢false (sym runs ∙ settled-not-running (mark_of s x) h))
  ]

  pub settled-kept : (x : ℕ) → is_settled (mark_of s x) ≡ true → is_settled (mark_of t x) ≡ true
  settled-kept x h = ap is_settled (settled-same x h) ∙ h

  pub ordered-kept : IsOrdered builds s → IsOrdered builds t
  ordered-kept ordered p (e, busy, way) off q step = settled-kept q (free q step)
    where
      play : IsInPlay builds s p
      play = (e, idle-before e busy, way)

      free : IsFree builds s p
      free = elim (moves p) [
        | inl same ↦ ordered p play (sym (ap is_due same) ∙ off)
        | inr (inl begun) ↦ begun.1
        | inr (inr runs) ↦ ordered p play (running-not-due (mark_of s p) runs)
      ]

-- AN ACCEPTED PLAN
pub past-last : (builds : List BuildValue) (p : ℕ) → length builds ≤ p → build_at builds p ≡ no_build
past-last [] p h = refl
past-last (b ∷ bs) zero h = absurd (omega (arith, h))
past-last (b ∷ bs) (suc p) h = past-last bs p (omega (arith, h))

module _ (manifest : ManifestValue) (s : State) (targets : List (List ℕ)) (jobs : ℕ) (accepted : refusal manifest jobs s (Plan targets) ≡ None) where
  abbrev planned : State
  planned = after manifest s (Plan targets)

  abbrev goals : List (List ℕ)
  goals = targets_or manifest.defaults targets

  pub is-mark : (edge : ℕ) → edge < length manifest.builds → IsMarkOf manifest.builds s (targets_or manifest.defaults targets) edge (mark_of (after manifest s (Plan targets)) edge)
  is-mark edge within =
      let to = leads-to manifest s targets jobs accepted in
      (marks-are-of-the-sets manifest s targets edge (mark_of (after manifest s (Plan targets)) edge) within).0
      (ap (λ marks. slice_get marks edge) (sym to.marks)
      ∙ slice_get-get_or (map (mark_of (after manifest s (Plan targets))) (edge_numbers manifest.builds)) edge mark.Idle (omega (arith, within, length-map-range_with_len (mark_of (after manifest s (Plan targets))) 0 (length manifest.builds)))
      ∙ ap Some (get_or-map-range_with_len (mark_of (after manifest s (Plan targets))) 0 (length manifest.builds) edge edge mark.Idle within (omega arith)))

  line-step : (p q : ℕ) → EdgeSteps manifest.builds p q → StepsBy (input_paths s) manifest.builds p q
  line-step p q step = record { path = step.path; is_path = line-input s (build_at manifest.builds p) step.path step.is_input; produced = step.produced }

  pub reached-next : (p q : ℕ) → Reached manifest.builds s (targets_or manifest.defaults targets) p → EdgeSteps manifest.builds p q → Reached manifest.builds s (targets_or manifest.defaults targets) q
  reached-next p q r step = needed r (input-need manifest.builds s (targets_or manifest.defaults targets) p q (line-step p q step))

  reached-way : {p q : ℕ} → Reached manifest.builds s (targets_or manifest.defaults targets) p → EdgeReaches manifest.builds p q → Reached manifest.builds s (targets_or manifest.defaults targets) q
  reached-way {p} {q} r (one step) = reached-next p q r step
  reached-way {p} {q} r (on {middle = m} step way) = reached-way (reached-next p m r step) way

  pub wanted-reached : {x : ℕ} → Wanted manifest.builds s (targets_or manifest.defaults targets) x → Reached manifest.builds s (targets_or manifest.defaults targets) x
  wanted-reached (dirty r d) = r
  wanted-reached (behind r step w) = r

  pub through-reached : {x : ℕ} → Through manifest.builds s (targets_or manifest.defaults targets) x → Reached manifest.builds s (targets_or manifest.defaults targets) x
  through-reached (near r none step w) = r
  through-reached (beyond r none step w) = r

  mark-reached : (x : ℕ) (m : Mark) → IsMarkOf manifest.builds s (targets_or manifest.defaults targets) x m → is_idle m ≡ false → Reached manifest.builds s (targets_or manifest.defaults targets) x
  mark-reached x m (wanted w) h = wanted-reached w
  mark-reached x m (through t) h = through-reached t
  mark-reached x m (idle a b) h = absurd (true≢false h)

  step-within : (p q : ℕ) → EdgeSteps manifest.builds p q → p < length manifest.builds
  step-within p q step = elim (cases_lt p (length manifest.builds)) [ inl less ↦ less | inr past ↦ absurd (no-input (subst (λ (b : BuildValue). Contains (inputs_of b) step.path) (past-last manifest.builds p (omega (arith, past))) step.is_input)) ]
    where
      no-input : Contains (inputs_of no_build) step.path → ⊥
      no-input (k, within, at) = omega (arith, within)

  way-within : {p q : ℕ} → EdgeReaches manifest.builds p q → p < length manifest.builds
  way-within {p} {q} (one step) = step-within p q step
  way-within {p} {q} (on {middle = m} step way) = step-within p m step

  free-by : (p q : ℕ) (m n : Mark) → Reached manifest.builds s (targets_or manifest.defaults targets) p → EdgeSteps manifest.builds p q
      → IsMarkOf manifest.builds s (targets_or manifest.defaults targets) p m → IsMarkOf manifest.builds s (targets_or manifest.defaults targets) q n → is_due m ≡ false → is_settled n ≡ true
  free-by p q m n r step (wanted w) k off = absurd (true≢false off)
  free-by p q m n r step (through t) k off = absurd (true≢false off)
  free-by p q m n r step (idle a b) (wanted w) off = absurd (b (near r a (line-step p q step) w))
  free-by p q m n r step (idle a b) (through t) off = absurd (b (beyond r a (line-step p q step) t))
  free-by p q m n r step (idle a b) (idle c d) off = refl

  pub ordered-planned : IsOrdered manifest.builds (after manifest s (Plan targets))
  ordered-planned p (e, busy, way) off q step =
      free-by p q (mark_of (after manifest s (Plan targets)) p) (mark_of (after manifest s (Plan targets)) q) reached step (is-mark p (step-within p q step))
      (is-mark q (producer_of-within step.path manifest.builds q step.produced)) off
    where
      reached : Reached manifest.builds s (targets_or manifest.defaults targets) p
      reached = elim way [
        | inl same ↦ mark-reached p (mark_of (after manifest s (Plan targets)) p) (is-mark p (step-within p q step)) (subst (λ x. is_idle (mark_of (after manifest s (Plan targets)) x) ≡ false) same busy)
        | inr far ↦ reached-way (mark-reached e (mark_of (after manifest s (Plan targets)) e) (is-mark e (way-within far)) busy) far
      ]

-- WHOLE LISTS
module _ (manifest : ManifestValue) (jobs : ℕ) where
  pub event-ordered : (s : State) (e : Event) → refusal manifest jobs s e ≡ None → IsOrdered manifest.builds s → IsOrdered manifest.builds (after manifest s e)
  event-ordered s (Plan targets) acc ordered = ordered-planned manifest s targets jobs acc
  event-ordered s (Start out job slot) acc ordered = ordered-kept manifest.builds s _ (event-moves manifest jobs s (Start out job slot) acc refl) ordered
  event-ordered s (Finish out stamps listing) acc ordered = ordered-kept manifest.builds s _ (event-moves manifest jobs s (Finish out stamps listing) acc refl) ordered
  event-ordered s (Fail out stamps) acc ordered = ordered-kept manifest.builds s _ (event-moves manifest jobs s (Fail out stamps) acc refl) ordered
  event-ordered s (Abort out stamps) acc ordered = ordered-kept manifest.builds s _ (event-moves manifest jobs s (Abort out stamps) acc refl) ordered
  event-ordered s (Clean out) acc ordered = ordered-kept manifest.builds s _ (event-moves manifest jobs s (Clean out) acc refl) ordered
  event-ordered s (Pass out) acc ordered = ordered-kept manifest.builds s _ (event-moves manifest jobs s (Pass out) acc refl) ordered
  event-ordered s (Touch path stamp) acc ordered = ordered-kept manifest.builds s _ (event-moves manifest jobs s (Touch path stamp) acc refl) ordered
  event-ordered s Interrupt acc ordered = ordered-kept manifest.builds s _ (event-moves manifest jobs s Interrupt acc refl) ordered
  event-ordered s (Resize pool depth) acc ordered = ordered-kept manifest.builds s _ (event-moves manifest jobs s (Resize pool depth) acc refl) ordered

  pub opened-ordered : (s : State) → IsOpened s → IsOrdered manifest.builds s
  opened-ordered s o p (e, busy, way) off q step = absurd (true≢false (sym (ap is_idle (o.marks e)) ∙ busy))

  -- what a start waits for
  pub due-settled : (s : State) (b : ℕ) → IsOrdered manifest.builds s → is_wanted_mark (mark_of s b) ≡ true → IsFree manifest.builds s b → (a : ℕ) → EdgeReaches manifest.builds b a → is_settled (mark_of s a) ≡ true
  due-settled s b ordered wants free a way = along way
    where
      behind-settled : (p : ℕ) → EdgeReaches manifest.builds b p → is_settled (mark_of s p) ≡ true → (q : ℕ) → EdgeReaches manifest.builds p q → is_settled (mark_of s q) ≡ true
      behind-settled p front h q (one step) = ordered p (b, due-not-idle (mark_of s b) (wanted-due (mark_of s b) wants), inr front) (settled-not-due (mark_of s p) h) q step
      behind-settled p front h q (on {middle = m} step way) =
          behind-settled m (farther front step) (ordered p (b, due-not-idle (mark_of s b) (wanted-due (mark_of s b) wants), inr front) (settled-not-due (mark_of s p) h) m step) q way

      along : EdgeReaches manifest.builds b a → is_settled (mark_of s a) ≡ true
      along (one step) = free a step
      along (on {middle = m} step way) = behind-settled m (one step) (free m step) a way

  pub start-named : (s : State) (e : Event) (b : ℕ) → refusal manifest jobs s e ≡ None → starts manifest b e ≡ true → (is_wanted_mark (mark_of s b) ≡ true) × IsFree manifest.builds s b
  unfolding refusal
  start-named s (Plan targets) b acc h = absurd (true≢false (sym h))
  start-named s (Start out job slot) b acc h = by (producer_of manifest.builds out) acc h
    where
      by : (o : Option ℕ) → of_edge (Some NoSuchEdge) (λ edge. start_refusal manifest jobs edge job slot s) o ≡ None → holds (λ n. n == b) o ≡ true → (is_wanted_mark (mark_of s b) ≡ true) × IsFree manifest.builds s b
      by None acc h = absurd (true≢false (sym h))
      by (Some edge) acc h = subst (λ x. (is_wanted_mark (mark_of s x) ≡ true) × IsFree manifest.builds s x) (eqb-true edge b h) (start-asks manifest jobs edge job slot s acc)
  start-named s (Finish out stamps listing) b acc h = absurd (true≢false (sym h))
  start-named s (Fail out stamps) b acc h = absurd (true≢false (sym h))
  start-named s (Abort out stamps) b acc h = absurd (true≢false (sym h))
  start-named s (Clean out) b acc h = absurd (true≢false (sym h))
  start-named s (Pass out) b acc h = absurd (true≢false (sym h))
  start-named s (Touch path stamp) b acc h = absurd (true≢false (sym h))
  start-named s Interrupt b acc h = absurd (true≢false (sym h))
  start-named s (Resize pool depth) b acc h = absurd (true≢false (sym h))

  -- a settled edge does not start
  settled-waits : (s : State) (e : Event) (a : ℕ) → refusal manifest jobs s e ≡ None → is_settled (mark_of s a) ≡ true → starts manifest a e ≡ false
  settled-waits s e a acc h = elim (decide (starts manifest a e)) [
    | inl begins ↦ absurd (true≢false (sym (wanted-due (mark_of s a) (start-named s e a acc begins).0) ∙ settled-not-due (mark_of s a) h))
    | inr other ↦ other
  ]

  none-starts : (a : ℕ) (s : State) (es : Numbered) → Legal (machine manifest jobs) s es → is_settled (mark_of s a) ≡ true → AllByRecursion (λ (l : ℕ × Event). starts manifest a l.1 ≡ false) (until_plan es)
  none-starts a s [] legal h = tt
  none-starts a s (e ∷ es) legal h = by (is_plan e.1) refl (λ settled. none-starts a (after manifest s e.1) es legal.1 settled)
    where
      by : (plans : Bool) → is_plan e.1 ≡ plans → (is_settled (mark_of (after manifest s e.1) a) ≡ true → AllByRecursion (λ (l : ℕ × Event). starts manifest a l.1 ≡ false) (until_plan es)) → AllByRecursion (λ (l : ℕ × Event). starts manifest a l.1 ≡ false) (if plans then [] else e ∷ until_plan es)
      by true is rest = tt
      by false is rest = (settled-waits s e.1 a legal.0 h, rest (settled-kept manifest.builds s _ (event-moves manifest jobs s e.1 legal.0 is) a h))

  list-waits : (s : State) (before later : Numbered) (n : ℕ) (e : Event) (a b : ℕ) → IsOrdered manifest.builds s → Legal (machine manifest jobs) s (before ++ (n, e) ∷ later)
      → starts manifest b e ≡ true → Waits manifest.builds b a
      → (is_settled (mark_of (run (machine manifest jobs) s before) a) ≡ true) × AllByRecursion (λ (l : ℕ × Event). starts manifest a l.1 ≡ false) (until_plan later)
  list-waits s [] later n e a b ordered legal begins way =
      let asks = start-named s e b legal.0 begins in
      let h = due-settled s b ordered asks.0 asks.1 a way in
      (h, none-starts a (after manifest s e) later legal.1 (settled-kept manifest.builds s _ (event-moves manifest jobs s e legal.0 (starts-no-plan e begins)) a h))
    where
      starts-no-plan : (e : Event) → starts manifest b e ≡ true → is_plan e ≡ false
      starts-no-plan (Plan targets) h = absurd (true≢false (sym h))
      starts-no-plan (Start out job slot) h = refl
      starts-no-plan (Finish out stamps listing) h = refl
      starts-no-plan (Fail out stamps) h = refl
      starts-no-plan (Abort out stamps) h = refl
      starts-no-plan (Clean out) h = refl
      starts-no-plan (Pass out) h = refl
      starts-no-plan (Touch path stamp) h = refl
      starts-no-plan Interrupt h = refl
      starts-no-plan (Resize pool depth) h = refl
  list-waits s (l ∷ before) later n e a b ordered legal begins way = list-waits (after manifest s l.1) before later n e a b (event-ordered s l.1 legal.0 ordered) legal.1 begins way

pub starts-wait-in-lists : StartsWaitInLists
starts-wait-in-lists manifest jobs opening before later n e a b opened legal begins way = list-waits manifest jobs opening before later n e a b (opened-ordered manifest jobs opening opened) legal begins way

pub starts-wait : StartsWait
starts-wait t before later n e a b is opened split begins way =
    starts-wait-in-lists t.manifest t.jobs t.opening before later n e a b opened (subst (λ es. Legal (machine_at t) t.opening es) split is.legal) begins way
