-- From the sets that the code finds to the marks and refusals of a plan.
use Rattle.std.proofs.Common.{◌≡◌, ℕ, ◌+◌, ◌<◌, ◌≤◌, zero, suc, nat_eq, nat_lt, get_or, Bool, true, false, cond, not, ◌&&◌, ◌||◌, List, [], ◌∷◌, length, map, find, Contains, Option, Some, None, inl, inr, refl, sym, ap, subst, ◌∙◌, arith, eqb-true, eq-eqb, true≢false, if◌then◌else◌}
use Rattle.std.specs.List.{range_with_len, position, All}
use Rattle.std.specs.Prelude.{is_none, slice_get, ◌==◌}
use Rattle.std.specs.Option.{option_map}
use Rattle.std.proofs.lemmas.Option.{slice_get-map, get_or_from_slice_get}
use Rattle.std.proofs.lemmas.Bool.{cases_eq, cases_lt, lt-ltb, ltb-true}
use Rattle.std.proofs.lemmas.List.{length-map, get_or_past}
use Rattle.std.proofs.lemmas.List.Elements.{All-contains}
use Rattle.std.proofs.lemmas.List.FromFn.{get_or-map-range_with_len, length-map-range_with_len}
use Rattle.std.proofs.lemmas.List.Sums.{position_or_len_is}
use Rattle.rev_manifest.specs.Manifest.{BuildValue}
use Rattle.rev_graph.specs.Graph.{producer_of}
use Rattle.rev_graph.proofs.GraphLemmas.{producer_of-within}
use Rattle.rev_cells.specs.State.{State, stamp_of}
use Rattle.rev_cells.specs.declared.mark.Mark.TheVariants as mark
use Rattle.rev_dirty.specs.Inputs.{producers_in}
use Rattle.rev_ranks.specs.Graph.{Reaches, Reaches.step as one, Reaches.further as on, Steps, IsLeastOnCycle}
use Rattle.rev_ranks.specs.Leads.{leads_to, is_reachable, IsReachable, IsReachable.root as first, IsReachable.behind as from}
use Rattle.rev_ranks.specs.Sets.{IsMarked, is_marked, IsSetOf, is_marked_or_leads}
use Rattle.rev_ranks.proofs.LeadsLemmas.{leads-sound, leads-complete}
use Rattle.rev_ranks.proofs.ReachableLemmas.{reachable_more}
use Rattle.rev_ranks.proofs.SetLemmas.{same-tests, reachable-sound, reachable-complete}
use Rattle.rev_plan.specs.declared.fault.PlanFault.{PlanFault}
use Rattle.rev_plan.specs.declared.fault.PlanFault.TheVariants as fault
use Rattle.rev_plan.specs.Fault.{Explains, NamesCycle}
use Rattle.rev_plan.specs.Options.{first_some}
use Rattle.rev_plan.specs.Plan.{PlanRefusal, PlanRefusal.DepsCycle, edges_by, input_paths, counted_paths, needed_paths, edge_numbers, is_dirty, is_reached, is_wanted, is_through, is_on_cycle, mark_for, is_lacking, missing_among, missing_input, deps_cycle}
use Rattle.rev_plan.specs.Steps.{IsSubgraph, AreDirty, AreReached, mark_by}
use Rattle.rev_plan.proofs.LeastLemmas.{to-node, from-node, input-need, counted-need, and-both, both-and}

not-true : (b : Bool) → (b ≡ true → ⊥) → b ≡ false
not-true true h = absurd (h refl)
not-true false h = refl

-- A GRAPH WITHOUT THE STEPS OF SOME NODES, WHERE THE OTHERS STEP AMONG THEMSELVES
module _ (graph sub : List (List ℕ)) (marks : List Bool) (is : IsSubgraph graph marks sub) (closed : (n s : ℕ) → IsMarked marks n → Steps graph n s → IsMarked marks s) where
  sub-step : (n s : ℕ) → IsMarked marks n → Steps graph n s → Steps sub n s
  sub-step n s m h = subst (λ (list : List ℕ). Contains list s) (sym (is.kept n m)) h

  whole-step : (n s : ℕ) → Steps sub n s → Steps graph n s
  whole-step n s h = subst (λ (list : List ℕ). Contains list s) (is.kept n (is.left_out n s h)) h

  pub sub-way : {n m : ℕ} → IsMarked marks n → Reaches graph n m → Reaches sub n m
  sub-way {n} {m} k (one h) = one (sub-step n m k h)
  sub-way {n} k (on {s = s} h way) = on (sub-step n s k h) (sub-way (closed n s k h) way)

  pub whole-way : {n m : ℕ} → Reaches sub n m → Reaches graph n m
  whole-way {n} {m} (one h) = one (whole-step n m h)
  whole-way {n} (on {s = s} h way) = on (whole-step n s h) (whole-way way)

  pub way-start : {n m : ℕ} → Reaches sub n m → IsMarked marks n
  way-start {n} {m} (one h) = is.left_out n m h
  way-start {n} (on {s = s} h way) = is.left_out n s h

  pub way-end : {n m : ℕ} → IsMarked marks n → Reaches graph n m → IsMarked marks m
  way-end {n} {m} k (one h) = closed n m k h
  way-end {n} k (on {s = s} h way) = way-end (closed n s k h) way

  pub sub-leads : (test other : ℕ → Bool) → ((n : ℕ) → IsMarked marks n → test n ≡ other n) → (n : ℕ) → IsMarked marks n → leads_to sub test n ≡ leads_to graph other n
  sub-leads test other same n k = same-tests (leads_to sub test n) (leads_to graph other n)
      (λ h.
      let r = leads-sound sub test n h in
      leads-complete graph other n r.other (whole-way r.way) (sym (same r.other (way-end k (whole-way r.way))) ∙ r.passes))
      (λ h.
      let r = leads-sound graph other n h in
      leads-complete sub test n r.other (sub-way k r.way) (same r.other (way-end k r.way) ∙ r.passes))

  pub sub-none : (test : ℕ → Bool) (n : ℕ) → is_marked marks n ≡ false → leads_to sub test n ≡ false
  sub-none test n none = not-true (leads_to sub test n) (λ h. true≢false (sym (way-start (leads-sound sub test n h).way) ∙ none))

-- WHAT A SEARCH OF NUMBERS FINDS
found-at : (p : ℕ → Bool) (n a k : ℕ) (rest : find p (range_with_len (a + 1) n) ≡ Some k) (b : Bool) → b ≡ false → cond b (Some a) (find p (range_with_len (a + 1) n)) ≡ Some k
found-at p n a k rest true h = absurd (true≢false h)
found-at p n a k rest false h = rest

pub find-first : (p : ℕ → Bool) (n a k : ℕ) → a ≤ k → k < a + n → p k ≡ true → ((j : ℕ) → a ≤ j → j < k → p j ≡ false) → find p (range_with_len a n) ≡ Some k
find-first p zero a k low high h none = absurd (omega arith)
find-first p (suc n) a k low high h none = elim (cases_eq a k) [
  | inl same ↦ ap (λ b. cond b (Some a) (find p (range_with_len (a + 1) n))) (ap p same ∙ h) ∙ ap Some same
  | inr other ↦ found-at p n a k (find-first p n (a + 1) k (omega arith) (omega arith) h (λ j l g. none j (omega arith) g)) (p a) (none a (omega arith) (omega arith))
]

pub find-none : (p : ℕ → Bool) (n a : ℕ) → ((j : ℕ) → a ≤ j → j < a + n → p j ≡ false) → find p (range_with_len a n) ≡ None
find-none p zero a none = refl
find-none p (suc n) a none =
    ap (λ b. cond b (Some a) (find p (range_with_len (a + 1) n))) (none a (omega arith) (omega arith)) ∙ find-none p n (a + 1) (λ j l g. none j (omega arith) (omega arith))

-- THE PLAN
module _ (builds : List BuildValue) (state : State) (roots : List ℕ) (reached : List Bool) (are : AreReached builds state roots reached) where
  abbrev Needs : List (List ℕ)
  Needs = edges_by (needed_paths state) builds

  abbrev Inputs : List (List ℕ)
  Inputs = edges_by (input_paths state) builds

  abbrev Counted : List (List ℕ)
  Counted = edges_by (counted_paths state) builds

  reached-on : (n s : ℕ) → IsMarked reached n → Steps Needs n s → IsMarked reached s
  unfolding is_reached
  reached-on n s m h = are.exact s ∙ reachable-complete Needs roots s (reachable_more s (reachable-sound Needs roots n (sym (are.exact n) ∙ m)) h)

  input-on : (n s : ℕ) → IsMarked reached n → Steps Inputs n s → IsMarked reached s
  input-on n s m h = reached-on n s m (to-node (needed_paths state) refl builds n s (input-need builds state [] n s (from-node (input_paths state) refl builds n s h)))

  counted-on : (n s : ℕ) → IsMarked reached n → Steps Counted n s → IsMarked reached s
  counted-on n s m h = reached-on n s m (to-node (needed_paths state) refl builds n s (counted-need builds state [] n s (from-node (counted_paths state) refl builds n s h)))

  reached-test : is_marked reached ≡ is_reached builds state roots
  reached-test i n = are.exact n i

  pub missing-are : missing_among builds state (is_marked reached) ≡ missing_input builds state roots
  missing-are = ap (missing_among builds state) reached-test

  -- CYCLES
  module _ (inputs : List (List ℕ)) (is : IsSubgraph Inputs reached inputs) where
    on-cycle : ℕ → Bool
    on-cycle edge = is_reached builds state roots edge && is_on_cycle builds state edge

    cycle-in : (edge : ℕ) → on-cycle edge ≡ true → Reaches inputs edge edge
    unfolding on-cycle
    cycle-in edge h =
        let both = and-both (is_reached builds state roots edge) (is_on_cycle builds state edge) h in
        let r = leads-sound Inputs (nat_eq edge) edge both.1 in
        sub-way Inputs inputs reached is input-on (are.exact edge ∙ both.0) (subst (Reaches Inputs edge) (sym (eqb-true edge r.other r.passes)) r.way)

    in-cycle : (edge : ℕ) → Reaches inputs edge edge → on-cycle edge ≡ true
    unfolding on-cycle
    in-cycle edge way =
        both-and (is_reached builds state roots edge) (is_on_cycle builds state edge) (sym (are.exact edge) ∙ way-start Inputs inputs reached is input-on way)
        (leads-complete Inputs (nat_eq edge) edge edge (whole-way Inputs inputs reached is input-on way) (eq-eqb edge edge refl))

    pub no-cycle : ((edge : ℕ) → Reaches inputs edge edge → ⊥) → deps_cycle builds state roots ≡ None
    unfolding on-cycle
    no-cycle none = ap (option_map DepsCycle) (find-none on-cycle (length builds) 0 (λ j l g. not-true (on-cycle j) (λ h. none j (cycle-in j h))))

    pub least-cycle : (edge : ℕ) → IsLeastOnCycle inputs edge → deps_cycle builds state roots ≡ Some (DepsCycle edge)
    unfolding on-cycle
    least-cycle edge least =
        ap (option_map DepsCycle)
        (find-first on-cycle (length builds) 0 edge (omega arith) (omega (arith, least.is_node, is.length_is, length-map builds (λ (build : BuildValue). producers_in builds (input_paths state build)))) (in-cycle edge least.on_cycle)
        (λ j l g. not-true (on-cycle j) (λ h. least.least j g (cycle-in j h))))

  -- MARKS
  module _ (inputs counted : List (List ℕ)) (dirty wanted waiting : List Bool) (is : IsSubgraph Inputs reached inputs) (also : IsSubgraph Counted reached counted) (found : AreDirty builds state reached dirty)
      (want : IsSetOf counted (is_marked_or_leads counted dirty) wanted) (wait : IsSetOf inputs (is_marked_or_leads inputs wanted) waiting) where
    dirty-reached : (edge : ℕ) → IsMarked reached edge → is_marked dirty edge ≡ is_dirty builds state edge
    dirty-reached edge m = found.exact edge ∙ ap (λ b. b && is_dirty builds state edge) m

    dirty-none : (edge : ℕ) → is_marked reached edge ≡ false → is_marked dirty edge ≡ false
    dirty-none edge m = found.exact edge ∙ ap (λ b. b && is_dirty builds state edge) m

    wanted-by : (edge : ℕ) (b : Bool) → is_marked reached edge ≡ b → is_marked wanted edge ≡ is_wanted builds state roots edge
    unfolding is_wanted
    wanted-by edge true m =
        want.exact edge ∙ (λ i. dirty-reached edge m i || sub-leads Counted counted reached also counted-on (is_marked dirty) (is_dirty builds state) dirty-reached edge m i)
        ∙ ap (λ b. b && (is_dirty builds state edge || leads_to Counted (is_dirty builds state) edge)) (sym m ∙ are.exact edge)
    wanted-by edge false m =
        want.exact edge ∙ (λ i. dirty-none edge m i || sub-none Counted counted reached also counted-on (is_marked dirty) edge m i)
        ∙ ap (λ b. b && (is_dirty builds state edge || leads_to Counted (is_dirty builds state) edge)) (sym m ∙ are.exact edge)

    wanted-is : (edge : ℕ) → is_marked wanted edge ≡ is_wanted builds state roots edge
    wanted-is edge = wanted-by edge (is_marked reached edge) refl

    -- an edge that is not wanted is a way through exactly where it leads to a wanted one
    through-by : (edge : ℕ) (b : Bool) → is_marked reached edge ≡ b → is_wanted builds state roots edge ≡ false → leads_to inputs (is_marked wanted) edge ≡ is_through builds state roots edge
    unfolding is_through
    through-by edge true m none =
        sub-leads Inputs inputs reached is input-on (is_marked wanted) (is_wanted builds state roots) (λ n _. wanted-is n) edge m
        ∙ (λ i. (sym m ∙ are.exact edge) i && not (sym none i) && leads_to Inputs (is_wanted builds state roots) edge)
    through-by edge false m none =
        sub-none Inputs inputs reached is input-on (is_marked wanted) edge m ∙ (λ i. (sym m ∙ are.exact edge) i && not (is_wanted builds state roots edge) && leads_to Inputs (is_wanted builds state roots) edge)

    mark-at : (edge : ℕ) (b : Bool) → is_wanted builds state roots edge ≡ b → mark_by wanted waiting edge ≡ mark_for builds state roots edge
    mark-at edge true w =
        ap (λ b. if b then mark.Wanted else if is_marked waiting edge then mark.Through else mark.Idle) (wanted-is edge ∙ w)
        ∙ sym (ap (λ b. if b then mark.Wanted else if is_through builds state roots edge then mark.Through else mark.Idle) w)
    mark-at edge false w =
        let same : is_marked waiting edge ≡ is_through builds state roots edge =
        wait.exact edge ∙ ap (λ b. b || leads_to inputs (is_marked wanted) edge) (wanted-is edge ∙ w) ∙ through-by edge (is_marked reached edge) refl w in
        (λ i. if (wanted-is edge i) then mark.Wanted else if (same i) then mark.Through else mark.Idle)

    pub marks-are : length wanted ≡ length builds → map (mark_by wanted waiting) (range_with_len 0 (length wanted)) ≡ map (mark_for builds state roots) (edge_numbers builds)
    marks-are len = λ i. map (λ edge. mark-at edge (is_wanted builds state roots edge) refl i) (range_with_len 0 (len i))

-- THE FIRST THAT PASSES
pub position-first : {X : Type 0} (p : X → Bool) (xs : List X) (i : ℕ) (d : X) → i < length xs → ((k : ℕ) → k < i → p (get_or xs k d) ≡ false) → p (get_or xs i d) ≡ true → position p xs ≡ Some i
position-first p xs i d h none some =
    ap (λ k. cond (nat_lt k (length xs)) (Some k) None) (position_or_len_is p xs i d (omega arith) none (λ _. some)) ∙ ap (λ b. cond b (Some i) None) (lt-ltb i (length xs) h)

pub position-none : {X : Type 0} (p : X → Bool) (xs : List X) (d : X) → ((k : ℕ) → k < length xs → p (get_or xs k d) ≡ false) → position p xs ≡ None
position-none p xs d none =
    ap (λ k. cond (nat_lt k (length xs)) (Some k) None) (position_or_len_is p xs (length xs) d (omega arith) none (λ h. absurd (omega arith))) ∙ ap (λ b. cond b (Some (length xs)) None) (not-true (nat_lt (length xs) (length xs)) (λ h. omega (arith, ltb-true (length xs) (length xs) h)))

-- THE FIRST REFUSAL
pub first-of-two : {A : Type 0} (a b : Option A) (x : A) → a ≡ Some x → first_some (a ∷ b ∷ []) ≡ Some x
first-of-two a b x h = ap (λ o. first_some (o ∷ b ∷ [])) h

pub second-of-two : {A : Type 0} (a b : Option A) (x : A) → a ≡ None → b ≡ Some x → first_some (a ∷ b ∷ []) ≡ Some x
second-of-two a b x h k = (λ i. first_some (h i ∷ k i ∷ []))

pub none-of-two : {A : Type 0} (a b : Option A) → a ≡ None → b ≡ None → first_some (a ∷ b ∷ []) ≡ None
none-of-two a b h k = (λ i. first_some (h i ∷ k i ∷ []))

pub first-of-four : {A : Type 0} (a b c d : Option A) (x : A) → a ≡ Some x → first_some (a ∷ b ∷ c ∷ d ∷ []) ≡ Some x
first-of-four a b c d x h = ap (λ o. first_some (o ∷ b ∷ c ∷ d ∷ [])) h

pub second-of-four : {A : Type 0} (a b c d : Option A) (x : A) → a ≡ None → b ≡ Some x → first_some (a ∷ b ∷ c ∷ d ∷ []) ≡ Some x
second-of-four a b c d x h k = (λ i. first_some (h i ∷ k i ∷ c ∷ d ∷ []))

pub rest-of-four : {A : Type 0} (a b c d : Option A) → a ≡ None → b ≡ None → first_some (a ∷ b ∷ c ∷ d ∷ []) ≡ first_some (c ∷ d ∷ [])
rest-of-four a b c d h k = (λ i. first_some (h i ∷ k i ∷ c ∷ d ∷ []))

-- LISTS OF MARKS
pub dirty-are : (builds : List BuildValue) (state : State) (reached dirty : List Bool) (n : ℕ) → length reached ≡ length builds → n ≡ length builds
    → dirty ≡ map (λ edge. is_marked reached edge && is_dirty builds state edge) (range_with_len 0 n) → AreDirty builds state reached dirty
dirty-are builds state reached dirty n each end are = record { length_is = len ∙ end; exact = λ edge. elim (cases_lt edge n) [ inl within ↦ at edge within | inr past ↦ beyond edge past ] }
  where
    len : length dirty ≡ n
    len = ap length are ∙ length-map-range_with_len (λ edge. is_marked reached edge && is_dirty builds state edge) 0 n

    at : (edge : ℕ) → edge < n → is_marked dirty edge ≡ (is_marked reached edge && is_dirty builds state edge)
    at edge within = ap (λ (marks : List Bool). is_marked marks edge) are ∙ get_or-map-range_with_len (λ edge. is_marked reached edge && is_dirty builds state edge) 0 n edge edge false within (omega arith)

    beyond : (edge : ℕ) → n ≤ edge → is_marked dirty edge ≡ (is_marked reached edge && is_dirty builds state edge)
    beyond edge past =
        get_or_past dirty edge false (omega (arith, len)) ∙ ap (λ b. b && is_dirty builds state edge) (sym (get_or_past reached edge false (omega arith)))

-- where no edge is left out, the edges that are reached are those of the whole graph
pub reached-are : (builds : List BuildValue) (state : State) (roots : List ℕ) (all : List Bool) (sub : List (List ℕ)) (reached : List Bool) → ((edge : ℕ) → edge < length builds → IsMarked all edge)
    → All (λ edge. edge < length builds) roots → IsSubgraph (edges_by (needed_paths state) builds) all sub → IsSetOf sub (is_reachable sub roots) reached → AreReached builds state roots reached
unfolding is_reached
reached-are builds state roots all sub reached marked inside is set = record {
  length_is = set.length_is ∙ is.length_is ∙ length-map builds (λ (build : BuildValue). producers_in builds (needed_paths state build));
  exact = λ edge. set.exact edge ∙ same-tests (is_reachable sub roots edge) (is_reached builds state roots edge) (there edge) (back edge);
}
  where
    closed : (n s : ℕ) → IsMarked all n → Steps (edges_by (needed_paths state) builds) n s → IsMarked all s
    closed n s m h =
        let f = from-node (needed_paths state) refl builds n s h in
        marked s (producer_of-within f.path builds s f.produced)

    there-by : (edge : ℕ) → IsReachable sub roots edge → IsReachable (edges_by (needed_paths state) builds) roots edge
    there-by edge (first h) = first h
    there-by edge (from h way) = from h (whole-way (edges_by (needed_paths state) builds) sub all is closed way)

    back-by : (edge : ℕ) → IsReachable (edges_by (needed_paths state) builds) roots edge → IsReachable sub roots edge
    back-by edge (first h) = first h
    back-by edge (from {start = start} h way) =
        from h (sub-way (edges_by (needed_paths state) builds) sub all is closed (marked start (All-contains (λ edge. edge < length builds) roots start inside h)) way)

    there : (edge : ℕ) → is_reachable sub roots edge ≡ true → is_reached builds state roots edge ≡ true
    there edge h = reachable-complete (edges_by (needed_paths state) builds) roots edge (there-by edge (reachable-sound sub roots edge h))

    back : (edge : ℕ) → is_reached builds state roots edge ≡ true → is_reachable sub roots edge ≡ true
    back edge h = reachable-complete sub roots edge (back-by edge (reachable-sound (edges_by (needed_paths state) builds) roots edge h))

-- an input of a build line and its producer
pub lacking-at : (builds : List BuildValue) (state : State) (inputs : List (List ℕ)) (producers : List (Option ℕ)) (at : ℕ) (path : List ℕ) (producer : Option ℕ) → producers ≡ map (producer_of builds) inputs
    → slice_get inputs at ≡ Some path → slice_get producers at ≡ Some producer → is_lacking builds state (get_or inputs at []) ≡ (is_none producer && (stamp_of state path == 0))
lacking-at builds state inputs producers at path producer are there made =
    let same : get_or inputs at [] ≡ path = get_or_from_slice_get inputs at path [] there in
    let mapped : option_map (producer_of builds) (slice_get inputs at) ≡ Some producer = sym (slice_get-map (producer_of builds) inputs at) ∙ ap (λ (all : List (Option ℕ)). slice_get all at) (sym are) ∙ made in
    let some : Some (producer_of builds path) ≡ Some producer = ap (option_map (producer_of builds)) (sym there) ∙ mapped in
    let is : producer_of builds path ≡ producer = cc in
    ap (is_lacking builds state) same ∙ ap (λ (o : Option ℕ). is_none o && (stamp_of state path == 0)) is

-- a fault that names a cycle is why there is no plan
pub cycle-explains : (f : PlanFault) (graph : List (List ℕ)) (refusal : Option PlanRefusal) → NamesCycle f graph → ((edge : ℕ) → IsLeastOnCycle graph edge → refusal ≡ Some (DepsCycle edge)) → Explains f refusal
cycle-explains fault.Memory graph refusal names is = tt
cycle-explains (fault.DepsCycle edge) graph refusal names is = is edge names
cycle-explains (fault.StillRunning edge) graph refusal names is = absurd names
cycle-explains (fault.UnknownTarget target) graph refusal names is = absurd names
cycle-explains (fault.MissingInput input edge) graph refusal names is = absurd names
