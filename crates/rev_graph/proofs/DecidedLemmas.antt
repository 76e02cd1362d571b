-- The search for cycles finds what there is.
use Rattle.std.proofs.Common.{◌≡◌, ◌≢◌, ℕ, ◌+◌, ◌<◌, ◌≤◌, zero, suc, Bool, true, false, cond, List, [], ◌∷◌, length, Option, Some, None, option_map, find, slice_get, nat_eq, nat_lt, ◌⊎◌, inl, inr, refl, sym, ap, subst, ◌∙◌, arith, if◌then◌else◌, eqb-true, eq-eqb}
use Rattle.std.specs.List.{range_with_len}
use Rattle.std.proofs.lemmas.Bool.{lt-ltb, le-ltb, ltb-true, ltb-false, cases_lt, cases_eq}
use Rattle.std.proofs.lemmas.List.{get_or_past}
use Rattle.rev_manifest.specs.Manifest.{BuildValue}
use Rattle.rev_ranks.specs.Graph.{Steps, Reaches, Reaches.step, Reaches.further}
use Rattle.rev_ranks.proofs.LeadsLemmas.{leads-sound, leads-complete}
use Rattle.rev_graph.specs.declared.fault.GraphFault.{GraphFault}
use Rattle.rev_graph.specs.declared.fault.GraphFault.TheVariants.{Memory, TooManyEdges, MultipleProducers, Cycle}
use Rattle.rev_graph.specs.Decided.{reaches_itself, least_on_cycle, cycle_at, double_or, graph_fault}
use Rattle.rev_graph.specs.Fault.{Explains, IsFaultless}
use Rattle.rev_graph.specs.Graph.{build_at, outputs_of, first_double, successor_lists, EdgeReaches, IsLeastOnCycle}
use Rattle.rev_graph.proofs.StepLemmas.{node_way, edge_way, length-lists, reached-outputs}

-- a node that is seen to reach itself does
sound : (graph : List (List ℕ)) (n : ℕ) → reaches_itself graph n ≡ true → Reaches graph n n
sound graph n h =
    let found = leads-sound graph (nat_eq n) n h in
    subst (λ (m : ℕ). Reaches graph n m) (sym (eqb-true n found.other found.passes)) found.way

complete : (graph : List (List ℕ)) (n : ℕ) → Reaches graph n n → reaches_itself graph n ≡ true
complete graph n way = leads-complete graph (nat_eq n) n n way (eq-eqb n n refl)

-- what is no node reaches nothing
past : (graph : List (List ℕ)) (n m : ℕ) → length graph ≤ n → Reaches graph n m → ⊥
past graph n m h way = no-way way
  where
    no-step : (s : ℕ) → Steps graph n s → ⊥
    no-step s (k, within, at) = omega (arith, within, ap length (get_or_past graph n [] h))

    no-way : Reaches graph n m → ⊥
    no-way (step s) = no-step m s
    no-way (further {s = s} first way) = no-step s first

not-true : (b : Bool) → (b ≡ true → ⊥) → b ≡ false
not-true true h = absurd (h refl)
not-true false h = refl

missed : (p : ℕ → Bool) (n a : ℕ) → ((k : ℕ) → a ≤ k → k < a + n → p k ≡ false) → find p (range_with_len a n) ≡ None
missed p zero a h = refl
missed p (suc n) a h = ap (λ b. cond b (Some a) (find p (range_with_len (a + 1) n))) (h a (omega arith) (omega arith)) ∙ missed p n (a + 1) (λ k low high. h k (omega arith) (omega arith))

found : (p : ℕ → Bool) (n a i : ℕ) → a ≤ i → i < a + n → ((k : ℕ) → a ≤ k → k < i → p k ≡ false) → p i ≡ true → find p (range_with_len a n) ≡ Some i
found p zero a i low high before here = absurd (omega arith)
found p (suc n) a i low high before here =
    elim (cases_eq a i) [
      | inl e ↦ ap (λ b. cond b (Some a) (find p (range_with_len (a + 1) n))) (ap p e ∙ here) ∙ ap Some e
      | inr other ↦
          ap (λ b. cond b (Some a) (find p (range_with_len (a + 1) n))) (before a (omega arith) (omega arith))
          ∙ found p n (a + 1) i (omega arith) (omega arith) (λ k l h. before k (omega arith) h) here
    ]

-- no cycle is found where there is none
no-cycle : (builds : List BuildValue) → ((edge : ℕ) → EdgeReaches builds edge edge → ⊥) → least_on_cycle (successor_lists builds) ≡ None
no-cycle builds h =
    let graph = successor_lists builds in
    missed (reaches_itself graph) (length graph) 0 (λ k low high. not-true (reaches_itself graph k) (λ r. h k (edge_way (sound graph k r))))

-- the least edge on a cycle is found
least-found : (builds : List BuildValue) (edge : ℕ) → IsLeastOnCycle builds edge → least_on_cycle (successor_lists builds) ≡ Some edge
least-found builds edge h =
    let graph = successor_lists builds in
    let within : edge < 0 + length graph = omega (arith, h.is_edge, length-lists builds) in
    found (reaches_itself graph) (length graph) 0 edge (omega arith) within
    (λ k low high. not-true (reaches_itself graph k) (λ r. h.least k high (edge_way (sound graph k r))))
    (complete graph edge (node_way h.on_cycle))

few-not : (n : ℕ) → n ≤ 262144 → nat_lt 262144 n ≡ false
few-not n h = le-ltb 262144 n h

-- edges without faults have none
pub faultless-decided : (builds : List BuildValue) → IsFaultless builds → graph_fault builds ≡ None
unfolding graph_fault
faultless-decided builds h =
    ap (λ b. if b then Some TooManyEdges else double_or (first_double builds) (cycle_at builds (least_on_cycle (successor_lists builds)))) (few-not (length builds) h.few)
    ∙ ap (λ o. double_or o (cycle_at builds (least_on_cycle (successor_lists builds)))) h.single
    ∙ ap (cycle_at builds) (no-cycle builds h.acyclic)

-- a fault that explains why there is no graph is the one that is found
pub fault-decided : (builds : List BuildValue) (fault : GraphFault) → fault ≢ Memory → Explains fault builds → graph_fault builds ≡ Some fault
unfolding graph_fault
fault-decided builds Memory other h = absurd (other refl)
fault-decided builds TooManyEdges other h =
    ap (λ b. if b then Some TooManyEdges else double_or (first_double builds) (cycle_at builds (least_on_cycle (successor_lists builds)))) (lt-ltb 262144 (length builds) h)
fault-decided builds (MultipleProducers path) other h =
    ap (λ b. if b then Some TooManyEdges else double_or (first_double builds) (cycle_at builds (least_on_cycle (successor_lists builds)))) (few-not (length builds) h.0)
    ∙ ap (λ o. double_or o (cycle_at builds (least_on_cycle (successor_lists builds)))) h.1
fault-decided builds (Cycle path) other h =
    ap (λ b. if b then Some TooManyEdges else double_or (first_double builds) (cycle_at builds (least_on_cycle (successor_lists builds)))) (few-not (length builds) h.0)
    ∙ ap (λ o. double_or o (cycle_at builds (least_on_cycle (successor_lists builds)))) h.1
    ∙ ap (cycle_at builds) (least-found builds h.2.edge h.2.least)
    ∙ ap (option_map Cycle) h.2.first_output

-- THE WAY BACK
-- where a search among numbers ends
record Found (p : ℕ → Bool) (n a i : ℕ) : Type 0 where
  low : a ≤ i
  high : i < a + n
  here : p i ≡ true
  before : (k : ℕ) → a ≤ k → k < i → p k ≡ false

-- where it finds none
all-missed : (p : ℕ → Bool) (n a : ℕ) → find p (range_with_len a n) ≡ None → (k : ℕ) → a ≤ k → k < a + n → p k ≡ false
all-missed p zero a h k low high = absurd (omega arith)
all-missed p (suc n) a h k low high = by (p a) refl (all-missed p n (a + 1)) h (cases_eq a k)
  where
    by : (b : Bool) → p a ≡ b → (find p (range_with_len (a + 1) n) ≡ None → (m : ℕ) → a + 1 ≤ m → m < a + 1 + n → p m ≡ false)
        → cond b (Some a) (find p (range_with_len (a + 1) n)) ≡ None → (a ≡ k) ⊎ (a ≢ k) → p k ≡ false
    by true e rest h same = cc
    by false e rest h (inl same) = ap p (sym same) ∙ e
    by false e rest h (inr other) = rest h k (omega arith) (omega arith)

found-at : (p : ℕ → Bool) (n a i : ℕ) → find p (range_with_len a n) ≡ Some i → Found p n a i
found-at p zero a i h = cc
found-at p (suc n) a i h = by (p a) refl (found-at p n (a + 1) i) h
  where
    wider : p a ≡ false → Found p n (a + 1) i → Found p (suc n) a i
    wider e f =
        record {
          low = omega (arith, f.low);
          high = omega (arith, f.high);
          here = f.here;
          before = λ k low high. elim (cases_eq a k) [ inl same ↦ ap p (sym same) ∙ e | inr other ↦ f.before k (omega arith) high ];
        }

    by : (b : Bool) → p a ≡ b → (find p (range_with_len (a + 1) n) ≡ Some i → Found p n (a + 1) i)
        → cond b (Some a) (find p (range_with_len (a + 1) n)) ≡ Some i → Found p (suc n) a i
    by true e rest h =
        let same : a ≡ i = cc in
        record { low = omega (arith, same); high = omega (arith, same); here = ap p (sym same) ∙ e; before = λ k low high. absurd (omega (arith, same)) }
    by false e rest h = wider e (rest h)

-- an edge that is not seen to reach itself does not
no-way : (builds : List BuildValue) (edge : ℕ) → reaches_itself (successor_lists builds) edge ≡ false → EdgeReaches builds edge edge → ⊥
no-way builds edge e way = no (sym (complete (successor_lists builds) edge (node_way way)) ∙ e)
  where
    no : true ≡ false → ⊥
    no h = cc

none-acyclic : (builds : List BuildValue) → least_on_cycle (successor_lists builds) ≡ None → (edge : ℕ) → EdgeReaches builds edge edge → ⊥
none-acyclic builds h edge way =
    let graph = successor_lists builds in
    elim (cases_lt edge (length graph)) [
      | inl within ↦ no-way builds edge (all-missed (reaches_itself graph) (length graph) 0 h edge (omega arith) (omega arith)) way
      | inr out ↦ past graph edge edge (omega arith) (node_way way)
    ]

least-is : (builds : List BuildValue) (edge : ℕ) → least_on_cycle (successor_lists builds) ≡ Some edge → IsLeastOnCycle builds edge
least-is builds edge h =
    let graph = successor_lists builds in
    let f = found-at (reaches_itself graph) (length graph) 0 edge h in
    record {
      is_edge = omega (arith, f.high, length-lists builds);
      on_cycle = edge_way (sound graph edge f.here);
      least = λ other lesser way. no-way builds other (f.before other (omega arith) lesser) way;
    }

some-first : (paths : List (List ℕ)) → 0 < length paths → slice_get paths 0 ≡ None → ⊥
some-first [] h e = omega (arith, h)
some-first (p ∷ ps) h e =
    let no : Some p ≡ None = e in
    cc

module _ (builds : List BuildValue) where
  of-cycle : (fault : GraphFault) (least : Option ℕ) → least_on_cycle (successor_lists builds) ≡ least → length builds ≤ 262144 → first_double builds ≡ None
      → cycle_at builds least ≡ Some fault → Explains fault builds
  of-cycle fault None l few single h = cc
  of-cycle fault (Some edge) l few single h = by (slice_get (outputs_of (build_at builds edge)) 0) refl h
    where
      by : (o : Option (List ℕ)) → slice_get (outputs_of (build_at builds edge)) 0 ≡ o → option_map Cycle o ≡ Some fault → Explains fault builds
      by None e h = cc
      by (Some path) e h =
          let same : Cycle path ≡ fault = cc in
          subst (λ (f : GraphFault). Explains f builds) same (few, single, record { edge = edge; least = least-is builds edge l; first_output = e })

  of-double : (fault : GraphFault) (double : Option (List ℕ)) → first_double builds ≡ double → length builds ≤ 262144
      → double_or double (cycle_at builds (least_on_cycle (successor_lists builds))) ≡ Some fault → Explains fault builds
  of-double fault None d few h = of-cycle fault (least_on_cycle (successor_lists builds)) refl few d h
  of-double fault (Some path) d few h =
      let same : MultipleProducers path ≡ fault = cc in subst (λ (f : GraphFault). Explains f builds) same (few, d)

  of-many : (fault : GraphFault) (many : Bool) → nat_lt 262144 (length builds) ≡ many
      → (if many then Some TooManyEdges else double_or (first_double builds) (cycle_at builds (least_on_cycle (successor_lists builds)))) ≡ Some fault → Explains fault builds
  of-many fault true m h =
      let same : TooManyEdges ≡ fault = cc in
      subst (λ (f : GraphFault). Explains f builds) same (ltb-true 262144 (length builds) m)
  of-many fault false m h =
      let few : length builds ≤ 262144 = omega (arith, ltb-false 262144 (length builds) m) in of-double fault (first_double builds) refl few h

  no-cycle-then : (least : Option ℕ) → least_on_cycle (successor_lists builds) ≡ least → length builds ≤ 262144 → first_double builds ≡ None
      → cycle_at builds least ≡ None → IsFaultless builds
  no-cycle-then None l few single h = record { few = few; single = single; acyclic = none-acyclic builds l }
  no-cycle-then (Some edge) l few single h = by (slice_get (outputs_of (build_at builds edge)) 0) refl h
    where
      by : (o : Option (List ℕ)) → slice_get (outputs_of (build_at builds edge)) 0 ≡ o → option_map Cycle o ≡ None → IsFaultless builds
      by None e h = absurd (some-first (outputs_of (build_at builds edge)) (reached-outputs ((least-is builds edge l).on_cycle)) e)
      by (Some path) e h = cc

  no-double-then : (double : Option (List ℕ)) → first_double builds ≡ double → length builds ≤ 262144
      → double_or double (cycle_at builds (least_on_cycle (successor_lists builds))) ≡ None → IsFaultless builds
  no-double-then None d few h = no-cycle-then (least_on_cycle (successor_lists builds)) refl few d h
  no-double-then (Some path) d few h = cc

  not-many-then : (many : Bool) → nat_lt 262144 (length builds) ≡ many
      → (if many then Some TooManyEdges else double_or (first_double builds) (cycle_at builds (least_on_cycle (successor_lists builds)))) ≡ None → IsFaultless builds
  not-many-then true m h = cc
  not-many-then false m h =
      let few : length builds ≤ 262144 = omega (arith, ltb-false 262144 (length builds) m) in no-double-then (first_double builds) refl few h

  -- the fault that is found explains why there is no graph
  pub decided-fault : (fault : GraphFault) → graph_fault builds ≡ Some fault → Explains fault builds
  unfolding graph_fault
  decided-fault fault h = of-many fault (nat_lt 262144 (length builds)) refl h

  -- where none is found the edges have none
  pub decided-faultless : graph_fault builds ≡ None → IsFaultless builds
  unfolding graph_fault
  decided-faultless h = not-many-then (nat_lt 262144 (length builds)) refl h
