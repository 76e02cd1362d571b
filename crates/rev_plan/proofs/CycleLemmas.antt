-- The cycle that a plan names.
use Rattle.std.proofs.Common.{◌≡◌, ℕ, ◌+◌, ◌<◌, ◌≤◌, zero, suc, nat_eq, Bool, true, false, cond, ◌&&◌, List, length, find, Option, Some, None, inl, inr, refl, sym, ap, subst, ◌∙◌, arith, eqb-true, eq-eqb, true≢false}
use Rattle.std.specs.List.{range_with_len}
use Rattle.std.specs.Option.{option_map}
use Rattle.std.proofs.lemmas.Bool.{cases_eq}
use Rattle.rev_manifest.specs.Manifest.{BuildValue}
use Rattle.rev_graph.proofs.GraphLemmas.{producer_of-within}
use Rattle.rev_cells.specs.State.{State}
use Rattle.rev_dirty.specs.Inputs.{producers_in}
use Rattle.rev_ranks.specs.Graph.{Reaches, Reaches.step as one, Reaches.further as on}
use Rattle.rev_plan.specs.Laws.{CycleIsNamed}
use Rattle.rev_plan.specs.Least.{Reached, Reached.target, Reached.needed, WayBy, WayBy.one_step, WayBy.then_on, IsLeast, IsCyclic}
use Rattle.rev_plan.specs.Plan.{PlanRefusal, PlanRefusal.DepsCycle, input_paths, edges_by, edge_numbers, is_reached, is_on_cycle, deps_cycle}
use Rattle.rev_ranks.proofs.LeadsLemmas.{leads-sound, leads-complete}
use Rattle.rev_plan.proofs.Searches.{HoldsLeast, find-holds}
use Rattle.rev_plan.proofs.LeastLemmas.{to-node, from-node, reached-sound, reached-complete, and-both, both-and}

-- WHAT IS NAMED
mapped-some : {A : Type 0} (f : ℕ → A) (g : A → ℕ) → ((n : ℕ) → g (f n) ≡ n) → (o : Option ℕ) (k : ℕ) → option_map f o ≡ Some (f k) → o ≡ Some k
mapped-some f g back None k h =
    let no : None ≡ Some (f k) = h in
    cc
mapped-some f g back (Some n) k h =
    let same : f n ≡ f k = cc in
    ap Some (sym (back n) ∙ ap g same ∙ back k)

mapped-none : {A : Type 0} (f : ℕ → A) (o : Option ℕ) → option_map f o ≡ None → o ≡ None
mapped-none f None h = refl
mapped-none f (Some n) h =
    let no : Some (f n) ≡ None = h in
    cc

edge_in : PlanRefusal → ℕ
edge_in (DepsCycle edge) = edge
edge_in _ = 0

module _ (builds : List BuildValue) (state : State) (targets : List (List ℕ)) where
  abbrev Inputs : List (List ℕ)
  Inputs = edges_by (input_paths state) builds

  node-way : {edge other : ℕ} → WayBy (input_paths state) builds edge other → Reaches Inputs edge other
  node-way {edge} {other} (one_step s) = one (to-node (input_paths state) refl builds edge other s)
  node-way {edge} {other} (then_on {middle = m} s way) = on (to-node (input_paths state) refl builds edge m s) (node-way way)

  edge-way : {edge other : ℕ} → Reaches Inputs edge other → WayBy (input_paths state) builds edge other
  edge-way {edge} {other} (one h) = one_step (from-node (input_paths state) refl builds edge other h)
  edge-way {edge} (on {s = m} h way) = then_on (from-node (input_paths state) refl builds edge m h) (edge-way way)

  test : ℕ → Bool
  test edge = is_reached builds state (producers_in builds targets) edge && is_on_cycle builds state edge

  cyclic : (edge : ℕ) → test edge ≡ true → IsCyclic builds state targets edge
  unfolding test
  cyclic edge h =
      let both = and-both (is_reached builds state (producers_in builds targets) edge) (is_on_cycle builds state edge) h in
      let r = leads-sound Inputs (nat_eq edge) edge both.1 in
      (reached-sound builds state targets edge both.0, edge-way (subst (Reaches Inputs edge) (sym (eqb-true edge r.other r.passes)) r.way))

  is-cyclic : (edge : ℕ) → IsCyclic builds state targets edge → test edge ≡ true
  unfolding test
  is-cyclic edge c =
      both-and (is_reached builds state (producers_in builds targets) edge) (is_on_cycle builds state edge) (reached-complete builds state targets c.0)
      (leads-complete Inputs (nat_eq edge) edge edge (node-way c.1) (eq-eqb edge edge refl))

  pub reached-within : {edge : ℕ} → Reached builds state targets edge → edge < length builds
  reached-within {edge} (target path h e) = producer_of-within path builds edge e
  reached-within {edge} (needed r s) = producer_of-within s.path builds edge s.produced

  pub cyclic-holds : HoldsLeast (IsCyclic builds state targets) (find (λ edge. is_reached builds state (producers_in builds targets) edge && is_on_cycle builds state edge) (edge_numbers builds))
  unfolding test
  cyclic-holds =
      find-holds test (length builds) (IsCyclic builds state targets) (λ k p. cyclic k p.passes) (λ k c. record { within = reached-within c.0; passes = is-cyclic k c })

  named : (edge : ℕ) → deps_cycle builds state (producers_in builds targets) ≡ Some (DepsCycle edge) → IsLeast (IsCyclic builds state targets) edge
  unfolding edge_in
  named edge h = cyclic-holds.some edge (mapped-some DepsCycle edge_in (λ n. refl) _ edge h)

  none : deps_cycle builds state (producers_in builds targets) ≡ None → (edge : ℕ) → IsCyclic builds state targets edge → ⊥
  none h = cyclic-holds.none (mapped-none DepsCycle _ h)

pub cycle-is-named : CycleIsNamed
cycle-is-named = record { named = named; none = none }
