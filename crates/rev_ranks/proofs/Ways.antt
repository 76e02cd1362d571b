-- Ways through a graph.
use Rattle.std.proofs.Common.{◌≡◌, ℕ, ◌<◌, inl, inr, List, [], ◌∷◌, length, get_or, arith, sym, ◌∙◌, ap, subst}
use Rattle.std.specs.Global.{Vec}
use Rattle.std.specs.List.{All, Contains}
use Rattle.std.specs.Prelude.{IfOk, OnOk}
use Rattle.std.specs.declared.result.Result.{Result}
use Rattle.std.specs.declared.result.Result.TheVariants.{Ok, Err}
use Rattle.std.proofs.lemmas.Bool.{cases_lt}
use Rattle.std.proofs.lemmas.List.{get_or-map, get_or_past, length-map}
use Rattle.std.proofs.lemmas.List.Elements.{All-contains}
use Rattle.rev_ranks.specs.declared.fault.RankFault.{RankFault}
use Rattle.rev_ranks.specs.Graph.{AreRanks, IsLeastOnCycle, Reaches, Reaches.step, Reaches.further, Steps, graph_of, successors_of}

-- one step more at the end of a way
pub reaches_more : {graph : List (List ℕ)} {n m s : ℕ} → Reaches graph n m → Steps graph m s → Reaches graph n s
reaches_more (step h) k = further h (step k)
reaches_more (further h r) k = further h (reaches_more r k)

module _ (graph : List (List ℕ)) (ranks : List ℕ) (falls : (n s : ℕ) → Steps graph n s → get_or ranks s 0 < get_or ranks n 0) where
  pub reaches-falls : {n m : ℕ} → Reaches graph n m → get_or ranks m 0 < get_or ranks n 0
  reaches-falls {n} {m} (step h) = falls n m h
  reaches-falls {n} {m} (further {s = s} h r) = omega (arith, falls n s h, reaches-falls r)

  pub ranked-acyclic : (n : ℕ) → Reaches graph n n → ⊥
  ranked-acyclic n r = omega (arith, reaches-falls r)

-- where an answer has ranks no node reaches itself
pub acyclic_where_ok : (graph : List (List ℕ)) (r : Result (Vec ℕ) RankFault) → IfOk r (λ v. AreRanks graph v.items) → OnOk r ((n : ℕ) → Reaches graph n n → ⊥)
acyclic_where_ok graph (Ok v) are = λ n way. ranked-acyclic graph v.items are.falls n way
acyclic_where_ok graph (Err e) are = tt

-- THE GRAPH OF LISTS
-- what steps is a node
pub steps_from_node : (graph : List (List ℕ)) (n s : ℕ) → Steps graph n s → n < length graph
steps_from_node graph n s h = elim (cases_lt n (length graph)) [
  | inl l ↦ l
  | inr past ↦
      let none : successors_of graph n ≡ [] = get_or_past graph n [] past in
      let at : Contains {X = ℕ} [] s = subst (λ (xs : List ℕ). Contains xs s) none h in
      absurd (omega (arith, at.1))
]

-- the list of a node
pub successors_are : (xs : List (Vec ℕ)) (n : ℕ) (v : Vec ℕ) → n < length xs → v ≡ get_or xs n v → successors_of (graph_of xs) n ≡ v.items
successors_are xs n v h e = get_or-map (λ (w : Vec ℕ). w.items) xs n v [] h ∙ ap (λ (w : Vec ℕ). w.items) (sym e)

pub successors_inside : (xs : List (Vec ℕ)) (n : ℕ) (v : Vec ℕ) → All (λ (w : Vec ℕ). All (λ s. s < length xs) w.items) xs → n < length xs → v ≡ get_or xs n v → All (λ s. s < length xs) v.items
successors_inside xs n v inside h e = subst (λ (w : Vec ℕ). All (λ s. s < length xs) w.items) (sym e) (inside n v h)

pub nodes_are : (xs : List (Vec ℕ)) → length (graph_of xs) ≡ length xs
nodes_are xs = length-map xs (λ (w : Vec ℕ). w.items)

pub steps_inside : (xs : List (Vec ℕ)) → All (λ (w : Vec ℕ). All (λ s. s < length xs) w.items) xs → (n s : ℕ) → Steps (graph_of xs) n s → s < length (graph_of xs)
steps_inside [] inside n s h = absurd (omega (arith, steps_from_node (graph_of []) n s h))
steps_inside (x ∷ xs) inside n s h =
    let within : n < length (x ∷ xs) = omega (arith, steps_from_node (graph_of (x ∷ xs)) n s h, nodes_are (x ∷ xs)) in
    let e : successors_of (graph_of (x ∷ xs)) n ≡ (get_or (x ∷ xs) n x).items = get_or-map (λ (w : Vec ℕ). w.items) (x ∷ xs) n x [] within in
    let at : Contains (get_or (x ∷ xs) n x).items s = subst (λ (l : List ℕ). Contains l s) e h in
    let below : s < length (x ∷ xs) = All-contains (λ t. t < length (x ∷ xs)) (get_or (x ∷ xs) n x).items s (inside n x within) at in
    omega (arith, below, nodes_are (x ∷ xs))

pub reaches_from_node : {graph : List (List ℕ)} {n m : ℕ} → Reaches graph n m → n < length graph
reaches_from_node {graph} {n} {m} (step h) = steps_from_node graph n m h
reaches_from_node {graph} {n} {m} (further {s = s} h r) = steps_from_node graph n s h

-- one node at most is the least on a cycle
pub least_is_one : (graph : List (List ℕ)) (n m : ℕ) → IsLeastOnCycle graph n → IsLeastOnCycle graph m → n ≡ m
least_is_one graph n m a b =
    elim (cases_lt n m) [
      | inl below ↦ absurd (b.least n below a.on_cycle)
      | inr above ↦ elim (cases_lt m n) [ inl below ↦ absurd (a.least m below b.on_cycle) | inr over ↦ omega arith ]
    ]
