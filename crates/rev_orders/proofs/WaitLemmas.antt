-- What marks of reached nodes say of a row, and when a list is an order.
use Rattle.std.proofs.Common.{◌≡◌, ◌↔◌, ℕ, ◌<◌, nat_eq, Bool, true, false, not, ◌&&◌, List, [], ◌∷◌, length, take, map, get_or, arith, refl, ap, sym, subst, ◌∙◌}
use Rattle.std.specs.Global.{Vec}
use Rattle.std.specs.List.{All}
use Rattle.std.proofs.lemmas.Bool.{false_from_ne_true, true≢false, eqb-true, eq-eqb}
use Rattle.rev_ranks.specs.Certificate.{FallsBelow}
use Rattle.rev_ranks.specs.Graph.{Reaches, Reaches.step, Reaches.further, Steps, graph_of, successors_of}
use Rattle.rev_ranks.specs.Leads.{IsReachable, IsReachable.root, IsReachable.behind, ReachesOne, is_reachable, leads_to}
use Rattle.rev_ranks.specs.Sets.{IsSetOf, is_marked}
use Rattle.rev_ranks.proofs.LeadsLemmas.{leads-sound, leads-complete}
use Rattle.rev_ranks.proofs.Ways.{nodes_are, reaches-falls, steps_from_node, successors_are}
use Rattle.rev_ranks.proofs.SetLemmas.{reachable-sound, reachable-complete}
use Rattle.rev_orders.specs.Orders.{at, IsOrder}
use Rattle.rev_orders.specs.Pairs.{is_unordered, waits, IsRow}

pub waits_reaches : (graph : List (List ℕ)) (n m : ℕ) → waits graph n m ≡ true → Reaches graph n m
waits_reaches graph n m h =
    let r = leads-sound graph (nat_eq m) n h in
    subst (Reaches graph n) (sym (eqb-true m r.other r.passes)) r.way

pub reaches_waits : (graph : List (List ℕ)) (n m : ℕ) → Reaches graph n m → waits graph n m ≡ true
reaches_waits graph n m way = leads-complete graph (nat_eq m) n m way (eq-eqb m m refl)

reach_of : (graph : List (List ℕ)) (n m : ℕ) → IsReachable graph (successors_of graph n) m → Reaches graph n m
reach_of graph n m (root h) = step h
reach_of graph n m (behind h way) = further h way

of_reach : (graph : List (List ℕ)) (n m : ℕ) → Reaches graph n m → IsReachable graph (successors_of graph n) m
of_reach graph n m (step h) = root h
of_reach graph n m (further h way) = behind h way

same_by : (a b : Bool) → (a ≡ true → b ≡ true) → (b ≡ true → a ≡ true) → a ≡ b
same_by true b f g = sym (f refl)
same_by false true f g = g refl
same_by false false f g = refl

-- the marks of what a node's steps reach tell what it waits for
pub marks_wait : (graph : List (List ℕ)) (node : ℕ) (roots : List ℕ) (marks : List Bool) → roots ≡ successors_of graph node → IsSetOf graph (is_reachable graph roots) marks → (m : ℕ) → is_marked marks m ≡ waits graph node m
marks_wait graph node roots marks are marked m = same_by (is_marked marks m) (waits graph node m)
    (λ h. reaches_waits graph node m (reach_of graph node m (subst (λ rs. IsReachable graph rs m) are (reachable-sound graph roots m (sym (marked.exact m) ∙ h)))))
    (λ h. marked.exact m ∙ reachable-complete graph roots m (subst (λ rs. IsReachable graph rs m) (sym are) (of_reach graph node m (waits_reaches graph node m h))))

-- what stands earlier does not wait for what stands later
pub earlier_waits_not : (graph : List (List ℕ)) (nodes places : List ℕ) (j k : ℕ) → IsOrder graph nodes places → j < k → k < length graph → waits graph (at nodes j) (at nodes k) ≡ false
earlier_waits_not graph nodes places j k order l within = false_from_ne_true (waits graph (at nodes j) (at nodes k)) (λ h.
    let falls : at places (at nodes k) < at places (at nodes j) = order.behind (at nodes j) (at nodes k) (waits_reaches graph (at nodes j) (at nodes k) h) in
    let left : at places (at nodes j) ≡ j = (order.node_at j (omega arith)).1 in
    let right : at places (at nodes k) ≡ k = (order.node_at k within).1 in
    omega arith)

-- so the row of what is not waited for is that of the unordered pairs
pub row_unordered : (graph : List (List ℕ)) (commands : List Bool) (nodes places : List ℕ) (k : ℕ) (roots : List ℕ) (marks row : List Bool) → IsOrder graph nodes places → k < length graph
    → roots ≡ successors_of graph (at nodes k) → IsSetOf graph (is_reachable graph roots) marks
    → IsRow (λ j. is_marked commands (at nodes j) && (is_marked commands (at nodes k) && not (is_marked marks (at nodes j)))) k row
    → IsRow (λ j. is_unordered graph commands (at nodes j) (at nodes k)) k row
row_unordered graph commands nodes places k roots marks row order within are marked is = record {
  each = is.each;
  exact = λ j l. is.exact j l ∙ ap (λ b. is_marked commands (at nodes j) && (is_marked commands (at nodes k) && b)) (here j l);
}
  where
    here : (j : ℕ) → j < k → not (is_marked marks (at nodes j)) ≡ (not (waits graph (at nodes j) (at nodes k)) && not (waits graph (at nodes k) (at nodes j)))
    here j l = ap not (marks_wait graph (at nodes k) roots marks are marked (at nodes j))
        ∙ sym (ap (λ b. not b && not (waits graph (at nodes k) (at nodes j))) (earlier_waits_not graph nodes places j k order l within))

-- THE CERTIFICATE OF AN ORDER
pub is_order : (xs : List (Vec ℕ)) (nodes places : List ℕ) → length nodes ≡ length xs → length places ≡ length xs → ((k : ℕ) → k < length nodes → (at nodes k < length places) × (at places (at nodes k) ≡ k))
    → ((n : ℕ) → n < length places → (at places n < length nodes) × (at nodes (at places n) ≡ n)) → FallsBelow (graph_of xs) places (length xs) → IsOrder (graph_of xs) nodes places
is_order xs nodes places each each_place back forth falls = record {
  each_node = each ∙ sym (nodes_are xs);
  each_place = each_place ∙ sym (nodes_are xs);
  node_at = λ k l. let h = back k (omega (arith, l, nodes_are xs)) in (omega (arith, h.0, nodes_are xs), h.1);
  place_of = λ n l. let h = forth n (omega (arith, l, nodes_are xs)) in (omega (arith, h.0, nodes_are xs), h.1);
  behind = λ n m way. reaches-falls (graph_of xs) places (λ a s st. falls a s (omega (arith, steps_from_node (graph_of xs) a s st, nodes_are xs)) st) way;
}

-- the row of a place, where its parts are given by equations
pub row_found : (xs : List (Vec ℕ)) (commands : List Bool) (first_nodes nodes places : List ℕ) (k : ℕ) (v : Vec ℕ) (roots : List ℕ) (marks given row : List Bool) → nodes ≡ first_nodes → IsOrder (graph_of xs) first_nodes places → k < length xs
    → v ≡ get_or xs (at nodes k) v → roots ≡ v.items → IsSetOf (graph_of xs) (is_reachable (graph_of xs) roots) marks → given ≡ marks
    → IsRow (λ j. is_marked commands (at nodes j) && (is_marked commands (at nodes k) && not (is_marked given (at nodes j)))) k row
    → IsRow (λ j. is_unordered (graph_of xs) commands (at first_nodes j) (at first_nodes k)) k row
row_found xs commands first_nodes nodes places k v roots marks given row same order within is list marked same_marks row_is =
    let inside : k < length (graph_of xs) = omega (arith, within, nodes_are xs) in
    let node : at first_nodes k < length xs = omega (arith, (order.node_at k inside).0, nodes_are xs) in
    let is' : v ≡ get_or xs (at first_nodes k) v = subst (λ (ns : List ℕ). v ≡ get_or xs (at ns k) v) same is in
    let row' = subst (λ (ns : List ℕ). IsRow (λ j. is_marked commands (at ns j) && (is_marked commands (at ns k) && not (is_marked given (at ns j)))) k row) same row_is in
    let row'' = subst (λ (ms : List Bool). IsRow (λ j. is_marked commands (at first_nodes j) && (is_marked commands (at first_nodes k) && not (is_marked ms (at first_nodes j)))) k row) same_marks row' in
    row_unordered (graph_of xs) commands first_nodes places k roots marks row order inside (list ∙ sym (successors_are xs (at first_nodes k) v node is')) marked row''
