-- Which marks of a row are pairs that are left.
use Rattle.std.proofs.Common.{◌≡◌, ℕ, zero, suc, ◌+◌, ◌*◌, ◌<◌, ◌≤◌, nat_lt, nat_eq, Bool, true, false, not, ◌&&◌, ◌||◌, List, [], ◌∷◌, ◌++◌, length, take, drop, map, get_or, inl, inr, arith, refl, ap, sym, subst, ◌∙◌}
use Rattle.std.specs.List.{All, list_any, list_all}
use Rattle.std.proofs.lemmas.Bool.{cases_lt, lt-ltb, le-ltb}
use Rattle.std.proofs.lemmas.List.{get_or_default, get_or_past, length-map, take_at}
use Rattle.std.proofs.lemmas.List.Elements.{All-take}
use Rattle.rev_ranks.specs.Sets.{is_marked}
use Rattle.rev_orders.specs.declared.order.Order.{Order}
use Rattle.rev_orders.specs.Orders.{at, IsOrder}
use Rattle.rev_orders.specs.Pairs.{are_before, count, count_nodes, count_pairs, is_before, is_left, is_unordered, places_of, stood, AreCounts, IsAdded, IsRow}
use Rattle.rev_orders.proofs.Rows.{count_alike, count_within, pairs_more, pairs_within}

-- all of these orders have the two nodes at different places
abbrev pub AreApart : List (List ℕ) → ℕ → ℕ → Type 0
AreApart orders n m = All (λ places. at places n ≡ at places m → ⊥) orders

lt_not : (a b : ℕ) → (a ≡ b → ⊥) → nat_lt a b ≡ not (nat_lt b a)
lt_not a b apart = elim (cases_lt a b) [
  | inl below ↦ lt-ltb a b below ∙ sym (ap not (le-ltb b a (omega arith)))
  | inr above ↦
      let strict : b < a = omega arith in
      le-ltb a b above ∙ sym (ap not (lt-ltb b a strict))
]

not_or : (a b : Bool) → not (a || b) ≡ (not a && not b)
not_or true b = refl
not_or false b = refl

rest_apart : (places : List ℕ) (orders : List (List ℕ)) (n m : ℕ) → AreApart (places ∷ orders) n m → AreApart orders n m
rest_apart places orders n m apart = λ k d l. apart (suc k) d (omega arith)

-- where no order has the later node first, all have the earlier one first
all_or_one : (orders : List (List ℕ)) (n m : ℕ) → AreApart orders n m → list_all (λ places. nat_lt (at places n) (at places m)) orders ≡ not (stood orders m n)
all_or_one [] n m apart = refl
all_or_one (places ∷ orders) n m apart =
    let here : nat_lt (at places n) (at places m) ≡ not (nat_lt (at places m) (at places n)) = lt_not (at places n) (at places m) (apart 0 [] (omega arith)) in
    let rest : list_all (λ places. nat_lt (at places n) (at places m)) orders ≡ not (stood orders m n) = all_or_one orders n m (rest_apart places orders n m apart) in
    ap (λ b. b && list_all (λ places. nat_lt (at places n) (at places m)) orders) here ∙ ap (λ b. not (nat_lt (at places m) (at places n)) && b) rest ∙ sym (not_or (nat_lt (at places m) (at places n)) (stood orders m n))

one_way : (f g a b : Bool) → f ≡ true → g ≡ false → not ((f || a) && (g || b)) ≡ not b
one_way true true a b e h = absurd (let no : true ≡ false = h in cc)
one_way true false a b e h = refl
one_way false g a b e h = absurd (let no : false ≡ true = e in cc)

-- so behind a first order that has the one node first, those of the others that all have it first tell what is left
pub left_by_first : (graph : List (List ℕ)) (commands : List Bool) (places : List ℕ) (orders : List (List ℕ)) (n m : ℕ) → at places n < at places m → AreApart orders n m
    → (is_unordered graph commands n m && list_all (λ places. nat_lt (at places n) (at places m)) orders) ≡ is_left graph commands (places ∷ orders) n m
left_by_first graph commands places orders n m first apart =
    ap (λ b. is_unordered graph commands n m && b) (all_or_one orders n m apart
    ∙ sym (one_way (nat_lt (at places n) (at places m)) (nat_lt (at places m) (at places n)) (stood orders n m) (stood orders m n) (lt-ltb (at places n) (at places m) first) (le-ltb (at places m) (at places n) (omega arith))))

-- ORDERS
module _ (graph : List (List ℕ)) (nodes places : List ℕ) (order : IsOrder graph nodes places) where
  -- the nodes of two places are two
  pub nodes_apart : (j k : ℕ) → j < k → k < length graph → at nodes j ≡ at nodes k → ⊥
  nodes_apart j k l within same =
      let left : at places (at nodes j) ≡ j = (order.node_at j (omega arith)).1 in
      let right : at places (at nodes k) ≡ k = (order.node_at k within).1 in
      let e : at places (at nodes j) ≡ at places (at nodes k) = ap (at places) same in
      omega arith

  -- and two nodes have two places
  pub places_apart : (n m : ℕ) → n < length graph → m < length graph → (n ≡ m → ⊥) → at places n ≡ at places m → ⊥
  places_apart n m one other apart same =
      apart (sym ((order.place_of n one).1) ∙ ap (at nodes) same ∙ (order.place_of m other).1)

  pub first_before : (j k : ℕ) → j < k → k < length graph → at places (at nodes j) < at places (at nodes k)
  first_before j k l within =
      let left : at places (at nodes j) ≡ j = (order.node_at j (omega arith)).1 in
      let right : at places (at nodes k) ≡ k = (order.node_at k within).1 in
      omega arith

-- COUNTS
pub counts_none : (graph : List (List ℕ)) (commands : List Bool) (nodes places : List ℕ) (orders : List (List ℕ)) (left : List ℕ) → length left ≡ length orders → ((i : ℕ) → at left i ≡ 0)
    → AreCounts graph commands nodes places orders 0 0 left
counts_none graph commands nodes places orders left each none = record { each = each; all = refl; exact = λ i l. none i }

pub counts_more : (graph : List (List ℕ)) (commands : List Bool) (nodes places : List ℕ) (orders : List (List ℕ)) (k unordered : ℕ) (left : List ℕ) (row row_after : List Bool) (left_after : List ℕ) (more : ℕ)
    → AreCounts graph commands nodes places orders k unordered left → IsOrder graph nodes places → k < length graph
    → ((i : ℕ) → i < length orders → (n m : ℕ) → n < length graph → m < length graph → (n ≡ m → ⊥) → AreApart (take (i + 1) orders) n m)
    → IsRow (λ j. is_unordered graph commands (at nodes j) (at nodes k)) k row → more ≡ count (is_marked row) k → IsAdded nodes k orders row left (length orders) row_after left_after
    → AreCounts graph commands nodes places orders (k + 1) (unordered + more) left_after
counts_more graph commands nodes places orders k unordered left row row_after left_after more was order within apart is_row is added = record {
  each = added.each ∙ was.each;
  all = ap (λ n. n + more) was.all ∙ ap (λ n. count_nodes (is_unordered graph commands) nodes k + n) all_here ∙ sym (pairs_more (λ j k. is_unordered graph commands (at nodes j) (at nodes k)) k);
  exact = λ i l. added.added i l ∙ ap (λ n. n + count (λ j. is_marked row j && are_before nodes k (take (i + 1) orders) j) k) (was.exact i l)
      ∙ ap (λ n. count_nodes (is_left graph commands (places ∷ take (i + 1) orders)) nodes k + n) (left_here i l)
      ∙ sym (pairs_more (λ j k. is_left graph commands (places ∷ take (i + 1) orders) (at nodes j) (at nodes k)) k);
}
  where
    all_here : more ≡ count (λ j. is_unordered graph commands (at nodes j) (at nodes k)) k
    all_here = is ∙ count_alike (is_marked row) (λ j. is_unordered graph commands (at nodes j) (at nodes k)) k is_row.exact

    node_within : (j : ℕ) → j ≤ k → at nodes j < length graph
    node_within j l = (order.node_at j (omega arith)).0

    left_here : (i : ℕ) → i < length orders → count (λ j. is_marked row j && are_before nodes k (take (i + 1) orders) j) k ≡ count (λ j. is_left graph commands (places ∷ take (i + 1) orders) (at nodes j) (at nodes k)) k
    left_here i l = count_alike (λ j. is_marked row j && are_before nodes k (take (i + 1) orders) j) (λ j. is_left graph commands (places ∷ take (i + 1) orders) (at nodes j) (at nodes k)) k
        (λ j below. ap (λ b. b && are_before nodes k (take (i + 1) orders) j) (is_row.exact j below)
        ∙ left_by_first graph commands places (take (i + 1) orders) (at nodes j) (at nodes k) (first_before graph nodes places order j k below within)
        (apart i l (at nodes j) (at nodes k) (node_within j (omega arith)) (node_within k (omega arith)) (nodes_apart graph nodes places order j k below within)))

-- WHERE THE PARTS OF A STEP ARE GIVEN BY EQUATIONS
pub counts_room : (graph : List (List ℕ)) (commands : List Bool) (nodes places : List ℕ) (orders : List (List ℕ)) (k unordered : ℕ) (left : List ℕ) → AreCounts graph commands nodes places orders k unordered left → k < 4294967296 → (i : ℕ) → at left i + k < 18446744073709551616
counts_room graph commands nodes places orders k unordered left was few i = elim (cases_lt i (length left)) [
  | inl within ↦
      let exact = was.exact i (omega (arith, was.each)) in
      let most = pairs_within (λ j k. is_left graph commands (places ∷ take (i + 1) orders) (at nodes j) (at nodes k)) k (omega arith) in
      omega (arith, exact, most)
  | inr past ↦ omega (arith, get_or_past left i 0 past)
]

pub all_room : (graph : List (List ℕ)) (commands : List Bool) (nodes places : List ℕ) (orders : List (List ℕ)) (k unordered : ℕ) (left : List ℕ) → AreCounts graph commands nodes places orders k unordered left → k < 4294967296 → unordered + k < 18446744073709551616
all_room graph commands nodes places orders k unordered left was few =
    omega (arith, was.all, pairs_within (λ j k. is_unordered graph commands (at nodes j) (at nodes k)) k (omega arith))

pub marks_few : (row : List Bool) (given : List Bool) (k : ℕ) → given ≡ row → length row ≡ k → count (is_marked given) (length given) ≤ k
marks_few row given k same each = omega (arith, count_within (is_marked given) (length given), ap length same, each)

pub nodes_within : (graph : List (List ℕ)) (first_nodes places nodes : List ℕ) → IsOrder graph first_nodes places → nodes ≡ first_nodes → (k d : ℕ) → k < length nodes → get_or nodes k d < length graph
nodes_within graph first_nodes places nodes order same k d within =
    let same_length : length nodes ≡ length first_nodes = ap length same in
    let inside : k < length first_nodes = omega arith in
    let node = (order.node_at k (omega (arith, inside, order.each_node))).0 in
    let e : get_or nodes k d ≡ at first_nodes k = ap (λ (ns : List ℕ). get_or ns k d) same ∙ get_or_default first_nodes k d 0 inside in
    omega (arith, e, node)

others_apart : (graph : List (List ℕ)) (others : List Order) (n m : ℕ) → All (λ (o : Order). IsOrder graph o.nodes.items o.places.items) others → n < length graph → m < length graph → (n ≡ m → ⊥) → AreApart (places_of others) n m
others_apart graph [] n m all one other apart k d l = absurd (omega (arith, l))
others_apart graph (o ∷ others) n m all one other apart zero d l = places_apart graph o.nodes.items o.places.items (all 0 o (omega arith)) n m one other apart
others_apart graph (o ∷ others) n m all one other apart (suc k) d l = others_apart graph others n m (λ k d l. all (suc k) d (omega arith)) one other apart k d (omega arith)

pub written_back : (n : ℕ) (after before : List ℕ) → length after ≡ n → take n (after ++ drop (length after) before) ≡ after
written_back n after before each = take_at after (drop (length after) before) n each

pub counts_step : (graph : List (List ℕ)) (commands : List Bool) (first_nodes nodes places : List ℕ) (others : List Order) (k unordered : ℕ) (left left' : List ℕ) (row row' row'' row_after : List Bool) (left_after : List ℕ) (more : ℕ)
    → AreCounts graph commands first_nodes places (places_of others) k unordered left → IsOrder graph first_nodes places → k < length graph → All (λ (o : Order). IsOrder graph o.nodes.items o.places.items) others
    → IsRow (λ j. is_unordered graph commands (at first_nodes j) (at first_nodes k)) k row → row' ≡ row → more ≡ count (is_marked row') (length row') → nodes ≡ first_nodes → row'' ≡ row → left' ≡ left
    → IsAdded nodes k (places_of others) row'' left' (length others) row_after left_after
    → AreCounts graph commands first_nodes places (places_of others) (k + 1) (unordered + more) left_after
counts_step graph commands first_nodes nodes places others k unordered left left' row row' row'' row_after left_after more was order within all is_row same_row is same_nodes same_row' same_left added =
    let added_at : IsAdded nodes k (places_of others) row'' left' (length (places_of others)) row_after left_after = subst (λ n. IsAdded nodes k (places_of others) row'' left' n row_after left_after) (sym (length-map others (λ (o : Order). o.places.items))) added in
    let on_nodes : IsAdded first_nodes k (places_of others) row'' left' (length (places_of others)) row_after left_after = subst (λ (ns : List ℕ). IsAdded ns k (places_of others) row'' left' (length (places_of others)) row_after left_after) same_nodes added_at in
    let on_row : IsAdded first_nodes k (places_of others) row left' (length (places_of others)) row_after left_after = subst (λ (r : List Bool). IsAdded first_nodes k (places_of others) r left' (length (places_of others)) row_after left_after) same_row' on_nodes in
    let on_left : IsAdded first_nodes k (places_of others) row left (length (places_of others)) row_after left_after = subst (λ (ls : List ℕ). IsAdded first_nodes k (places_of others) row ls (length (places_of others)) row_after left_after) same_left on_row in
    let counted : more ≡ count (is_marked row) k = is ∙ ap (λ (r : List Bool). count (is_marked r) (length r)) same_row ∙ ap (count (is_marked row)) is_row.each in
    counts_more graph commands first_nodes places (places_of others) k unordered left row row_after left_after more was order within
    (λ i l n m one other apart. All-take (λ (ps : List ℕ). at ps n ≡ at ps m → ⊥) (i + 1) (places_of others) (others_apart graph others n m all one other apart)) is_row counted on_left
