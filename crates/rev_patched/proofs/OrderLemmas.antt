-- The paths of orders, one order after the other.
use Rattle.std.proofs.Common.{◌≡◌, ◌≢◌, ◌==◌, ◌+◌, ◌<◌, ℕ, zero, suc, ◌++◌, ◌∷◌, [], cond, List, map, filter, set, get_or, take, length, inl, inr, refl, sym, ap, ◌∙◌, append-nil, arith, eq-eqb}
use Rattle.std.specs.Global.{Vec}
use Rattle.std.proofs.lemmas.Bool.{cases_eq, ne_eqb}
use Rattle.std.proofs.lemmas.Grind.{get_or-set_at}
use Rattle.std.proofs.lemmas.List.{get_or-set_other, length-map, map-append, take_more}
use Rattle.std.proofs.lemmas.List.Elements.{filter-append}
use Rattle.rev_patched.specs.declared.orders.Order.{Order}
use Rattle.rev_patched.specs.Orders.{ordered_paths, paths_for}
use Rattle.rev_patched.specs.Same.{listed_at}

pub paths_for-append : (xs ys : List Order) (edge : ℕ) → paths_for (xs ++ ys) edge ≡ paths_for xs edge ++ paths_for ys edge
paths_for-append xs ys edge =
    ap (map (λ (o : Order). o.path.now)) (filter-append (λ (o : Order). o.edge == edge) xs ys)
    ∙ map-append (λ (o : Order). o.path.now) (filter (λ (o : Order). o.edge == edge) xs) (filter (λ (o : Order). o.edge == edge) ys)

-- one order
pub paths-here : (o : Order) (n : ℕ) → o.edge ≡ n → paths_for (o ∷ []) n ≡ o.path.now ∷ []
paths-here o n e = ap (λ b. map (λ (x : Order). x.path.now) (cond b (o ∷ []) [])) (eq-eqb o.edge n e)

pub paths-other : (o : Order) (n : ℕ) → o.edge ≢ n → paths_for (o ∷ []) n ≡ []
paths-other o n other = ap (λ b. map (λ (x : Order). x.path.now) (cond b (o ∷ []) [])) (ne_eqb o.edge n other)

-- LISTS
abbrev Lists : Type 0
Lists = List (Vec (List ℕ))

abbrev items_of : Vec (List ℕ) → List (List ℕ)
items_of v = v.items

listed-is : (xs : Lists) (k : ℕ) (v : Vec (List ℕ)) → k < length xs → v ≡ get_or xs k v → listed_at xs k ≡ v.items
listed-is [] k v within is = absurd (omega arith)
listed-is (x ∷ xs) zero v within is = ap items_of (sym is)
listed-is (x ∷ xs) (suc k) v within is = listed-is xs k v (omega arith) is

items-set : (xs : Lists) (at : ℕ) (w : Vec (List ℕ)) → map items_of (set xs at w) ≡ set (map items_of xs) at w.items
items-set [] at w = refl
items-set (x ∷ xs) zero w = refl
items-set (x ∷ xs) (suc at) w = ap (λ (rest : List (List (List ℕ))). x.items ∷ rest) (items-set xs at w)

-- the list of an order's edge gets its path, and every other list stays
pub pushed : (xs : Lists) (o : Order) (p : List ℕ) (v w : Vec (List ℕ)) → o.edge < length xs → v ≡ get_or xs o.edge v → w.items ≡ v.items ++ p ∷ [] → p ≡ o.path.now
    → (edge : ℕ) → edge < length xs → listed_at (set xs o.edge w) edge ≡ listed_at xs edge ++ paths_for (o ∷ []) edge
pushed xs o p v w within was is same edge inside = ap (λ (ls : List (List (List ℕ))). get_or ls edge []) (items-set xs o.edge w) ∙ elim (cases_eq edge o.edge) [
  | inl e ↦
      let there : o.edge < length (map items_of xs) = omega (arith, within, length-map xs items_of) in
      let old : listed_at xs edge ≡ v.items = ap (listed_at xs) e ∙ listed-is xs o.edge v within was in
      let more : paths_for (o ∷ []) edge ≡ p ∷ [] = paths-here o edge (sym e) ∙ ap (λ (q : List ℕ). q ∷ []) (sym same) in
      get_or-set_at (map items_of xs) o.edge edge w.items [] e there ∙ is ∙ (λ i. sym old i ++ sym more i)
  | inr other ↦
      let none : paths_for (o ∷ []) edge ≡ [] = paths-other o edge (λ e. other (sym e)) in
      get_or-set_other (map items_of xs) o.edge edge w.items [] other ∙ sym (append-nil (listed_at xs edge)) ∙ ap (λ ps. listed_at xs edge ++ ps) (sym none)
]

-- one order more
pub listed-more : (orders : List Order) (i : ℕ) (o : Order) (edge : ℕ) → i < length orders → o ≡ get_or orders i o
    → paths_for (take i orders) edge ++ paths_for (o ∷ []) edge ≡ paths_for (take (i + 1) orders) edge
listed-more orders i o edge within is =
    sym (ap (λ os. paths_for os edge) (take_more orders i o within) ∙ paths_for-append (take i orders) (get_or orders i o ∷ []) edge
    ∙ ap (λ (x : Order). paths_for (take i orders) edge ++ paths_for (x ∷ []) edge) (sym is))

pub ordered-more : (orders : List Order) (i : ℕ) (o : Order) → i < length orders → o ≡ get_or orders i o
    → ordered_paths (take i orders) ++ o.path.now ∷ [] ≡ ordered_paths (take (i + 1) orders)
ordered-more orders i o within is =
    sym (ap ordered_paths (take_more orders i o within) ∙ map-append (λ (x : Order). x.path.now) (take i orders) (get_or orders i o ∷ [])
    ∙ ap (λ (x : Order). ordered_paths (take i orders) ++ x.path.now ∷ []) (sym is))
