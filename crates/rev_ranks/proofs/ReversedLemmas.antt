-- Lists of nodes to which others step back.
use Rattle.std.proofs.Common.{◌≡◌, ◌≢◌, ℕ, ◌+◌, ◌<◌, zero, suc, List, [], ◌∷◌, ◌++◌, length, get_or, set, Contains, ◌⊎◌, inl, inr, refl, sym, ap, subst, ◌∙◌, arith}
use Rattle.std.specs.Global.{Vec}
use Rattle.std.specs.List.{All}
use Rattle.std.proofs.lemmas.Bool.{cases_eq}
use Rattle.std.proofs.lemmas.List.{get_or-set_same, get_or-set_other, length-set}
use Rattle.std.proofs.lemmas.List.Elements.{All-nil, All-cons, Contains-get_or, Contains-push, Contains-push_cases, Contains-append_left}
use Rattle.rev_ranks.specs.Graph.{graph_of, successors_of, Steps}
use Rattle.rev_ranks.specs.Sets.{AddsSteps, AreReversed, IsReversed}
use Rattle.rev_ranks.proofs.Ways.{nodes_are, steps_from_node, successors_are}

pub adds-none : (node : ℕ) (lists : List (List ℕ)) → AddsSteps node [] lists lists
adds-none node lists = record {
  length_is = refl;
  adds = λ s c. absurd (omega (arith, c.1));
  keeps = λ n s h. h;
  adds_only = λ n s h. inl h;
}

-- lists of which one has got a node more
pub record IsPushed (node at : ℕ) (before after : List (List ℕ)) : Type 0 where
  pub length_is : length after ≡ length before
  pub here : successors_of after at ≡ successors_of before at ++ node ∷ []
  pub others : (s : ℕ) → s ≢ at → successors_of after s ≡ successors_of before s

items-set : (xs : List (Vec ℕ)) (at : ℕ) (w : Vec ℕ) → graph_of (set xs at w) ≡ set (graph_of xs) at w.items
items-set [] at w = refl
items-set (x ∷ xs) zero w = refl
items-set (x ∷ xs) (suc at) w = ap (λ (rest : List (List ℕ)). x.items ∷ rest) (items-set xs at w)

pub pushed : (xs : List (Vec ℕ)) (node at : ℕ) (v w : Vec ℕ) → at < length xs → v ≡ get_or xs at v → w.items ≡ v.items ++ node ∷ [] → IsPushed node at (graph_of xs) (graph_of (set xs at w))
pushed xs node at v w within was is = record {
  length_is = nodes_are (set xs at w) ∙ length-set xs at w ∙ sym (nodes_are xs);
  here =
      ap (λ (lists : List (List ℕ)). successors_of lists at) (items-set xs at w) ∙ get_or-set_same (graph_of xs) at w.items [] (omega (arith, nodes_are xs)) ∙ is
      ∙ ap (λ (l : List ℕ). l ++ node ∷ []) (sym (successors_are xs at v within was));
  others = λ s other. ap (λ (lists : List (List ℕ)). successors_of lists s) (items-set xs at w) ∙ get_or-set_other (graph_of xs) at s w.items [] other;
}

module _ (node at : ℕ) (nexts : List ℕ) (before middle after : List (List ℕ)) (was : AddsSteps node nexts before middle) (is : IsPushed node at middle after) where
  step-kept : (n s : ℕ) → Steps middle s n → Steps after s n
  step-kept n s h = elim (cases_eq s at) [
    | inl same ↦
        let there : Contains (successors_of middle at ++ node ∷ []) n = Contains-append_left (successors_of middle at) (node ∷ []) n (subst (λ k. Steps middle k n) same h) in
        subst (λ k. Steps after k n) (sym same) (subst (λ (l : List ℕ). Contains l n) (sym is.here) there)
    | inr other ↦ subst (λ (l : List ℕ). Contains l n) (sym (is.others s other)) h
  ]

  step-source : (n s : ℕ) → Steps after s n → Steps middle s n ⊎ ((n ≡ node) × (s ≡ at))
  step-source n s h = elim (cases_eq s at) [
    | inl same ↦
        let there : Contains (successors_of middle at ++ node ∷ []) n = subst (λ (l : List ℕ). Contains l n) is.here (subst (λ k. Steps after k n) same h) in
        elim (Contains-push_cases (successors_of middle at) node n there) [
          | inl old ↦ inl (subst (λ k. Steps middle k n) (sym same) old)
          | inr e ↦ inr (sym e, same)
        ]
    | inr other ↦ inl (subst (λ (l : List ℕ). Contains l n) (is.others s other) h)
  ]

  pub adds-more : AddsSteps node (nexts ++ at ∷ []) before after
  adds-more = record {
    length_is = is.length_is ∙ was.length_is;
    adds = λ s c. elim (Contains-push_cases nexts at s c) [
      | inl old ↦ step-kept node s (was.adds s old)
      | inr e ↦ subst (λ k. Steps after k node) e (subst (λ (l : List ℕ). Contains l node) (sym is.here) (Contains-push (successors_of middle at) node))
    ];
    keeps = λ n s h. step-kept n s (was.keeps n s h);
    adds_only = λ n s h. elim (step-source n s h) [
      | inl old ↦ elim (was.adds_only n s old) [ inl a ↦ inl a | inr b ↦ inr (b.0, Contains-append_left nexts (at ∷ []) s b.1) ]
      | inr new ↦ inr (new.0, subst (Contains (nexts ++ at ∷ [])) (sym new.1) (Contains-push nexts at))
    ];
  }

pub adding-of : (node : ℕ) (nexts given : List ℕ) (before after : List (List ℕ)) → given ≡ nexts → AddsSteps node nexts before after → AddsSteps node given before after
adding-of node nexts given before after same is = subst (λ (front : List ℕ). AddsSteps node front before after) (sym same) is

-- WHOLE GRAPHS
pub reversed-none : (graph reversed : List (List ℕ)) → length reversed ≡ length graph → ((s n : ℕ) → Steps reversed s n → ⊥) → AreReversed graph 0 reversed
reversed-none graph reversed len none = record { length_is = len; back = λ n s h. absurd (omega arith); forth = λ n s h. absurd (none s n h) }

pub reversed-more : (graph : List (List ℕ)) (node : ℕ) (before after : List (List ℕ)) → AreReversed graph node before → AddsSteps node (successors_of graph node) before after → AreReversed graph (node + 1) after
reversed-more graph node before after was is = record {
  length_is = is.length_is ∙ was.length_is;
  back = λ n s h t. elim (cases_eq n node) [
    | inl same ↦ subst (λ k. Steps after s k) (sym same) (is.adds s (subst (λ k. Steps graph k s) same t))
    | inr other ↦ is.keeps n s (was.back n s (omega arith) t)
  ];
  forth = λ n s h. elim (is.adds_only n s h) [
    | inl old ↦ was.forth n s old
    | inr new ↦ subst (λ k. Steps graph k s) (sym new.0) new.1
  ];
}

pub reversed-all : (graph reversed : List (List ℕ)) → AreReversed graph (length graph) reversed → IsReversed graph reversed
reversed-all graph reversed are = record {
  length_is = are.length_is;
  back = λ n s h. are.back n s (steps_from_node graph n s h) h;
  forth = are.forth;
}

-- a graph with one node more, which steps nowhere
pub steps-push : (xs : List (Vec ℕ)) (v : Vec ℕ) → v.items ≡ [] → ((s n : ℕ) → Steps (graph_of xs) s n → ⊥) → (s n : ℕ) → Steps (graph_of (xs ++ v ∷ [])) s n → ⊥
steps-push [] v empty none zero n h = let there : Contains {X = ℕ} [] n = subst (λ (l : List ℕ). Contains l n) empty h in omega (arith, there.1)
steps-push [] v empty none (suc s) n h = omega (arith, h.1)
steps-push (x ∷ xs) v empty none zero n h = none 0 n h
steps-push (x ∷ xs) v empty none (suc s) n h = steps-push xs v empty (λ t m k. none (suc t) m k) s n h

-- lists in which all that steps lead to is below a bound
pub all-inside : (xs : List (Vec ℕ)) (bound : ℕ) → ((s n : ℕ) → Steps (graph_of xs) s n → n < bound) → All (λ (v : Vec ℕ). All (λ s. s < bound) v.items) xs
all-inside [] bound h = All-nil (λ (v : Vec ℕ). All (λ s. s < bound) v.items)
all-inside (x ∷ xs) bound h =
    All-cons (λ (v : Vec ℕ). All (λ s. s < bound) v.items) x xs (λ j e m. h 0 (get_or x.items j e) (Contains-get_or x.items j e m)) (all-inside xs bound (λ s n k. h (suc s) n k))
