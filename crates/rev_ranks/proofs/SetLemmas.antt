-- What is reachable from several nodes, as a relation and as a function.
use Rattle.std.proofs.Common.{◌≡◌, ℕ, nat_eq, Bool, true, false, List, Contains, inl, inr, refl, sym, subst, ◌∙◌, eqb-true, eq-eqb}
use Rattle.std.specs.List.{list_any}
use Rattle.rev_ranks.specs.Graph.{Reaches, Reaches.step, Reaches.further}
use Rattle.rev_ranks.specs.Leads.{leads_to, is_one_of, is_reachable, IsReachable, IsReachable.root, IsReachable.behind, ReachableExactly}
use Rattle.rev_ranks.specs.Sets.{IsMarked, is_marked, IsReachableSet, IsSetOf, IsReversed, is_marked_or_leads}
use Rattle.rev_ranks.proofs.LeadsLemmas.{or-cases, or-left, or-right, passing, any-passes, leads-sound, leads-complete}
use Rattle.rev_ranks.proofs.Ways.{reaches_more}

-- two tests that pass together are one
pub same-tests : (a b : Bool) → (a ≡ true → b ≡ true) → (b ≡ true → a ≡ true) → a ≡ b
same-tests true b h k = sym (h refl)
same-tests false true h k = k refl
same-tests false false h k = refl

pub one-of : (numbers : List ℕ) (n : ℕ) → is_one_of numbers n ≡ true → Contains numbers n
one-of numbers n h =
    let f = passing (λ k. nat_eq k n) numbers h in
    subst (Contains numbers) (eqb-true f.item n f.passes) f.there

pub is-one-of : (numbers : List ℕ) (n : ℕ) → Contains numbers n → is_one_of numbers n ≡ true
is-one-of numbers n h = any-passes (λ k. nat_eq k n) numbers n h (eq-eqb n n refl)

pub reachable-sound : (graph : List (List ℕ)) (roots : List ℕ) (node : ℕ) → is_reachable graph roots node ≡ true → IsReachable graph roots node
unfolding is_reachable
reachable-sound graph roots node h = elim (or-cases (is_one_of roots node) (list_any (leads_to graph (nat_eq node)) roots) h) [
  | inl here ↦ root (one-of roots node here)
  | inr there ↦
      let f = passing (leads_to graph (nat_eq node)) roots there in
      let r = leads-sound graph (nat_eq node) f.item f.passes in
      behind f.there (subst (Reaches graph f.item) (sym (eqb-true node r.other r.passes)) r.way)
]

pub reachable-complete : (graph : List (List ℕ)) (roots : List ℕ) (node : ℕ) → IsReachable graph roots node → is_reachable graph roots node ≡ true
unfolding is_reachable
reachable-complete graph roots node (root h) = or-left (is_one_of roots node) _ (is-one-of roots node h)
reachable-complete graph roots node (behind {start = start} h way) =
    or-right (is_one_of roots node) _ (any-passes (leads_to graph (nat_eq node)) roots start h (leads-complete graph (nat_eq node) start node way (eq-eqb node node refl)))

pub reachable-exactly : ReachableExactly
reachable-exactly graph roots node = (reachable-sound graph roots node, reachable-complete graph roots node)

-- the set that a search finds is the one that the function says
pub set-of-reachable : (graph : List (List ℕ)) (roots : List ℕ) (marks : List Bool) → IsReachableSet graph roots marks → IsSetOf graph (is_reachable graph roots) marks
set-of-reachable graph roots marks set = record {
  length_is = set.length_is;
  exact = λ n. same-tests (is_marked marks n) (is_reachable graph roots n) (λ h. reachable-complete graph roots n (set.sound n h)) (λ h. set.complete n (reachable-sound graph roots n h));
}

-- AGAINST THE STEPS
module _ (graph reversed : List (List ℕ)) (is : IsReversed graph reversed) where
  way-back : {n m : ℕ} → Reaches graph n m → Reaches reversed m n
  way-back {n} {m} (step h) = step (is.back n m h)
  way-back {n} (further {s = s} h way) = reaches_more (way-back way) (is.back n s h)

  way-forth : {m n : ℕ} → Reaches reversed m n → Reaches graph n m
  way-forth {m} {n} (step h) = step (is.forth n m h)
  way-forth {m} (further {s = s} h way) = reaches_more (way-forth way) (is.forth s m h)

  -- what is reachable against the steps from the marked nodes has a mark or leads to one
  pub leading-set : (goals : List Bool) (roots : List ℕ) (marks : List Bool) → ((n : ℕ) → Contains roots n → IsMarked goals n) → ((n : ℕ) → IsMarked goals n → Contains roots n)
      → IsReachableSet reversed roots marks → IsSetOf graph (is_marked_or_leads graph goals) marks
  leading-set goals roots marks only all set = record {
    length_is = set.length_is ∙ is.length_is;
    exact = λ n. same-tests (is_marked marks n) (is_marked_or_leads graph goals n) (λ h. sound n (set.sound n h)) (complete n);
  }
    where
      sound : (n : ℕ) → IsReachable reversed roots n → is_marked_or_leads graph goals n ≡ true
      sound n (root h) = or-left (is_marked goals n) _ (only n h)
      sound n (behind {start = start} h way) = or-right (is_marked goals n) _ (leads-complete graph (is_marked goals) n start (way-forth way) (only start h))

      complete : (n : ℕ) → is_marked_or_leads graph goals n ≡ true → IsMarked marks n
      complete n h = elim (or-cases (is_marked goals n) (leads_to graph (is_marked goals) n) h) [
        | inl here ↦ set.complete n (root (all n here))
        | inr there ↦
            let r = leads-sound graph (is_marked goals) n there in
            set.complete n (behind (all r.other r.passes) (way-back r.way))
      ]
