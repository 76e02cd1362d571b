-- Numbers that never rise along a step.
use Rattle.std.proofs.Common.{◌≡◌, ℕ, ◌+◌, ◌<◌, ◌≤◌, nat_eq, Bool, true, false, List, [], ◌∷◌, ◌++◌, length, get_or, take, inl, inr, refl, subst, sym, ◌∙◌, arith, eqb-true, eq-eqb, true≢false}
use Rattle.std.proofs.lemmas.Bool.{cases_lt}
use Rattle.std.specs.Global.{Vec}
use Rattle.std.specs.List.{All, Contains}
use Rattle.std.proofs.lemmas.List.{take_more, get_or_append_left, length_push}
use Rattle.std.proofs.lemmas.List.Elements.{All-more, All-weaker, All-contains, Contains-push, Contains-get_or}
use Rattle.rev_ranks.specs.Graph.{IsLeastOnCycle, Reaches, Reaches.step, Reaches.further, Steps, graph_of}
use Rattle.rev_ranks.specs.Certificate.{FallsBelow, IsCertificate, IsFirstLevel}
use Rattle.rev_ranks.specs.Leads.{leads_to}
use Rattle.rev_ranks.specs.Walks.{LeadBack}
use Rattle.rev_ranks.proofs.LeadsLemmas.{leads-sound, leads-complete}
use Rattle.rev_ranks.proofs.Ways.{nodes_are, reaches_from_node, successors_are}

-- one more number below a bound that may have grown
pub bounded_more : (numbers nodes : List ℕ) (i bound grown : ℕ) → i < length nodes → All (λ s. get_or numbers s 0 < bound) (take i nodes) → bound ≤ grown → get_or numbers (get_or nodes i 0) 0 < grown → All (λ s. get_or numbers s 0 < grown) (take (i + 1) nodes)
bounded_more numbers nodes i bound grown h was more here =
    All-more (λ s. get_or numbers s 0 < grown) nodes i 0 h
    (All-weaker (λ s. get_or numbers s 0 < bound) (λ s. get_or numbers s 0 < grown) (λ s below. omega arith) (take i nodes) was)
    here

-- what bounds the numbers of a longer front bounds those of the shorter, and the one more
pub front_bounded : (numbers nodes : List ℕ) (i bound : ℕ) → i < length nodes → All (λ s. get_or numbers s 0 < bound) (take (i + 1) nodes) → All (λ s. get_or numbers s 0 < bound) (take i nodes) × (get_or numbers (get_or nodes i 0) 0 < bound)
front_bounded numbers nodes i bound h all =
    let e : take (i + 1) nodes ≡ take i nodes ++ get_or nodes i 0 ∷ [] = take_more nodes i 0 h in
    let joined : All (λ s. get_or numbers s 0 < bound) (take i nodes ++ get_or nodes i 0 ∷ []) = subst (All (λ s. get_or numbers s 0 < bound)) e all in (
      λ k d l. subst (λ (y : ℕ). get_or numbers y 0 < bound) (get_or_append_left (take i nodes) (get_or nodes i 0 ∷ []) d k l) (joined k d (omega (arith, l, length_push (take i nodes) (get_or nodes i 0)))),
      All-contains (λ s. get_or numbers s 0 < bound) (take i nodes ++ get_or nodes i 0 ∷ []) (get_or nodes i 0) joined (Contains-push (take i nodes) (get_or nodes i 0)),
    )

-- THE STEPS OF A NODE BY ITS LIST
module _ (xs : List (Vec ℕ)) (n : ℕ) (v : Vec ℕ) (nodes : List ℕ) (within : n < length xs) (read : v ≡ get_or xs n v) (list : nodes ≡ v.items) (P : ℕ → Type 0) where
  pub of_each_step : All P nodes → (s : ℕ) → Steps (graph_of xs) n s → P s
  of_each_step all s st = All-contains P nodes s all (subst (λ (l : List ℕ). Contains l s) (successors_are xs n v within read ∙ sym list) st)

  pub of_each_node : ((s : ℕ) → Steps (graph_of xs) n s → P s) → All P nodes
  of_each_node each k d h = each (get_or nodes k d) (subst (λ (l : List ℕ). Contains l (get_or nodes k d)) (list ∙ sym (successors_are xs n v within read)) (Contains-get_or nodes k d h))

module _ (graph : List (List ℕ)) (numbers : List ℕ) (certificate : IsCertificate graph numbers) where
  -- along a way numbers never rise
  never_rises_on : {n m : ℕ} → Reaches graph n m → get_or numbers m 0 ≤ get_or numbers n 0
  never_rises_on {n} {m} (step h) = certificate.never_rises n m h
  never_rises_on {n} {m} (further {s = s} h r) = omega (arith, certificate.never_rises n s h, never_rises_on r)

  -- so a node of which each step falls does not reach itself
  pub acyclic_below : (m : ℕ) → FallsBelow graph numbers m → (n : ℕ) → n < m → Reaches graph n n → ⊥
  acyclic_below m falls n below (step h) = omega (arith, falls n n below h)
  acyclic_below m falls n below (further {s = s} h r) = omega (arith, falls n s below h, never_rises_on r)

-- so where each step falls no node reaches itself
pub acyclic_by : (xs : List (Vec ℕ)) (certified levelled : List ℕ) → levelled ≡ certified → IsCertificate (graph_of xs) certified → FallsBelow (graph_of xs) levelled (length xs) → (n : ℕ) → Reaches (graph_of xs) n n → ⊥
acyclic_by xs certified levelled e certificate falls n way =
    acyclic_below (graph_of xs) certified certificate (length xs) (subst (λ (ns : List ℕ). FallsBelow (graph_of xs) ns (length xs)) e falls) n
    (omega (arith, nodes_are xs, reaches_from_node way)) way

-- and the least node of which a step does not fall is the least that reaches itself, if it does
pub least_by : (xs : List (Vec ℕ)) (m : ℕ) (certified levelled : List ℕ) → levelled ≡ certified → IsCertificate (graph_of xs) certified → m < length xs → IsFirstLevel (graph_of xs) levelled m → Reaches (graph_of xs) m m → IsLeastOnCycle (graph_of xs) m
least_by xs m certified levelled e certificate within first way = record {
  is_node = omega (arith, within, nodes_are xs);
  on_cycle = way;
  least = λ k below r. acyclic_below (graph_of xs) certified certificate m (subst (λ (ns : List ℕ). FallsBelow (graph_of xs) ns m) e first.falls_below) k below r;
}

-- where a number stays the same only along steps that lead back, the first node with such a step reaches itself
pub level-cycle : (graph : List (List ℕ)) (numbers : List ℕ) (m : ℕ) → IsCertificate graph numbers → LeadBack graph numbers → IsFirstLevel graph numbers m → Reaches graph m m
level-cycle graph numbers m certificate back first = by (leads_to graph (nat_eq m) m) refl
  where
    by : (b : Bool) → leads_to graph (nat_eq m) m ≡ b → Reaches graph m m
    by true e =
        let r = leads-sound graph (nat_eq m) m e in
        subst (Reaches graph m) (sym (eqb-true m r.other r.passes)) r.way
    by false e = absurd (first.levels falls)
      where
        none : Reaches graph m m → ⊥
        none way = true≢false (sym (leads-complete graph (nat_eq m) m m way (eq-eqb m m refl)) ∙ e)

        falls : FallsBelow graph numbers (m + 1)
        falls n s below st = elim (cases_lt n m) [
          | inl low ↦ first.falls_below n s low st
          | inr high ↦ elim (cases_lt (get_or numbers s 0) (get_or numbers n 0)) [
            | inl less ↦ less
            | inr more ↦
                let same : n ≡ m = omega arith in
                let equal : get_or numbers s 0 ≡ get_or numbers n 0 = omega (arith, certificate.never_rises n s st, more) in
                absurd (none (subst (λ i. Reaches graph i i) same (further st (back n s st equal))))
          ]
        ]
