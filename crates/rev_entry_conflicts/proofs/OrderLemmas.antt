-- Marks of what is reached say who waits.
use Rattle.std.proofs.Common.{◌≡◌, ℕ, ◌<◌, nat_eq, Bool, true, false, List, length, get_or, refl, sym, subst, ◌∙◌, eqb-true, eq-eqb}
use Rattle.std.specs.Global.{Vec}
use Rattle.std.proofs.lemmas.List.{get_or_default}
use Rattle.rev_ranks.specs.Graph.{graph_of, successors_of, Reaches, Reaches.step as one_step, Reaches.further as then_on}
use Rattle.rev_ranks.specs.Leads.{is_reachable, IsReachable, IsReachable.root, IsReachable.behind as led_to}
use Rattle.rev_ranks.specs.Sets.{IsReversed, IsSetOf}
use Rattle.rev_ranks.proofs.LeadsLemmas.{leads-complete, leads-sound}
use Rattle.rev_ranks.proofs.SetLemmas.{reachable-complete, reachable-sound, same-tests}
use Rattle.rev_ranks.proofs.Ways.{reaches_more, successors_are}
use Rattle.rev_entry_conflicts.specs.Deeds.{waits_in}
use Rattle.rev_entry_conflicts.specs.Orders.{AreReached, IsOrder}

-- what one node reaches is what is reached from those that it steps to
reach-of : (graph : List (List ℕ)) (node a : ℕ) → IsReachable graph (successors_of graph node) a → Reaches graph node a
reach-of graph node a (root h) = one_step h
reach-of graph node a (led_to h way) = then_on h way

of-reach : (graph : List (List ℕ)) (node a : ℕ) → Reaches graph node a → IsReachable graph (successors_of graph node) a
of-reach graph node a (one_step h) = root h
of-reach graph node a (then_on h way) = led_to h way

pub reached-marks : (xs : List (Vec ℕ)) (node : ℕ) (v : Vec ℕ) (roots : List ℕ) (marks : List Bool) → node < length xs → v ≡ get_or xs node v → roots ≡ v.items
    → IsSetOf (graph_of xs) (is_reachable (graph_of xs) roots) marks → AreReached (graph_of xs) node marks
reached-marks xs node v roots marks within is given marked = record {
  each = marked.length_is;
  exact = λ n. (
    λ h. reach-of (graph_of xs) node n (subst (λ rs. IsReachable (graph_of xs) rs n) are (reachable-sound (graph_of xs) roots n (sym (marked.exact n) ∙ h))),
    λ way. marked.exact n ∙ reachable-complete (graph_of xs) roots n (subst (λ rs. IsReachable (graph_of xs) rs n) (sym are) (of-reach (graph_of xs) node n way)),
  );
}
  where
    are : roots ≡ successors_of (graph_of xs) node
    are = given ∙ sym (successors_are xs node v within is)

-- a way in the steps back is a way back
turned : (graph back : List (List ℕ)) → IsReversed graph back → (a b : ℕ) → Reaches back a b → Reaches graph b a
turned graph back r a b (one_step h) = one_step (r.forth b a h)
turned graph back r a b (then_on {s = m} h way) = reaches_more (turned graph back r m b way) (r.forth m a h)

returned : (graph back : List (List ℕ)) → IsReversed graph back → (a b : ℕ) → Reaches graph a b → Reaches back b a
returned graph back r a b (one_step h) = one_step (r.back a b h)
returned graph back r a b (then_on {s = m} h way) = reaches_more (returned graph back r m b way) (r.back a m h)

waits-way : (graph : List (List ℕ)) (a b : ℕ) → waits_in graph a b ≡ true → Reaches graph a b
waits-way graph a b h =
    let r = leads-sound graph (nat_eq b) a h in
    subst (λ x. Reaches graph a x) (sym (eqb-true b r.other r.passes)) r.way

way-waits : (graph : List (List ℕ)) (a b : ℕ) → Reaches graph a b → waits_in graph a b ≡ true
way-waits graph a b way = leads-complete graph (nat_eq b) a b way (eq-eqb b b refl)

pub order-is : (steps back : List (Vec ℕ)) (edge : ℕ) (waited waiting : List Bool) → IsReversed (graph_of steps) (graph_of back) → AreReached (graph_of steps) edge waited → AreReached (graph_of back) edge waiting
    → IsOrder (graph_of steps) edge waited waiting
order-is steps back edge waited waiting r forth away = record {
  each = forth.each;
  also = away.each ∙ r.length_is;
  waited_is = λ n. same-tests (get_or waited n false) (waits_in (graph_of steps) edge n) (λ h. way-waits (graph_of steps) edge n ((forth.exact n).0 h)) (λ h. (forth.exact n).1 (waits-way (graph_of steps) edge n h));
  waiting_is = λ n. same-tests (get_or waiting n false) (waits_in (graph_of steps) n edge)
      (λ h. way-waits (graph_of steps) n edge (turned (graph_of steps) (graph_of back) r edge n ((away.exact n).0 h)))
      (λ h. (away.exact n).1 (returned (graph_of steps) (graph_of back) r n edge (waits-way (graph_of steps) n edge h)));
}

-- a mark that was read
pub mark-is : (marks : List Bool) (n : ℕ) (b test : Bool) → n < length marks → b ≡ get_or marks n b → get_or marks n false ≡ test → b ≡ test
mark-is marks n b test within is exact = is ∙ get_or_default marks n b false within ∙ exact
