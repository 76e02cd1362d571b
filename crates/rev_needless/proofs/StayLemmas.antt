-- Marks of what nodes wait for, before and after.
use Rattle.std.proofs.Common.{◌≡◌, ℕ, ◌<◌, ◌≤◌, nat_eq, Bool, true, false, List, [], length, get_or, refl, sym, ap, subst, ◌∙◌, arith}
use Rattle.std.specs.Prelude.{not, ◌||◌, ◌&&◌}
use Rattle.std.specs.Global.{Vec}
use Rattle.std.specs.List.{list_all, range_with_len}
use Rattle.std.proofs.lemmas.Bool.{eq-eqb, eqb-true, false_from_ne_true}
use Rattle.std.proofs.lemmas.List.{get_or_past, length-map}
use Rattle.rev_ranks.specs.Graph.{Reaches, Reaches.step as one_step, Reaches.further as then_on, graph_of, successors_of}
use Rattle.rev_ranks.specs.Leads.{IsReachable, IsReachable.root as led_at, IsReachable.behind as led_to, is_reachable, leads_to}
use Rattle.rev_ranks.specs.Sets.{IsReversed, IsSetOf, is_marked}
use Rattle.rev_ranks.proofs.LeadsLemmas.{leads-complete, leads-sound}
use Rattle.rev_ranks.proofs.SetLemmas.{reachable-complete, reachable-sound, same-tests}
use Rattle.rev_ranks.proofs.Ways.{nodes_are, reaches_from_node, reaches_more, successors_are}
use Rattle.rev_needless.specs.Staying.{AreReached, are_awaited, each_command, implies, roots_stay, row_stays, still_waits, waits}
use Rattle.rev_needless.proofs.ListLemmas.{all-agree, all-from, all-at}

-- WAYS AND TESTS
pub waits-way : (graph : List (List ℕ)) (a b : ℕ) → waits graph a b ≡ true → Reaches graph a b
waits-way graph a b h =
    let r = leads-sound graph (nat_eq b) a h in
    subst (λ x. Reaches graph a x) (sym (eqb-true b r.other r.passes)) r.way

pub way-waits : (graph : List (List ℕ)) (a b : ℕ) → Reaches graph a b → waits graph a b ≡ true
way-waits graph a b way = leads-complete graph (nat_eq b) a b way (eq-eqb b b refl)

reach-of : (graph : List (List ℕ)) (node a : ℕ) → IsReachable graph (successors_of graph node) a → Reaches graph node a
reach-of graph node a (led_at h) = one_step h
reach-of graph node a (led_to h way) = then_on h way

of-reach : (graph : List (List ℕ)) (node a : ℕ) → Reaches graph node a → IsReachable graph (successors_of graph node) a
of-reach graph node a (one_step h) = led_at h
of-reach graph node a (then_on h way) = led_to h way

pub reached-marks : (xs : List (Vec ℕ)) (node : ℕ) (v : Vec ℕ) (roots : List ℕ) (marks : List Bool) → node < length xs → v ≡ get_or xs node v → roots ≡ v.items
    → IsSetOf (graph_of xs) (is_reachable (graph_of xs) roots) marks → AreReached (graph_of xs) node marks
reached-marks xs node v roots marks within is given marked = record {
  exact = λ n. same-tests (is_marked marks n) (waits (graph_of xs) node n)
      (λ h. way-waits (graph_of xs) node n (reach-of (graph_of xs) node n (subst (λ rs. IsReachable (graph_of xs) rs n) are (reachable-sound (graph_of xs) roots n (sym (marked.exact n) ∙ h)))))
      (λ h. marked.exact n ∙ reachable-complete (graph_of xs) roots n (subst (λ rs. IsReachable (graph_of xs) rs n) (sym are) (of-reach (graph_of xs) node n (waits-way (graph_of xs) node n h))));
}
  where
    are : roots ≡ successors_of (graph_of xs) node
    are = given ∙ sym (successors_are xs node v within is)

-- MARKS BEFORE AND AFTER
pub implies-gives : (one other : Bool) → implies one other ≡ true → one ≡ true → other ≡ true
implies-gives true other h one_is = h
implies-gives false other h one_is = absurd (cc one_is)

still : (before after : List (List ℕ)) (node : ℕ) (marks kept : List Bool) → AreReached before node marks → AreReached after node kept → (n : ℕ) → implies (is_marked marks n) (is_marked kept n) ≡ still_waits before after node n
still before after node marks kept one other n = ap (λ b. implies b (is_marked kept n)) (one.exact n) ∙ ap (implies (waits before node n)) (other.exact n)

pub row-by-marks : (before after : List (List ℕ)) (node : ℕ) (marks kept : List Bool) (makers : List ℕ) (stays : Bool) → AreReached before node marks → AreReached after node kept
    → stays ≡ list_all (λ n. implies (is_marked marks n) (is_marked kept n)) makers → stays ≡ row_stays before after node makers
row-by-marks before after node marks kept makers stays one other is =
    is ∙ all-agree (λ n. implies (is_marked marks n) (is_marked kept n)) (still_waits before after node) (still before after node marks kept one other) makers

implied : (one other : Bool) → other ≡ true → implies one other ≡ true
implied true other h = h
implied false other h = refl

pub row-whole : (before after : List (List ℕ)) (node : ℕ) (kept : List Bool) (makers : List ℕ) (whole : Bool) → AreReached after node kept → whole ≡ list_all (is_marked kept) makers → whole ≡ true → row_stays before after node makers ≡ true
row-whole before after node kept makers whole other is so = all-from (still_waits before after node) makers (λ m there.
    implied (waits before node m) (waits after node m) (sym (other.exact m) ∙ all-at (is_marked kept) makers m (sym is ∙ so) there))

pub root-by-marks : (before after : List (List ℕ)) (root : ℕ) (marks kept commands : List Bool) (stays : Bool) → AreReached before root marks → AreReached after root kept
    → stays ≡ each_command commands (λ n. implies (is_marked marks n) (is_marked kept n)) → stays ≡ each_command commands (still_waits before after root)
root-by-marks before after root marks kept commands stays one other is =
    is ∙ all-agree (λ n. implies (is_marked commands n) (implies (is_marked marks n) (is_marked kept n))) (λ n. implies (is_marked commands n) (still_waits before after root n))
    (λ n. ap (implies (is_marked commands n)) (still before after root marks kept one other n)) (range_with_len 0 (length commands))

-- what is no node waits for nothing
pub no-node-stays : (before after : List (List ℕ)) (root : ℕ) (commands : List Bool) → length before ≤ root → each_command commands (still_waits before after root) ≡ true
no-node-stays before after root commands past = all-from (λ n. implies (is_marked commands n) (still_waits before after root n)) (range_with_len 0 (length commands)) (λ n there.
    implied (is_marked commands n) (still_waits before after root n)
    (ap (λ b. implies b (waits after root n)) (false_from_ne_true (waits before root n) (λ h. omega (arith, past, reaches_from_node (waits-way before root n h))))))

pub row-is : (rows : List (Vec ℕ)) (n : ℕ) (v : Vec ℕ) → n < length rows → v ≡ get_or rows n v → v.items ≡ successors_of (graph_of rows) n
row-is rows n v within is = sym (successors_are rows n v within is)

pub no-row : (rows : List (Vec ℕ)) (n : ℕ) (row : List ℕ) → length rows ≤ n → row ≡ [] → row ≡ successors_of (graph_of rows) n
no-row rows n row past is = is ∙ sym (get_or_past (graph_of rows) n [] (omega (arith, past, nodes_are rows)))

-- STEPS BACK
turned : (graph back : List (List ℕ)) → IsReversed graph back → (a b : ℕ) → Reaches back a b → Reaches graph b a
turned graph back r a b (one_step h) = one_step (r.forth b a h)
turned graph back r a b (then_on {s = m} h way) = reaches_more (turned graph back r m b way) (r.forth m a h)

returned : (graph back : List (List ℕ)) → IsReversed graph back → (a b : ℕ) → Reaches graph a b → Reaches back b a
returned graph back r a b (one_step h) = one_step (r.back a b h)
returned graph back r a b (then_on {s = m} h way) = reaches_more (returned graph back r m b way) (r.back a m h)

waits-back : (graph back : List (List ℕ)) → IsReversed graph back → (a b : ℕ) → waits back a b ≡ waits graph b a
waits-back graph back r a b = same-tests (waits back a b) (waits graph b a)
    (λ h. way-waits graph b a (turned graph back r a b (waits-way back a b h)))
    (λ h. way-waits back a b (returned graph back r b a (waits-way graph b a h)))

pub awaited-by-roots : (before after back back_after : List (List ℕ)) (commands : List Bool) (nodes : List ℕ) (stay : Bool) → IsReversed before back → IsReversed after back_after
    → stay ≡ roots_stay back back_after commands nodes → stay ≡ are_awaited before after commands nodes
awaited-by-roots before after back back_after commands nodes stay one other is =
    is ∙ all-agree (λ node. each_command commands (still_waits back back_after node)) (λ node. each_command commands (λ command. still_waits before after command node))
    (λ node. all-agree (λ n. implies (is_marked commands n) (still_waits back back_after node n)) (λ n. implies (is_marked commands n) (still_waits before after n node))
    (λ n. ap (implies (is_marked commands n)) (ap (λ b. implies b (waits back_after node n)) (waits-back before back one node n) ∙ ap (implies (waits before n node)) (waits-back after back_after other node n)))
    (range_with_len 0 (length commands))) nodes
