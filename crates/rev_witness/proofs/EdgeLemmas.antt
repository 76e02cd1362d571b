-- First outputs, stamps, and edges by rank.
use Rattle.std.proofs.Common.{◌≡◌, ℕ, ◌+◌, ◌<◌, ◌^◌, Bool, true, false, List, [], ◌∷◌, ◌++◌, map, length, get_or, Contains, Some, None, inl, inr, refl, sym, ap, subst, ◌∙◌, arith, true≢false, if◌then◌else◌}
use Rattle.std.proofs.lemmas.Bool.{cases_lt}
use Rattle.std.specs.Global.{Vec}
use Rattle.std.specs.List.{All, range_with_len}
use Rattle.std.specs.Prelude.{replicate, slice_get}
use Rattle.std.proofs.lemmas.List.{get_or_past, length-append}
use Rattle.std.proofs.lemmas.List.Elements.{Contains-get_or}
use Rattle.std.proofs.lemmas.List.FromFn.{get_or-map-range_with_len, length-map-range_with_len, map-range_with_len_more}
use Rattle.std.proofs.lemmas.Simd.{splat_is_map}
use Rattle.rev_graph.specs.Graph.{GraphValue, IsGraph, build_at, outputs_of, rank_at}
use Rattle.rev_races.proofs.FromNothing.{some-output}
use Rattle.rev_ranks.specs.Graph.{Steps, graph_of, successors_of}
use Rattle.rev_ranks.specs.Sets.{IsReversed}
use Rattle.rev_ranks.proofs.ReversedLemmas.{all-inside}
use Rattle.rev_ranks.proofs.Ways.{nodes_are, steps_from_node}
use Rattle.rev_waits.specs.Waits.{AreWaitedFor}
use Rattle.rev_witness.specs.Progress.{AreByRank, rank_list}

-- FIRST OUTPUTS
pub first_is : (outs : List (List ℕ)) (out : List ℕ) → Some out ≡ slice_get outs 0 → out ≡ get_or outs 0 []
first_is [] out h =
    let no : Some out ≡ None = h in
    cc
first_is (o ∷ os) out h =
    let same : Some out ≡ Some o = h in
    cc

no-first : (outs : List (List ℕ)) → 0 < length outs → None ≡ slice_get outs 0 → ⊥
no-first [] some h = omega (arith, some)
no-first (o ∷ os) some h =
    let no : None ≡ Some o = h in
    cc

-- each edge has one
pub has_first : (graph : GraphValue) (edge : ℕ) → IsGraph graph → edge < length graph.manifest.builds → None ≡ slice_get (outputs_of (build_at graph.manifest.builds edge)) 0 → ⊥
has_first graph edge is within none = no-first (outputs_of (build_at graph.manifest.builds edge)) (some-output graph is edge within) none

-- STAMPS
pub ones_are : (explicit implicit : List (List ℕ)) (n : ℕ) → n ≡ length explicit + length implicit → replicate {A = ℕ} n 1 ≡ map {B = ℕ} (λ out. 1) (explicit ++ implicit)
ones_are explicit implicit n e = splat_is_map (explicit ++ implicit) n 1 (length-append explicit implicit ∙ sym e)

-- BY RANK
-- one list more
pub lists_more : (f : ℕ → List ℕ) (vectors all : List (Vec ℕ)) (v : Vec ℕ) (n : ℕ) → all ≡ vectors ++ v ∷ [] → graph_of vectors ≡ map f (range_with_len 0 n) → v.items ≡ f n
    → graph_of all ≡ map f (range_with_len 0 (n + 1))
lists_more f vectors all v n pushed before new =
    ap graph_of pushed ∙ graph-push vectors ∙ (λ j. before j ++ new j ∷ []) ∙ sym (map-range_with_len_more f 0 n n (omega (arith)))
  where
    graph-push : (xs : List (Vec ℕ)) → graph_of (xs ++ v ∷ []) ≡ graph_of xs ++ v.items ∷ []
    graph-push [] = refl
    graph-push (y ∷ ys) = ap (λ (ls : List (List ℕ)). y.items ∷ ls) (graph-push ys)

ranked-by : (b : Bool) (r s : ℕ) → Contains (if b then r ∷ [] else []) s → (b ≡ true) × (r ≡ s)
ranked-by true r s (k, within, at) = (refl, at-first k within at)
  where
    at-first : (k : ℕ) → k < 1 → get_or (r ∷ []) k s ≡ s → r ≡ s
    at-first k within at = let zero_is : k ≡ 0 = omega (arith, within) in sym (ap (λ n. get_or (r ∷ []) n s) zero_is) ∙ at
ranked-by false r s (k, within, at) = absurd (omega (arith, within))

module _ (graph : GraphValue) (is : IsGraph graph) (edge : ℕ) (waited : List Bool) (are : AreWaitedFor graph.manifest.builds edge waited) (ranks : List (Vec ℕ))
    (lists : graph_of ranks ≡ map (rank_list graph waited) (range_with_len 0 (length graph.manifest.builds))) where
  edges-many : length ranks ≡ length graph.manifest.builds
  edges-many = sym (nodes_are ranks) ∙ ap length lists ∙ length-map-range_with_len (rank_list graph waited) 0 (length graph.manifest.builds)

  list-at : (other : ℕ) → other < length graph.manifest.builds → successors_of (graph_of ranks) other ≡ rank_list graph waited other
  list-at other within =
      ap (λ (g : List (List ℕ)). successors_of g other) lists ∙ get_or-map-range_with_len (rank_list graph waited) 0 (length graph.manifest.builds) other other [] within (omega (arith))

  -- what an edge steps to is its rank, where it is waited for
  pub steps_to_rank : (other rank : ℕ) → Steps (graph_of ranks) other rank → (get_or waited other false ≡ true) × (rank_at graph.ranks other ≡ rank)
  steps_to_rank other rank h =
      let node = steps_from_node (graph_of ranks) other rank h in
      let within : other < length graph.manifest.builds = omega (arith, node, nodes_are ranks, edges-many) in
      ranked-by (get_or waited other false) (rank_at graph.ranks other) rank (subst (λ l. Contains l rank) (list-at other within) h)

  pub ranks_inside : All (λ (v : Vec ℕ). All (λ s. s < length ranks) v.items) ranks
  ranks_inside = all-inside ranks (length ranks) (λ other rank h.
      let node = steps_from_node (graph_of ranks) other rank h in
      let within : other < length graph.manifest.builds = omega (arith, node, nodes_are ranks, edges-many) in
      let below = is.ranked.below other within in
      let same = (steps_to_rank other rank h).1 in
      omega (arith, below, same, edges-many))

  pub by_rank_are : (back : List (Vec ℕ)) → IsReversed (graph_of ranks) (graph_of back) → AreByRank graph edge (graph_of back)
  by_rank_are back reversed = record {
    each = reversed.length_is ∙ nodes_are ranks ∙ edges-many;
    listed = λ other way.
        let marked = (are.exact other).1 way in
        let within : other < length graph.manifest.builds = marked-within other marked in
        reversed.back other (rank_at graph.ranks other) (subst (λ l. Contains l (rank_at graph.ranks other)) (sym (list-at other within ∙ ap (λ b. if b then rank_at graph.ranks other ∷ [] else []) marked)) (Contains-get_or (rank_at graph.ranks other ∷ []) 0 0 (omega (arith))));
    waited = λ rank other h. (are.exact other).0 (steps_to_rank other rank (reversed.forth other rank h)).0;
    ranked = λ rank other h. (steps_to_rank other rank (reversed.forth other rank h)).1;
  }
    where
      marked-within : (other : ℕ) → get_or waited other false ≡ true → other < length graph.manifest.builds
      marked-within other marked = elim (cases_lt other (length graph.manifest.builds)) [
        | inl less ↦ less
        | inr past ↦ absurd (true≢false (sym marked ∙ get_or_past waited other false (omega (arith, past, are.each))))
      ]

  pub many_small : length ranks < 2 ^ 32
  many_small = let few = is.few in omega (arith, few, edges-many)

  pub lists_inside : (back : List (Vec ℕ)) → All (λ (v : Vec ℕ). All (λ s. s < length ranks) v.items) back → All (λ (v : Vec ℕ). All (λ s. s < length graph.manifest.builds) v.items) back
  lists_inside back all = subst (λ n. All (λ (v : Vec ℕ). All (λ s. s < n) v.items) back) edges-many all
