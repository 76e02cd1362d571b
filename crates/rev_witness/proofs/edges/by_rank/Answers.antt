use Rattle.std.proofs.Common.{◌≡◌, ◌<◌, ◌^◌, List, ℕ, ap, length, map, subst, sym, ◌∙◌}
use Rattle.std.specs.Global.{Vec}
use Rattle.std.specs.List.{All, range_with_len}
use Rattle.rev_ranks.specs.Graph.{graph_of}
use Rattle.rev_ranks.specs.Sets.{IsReversed}
use Rattle.rev_witness.specs.Progress.{rank_list}
use Rattle.rev_witness.proofs.EdgeLemmas.{by_rank_are, lists_inside, many_small, ranks_inside}
use Rattle.rev_witness.proofs.edges.by_rank.Goals as goal

pub reversed-requires-clause-inside : goal.reversed-requires-clause-inside
reversed-requires-clause-inside c =
    let graph = c.args.graph.now in
    let lists : graph_of c.in_ok-ranks.ranks.items ≡ map (rank_list c.args.graph.now c.in_ok-waited.waited.items) (range_with_len 0 (length c.args.graph.now.manifest.builds)) =
    c.in_ok-ranks.ensures ∙ ap (λ w. map (rank_list c.args.graph.now w) (range_with_len 0 (length c.args.graph.now.manifest.builds))) c.deref-2.ensures.value in
    subst (λ (xs : List (Vec ℕ)). All (λ (v : Vec ℕ). All (λ s. s < length xs) v.items) xs) (sym c.deref-3.ensures.value)
    (ranks_inside graph c.edges-edges.ensures.graph c.args.edge c.in_ok-waited.waited.items c.in_ok-waited.ensures c.in_ok-ranks.ranks.items lists)

pub reversed-requires-clause-small : goal.reversed-requires-clause-small
reversed-requires-clause-small c =
    let graph = c.args.graph.now in
    let lists : graph_of c.in_ok-ranks.ranks.items ≡ map (rank_list c.args.graph.now c.in_ok-waited.waited.items) (range_with_len 0 (length c.args.graph.now.manifest.builds)) =
    c.in_ok-ranks.ensures ∙ ap (λ w. map (rank_list c.args.graph.now w) (range_with_len 0 (length c.args.graph.now.manifest.builds))) c.deref-2.ensures.value in
    subst (λ (xs : List (Vec ℕ)). length xs < 2 ^ 32) (sym c.deref-3.ensures.value)
    (many_small graph c.edges-edges.ensures.graph c.args.edge c.in_ok-waited.waited.items c.in_ok-waited.ensures c.in_ok-ranks.ranks.items lists)

pub returns-clause-lists : goal.returns-clause-lists
returns-clause-lists c =
    let graph = c.args.graph.now in
    let lists : graph_of c.in_ok-ranks.ranks.items ≡ map (rank_list c.args.graph.now c.in_ok-waited.waited.items) (range_with_len 0 (length c.args.graph.now.manifest.builds)) =
    c.in_ok-ranks.ensures ∙ ap (λ w. map (rank_list c.args.graph.now w) (range_with_len 0 (length c.args.graph.now.manifest.builds))) c.deref-2.ensures.value in
    let back : IsReversed (graph_of c.in_ok-ranks.ranks.items) (graph_of c.in_ok-lists.lists.items) =
    subst (λ (xs : List (Vec ℕ)). IsReversed (graph_of xs) (graph_of c.in_ok-lists.lists.items)) c.deref-3.ensures.value c.in_ok-lists.ensures.steps in
    by_rank_are graph c.edges-edges.ensures.graph c.args.edge c.in_ok-waited.waited.items c.in_ok-waited.ensures c.in_ok-ranks.ranks.items lists c.in_ok-lists.lists.items back

pub returns-clause-inside : goal.returns-clause-inside
returns-clause-inside c =
    let graph = c.args.graph.now in
    let lists : graph_of c.in_ok-ranks.ranks.items ≡ map (rank_list c.args.graph.now c.in_ok-waited.waited.items) (range_with_len 0 (length c.args.graph.now.manifest.builds)) =
    c.in_ok-ranks.ensures ∙ ap (λ w. map (rank_list c.args.graph.now w) (range_with_len 0 (length c.args.graph.now.manifest.builds))) c.deref-2.ensures.value in
    lists_inside graph c.edges-edges.ensures.graph c.args.edge c.in_ok-waited.waited.items c.in_ok-waited.ensures c.in_ok-ranks.ranks.items lists c.in_ok-lists.lists.items
    (subst (λ (xs : List (Vec ℕ)). All (λ (v : Vec ℕ). All (λ s. s < length xs) v.items) c.in_ok-lists.lists.items) c.deref-3.ensures.value c.in_ok-lists.ensures.inside)
