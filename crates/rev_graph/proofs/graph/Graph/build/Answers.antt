use Rattle.std.proofs.Common.{◌≡◌, ◌≤◌, ℕ, List, None, Some, length, map, ap, sym, subst, ◌∙◌, arith, if◌then◌else◌}
use Rattle.std.specs.List.{list_any}
use Rattle.std.specs.Option.{option_or}
use Rattle.rev_manifest.specs.Builds.{BuildValue, ManifestValue, IsManifest}
use Rattle.rev_graph.specs.Entries.{entry, given}
use Rattle.rev_graph.specs.Graph.{first_double, input_producers, is_known, needs, producer_of, EdgeReaches, IsRanked}
use Rattle.rev_graph.proofs.GraphLemmas.{known-entry, outputs-producers}
use Rattle.rev_graph.proofs.graph.Graph.build.Goals as goal

-- the edges of the graph's manifest are those that were looked at
edges-are : (c : goal.In_ok-manifest) → c.builds-edges.result.now ≡ c.in_ok-manifest.manifest.builds
edges-are c = c.builds-edges.ensures.builds ∙ ap (λ (m : ManifestValue). m.builds) (sym c.in_ok-manifest.ensures.equal)

few : (c : goal.In_ok-manifest) → length c.builds-edges.result.now ≤ 262144
few c = omega (arith, c.if-edges.false)

-- the table of all paths
known : (c : goal.In_ok-manifest) → (path : List ℕ)
    → entry c.all_producers.new.table.entries path ≡ (if is_known c.builds-edges.result.now path then Some (producer_of c.builds-edges.result.now path) else None)
known c path =
    c.in_ok-producers.ensures.entries path
    ∙ (λ i. option_or (c.in_ok-table.ensures.entries path i) (given (list_any (needs path) c.builds-edges.result.now) None))
    ∙ known-entry (producer_of c.builds-edges.result.now path) (list_any (needs path) c.builds-edges.result.now)

pub invariant_of-result : goal.invariant_of-result
invariant_of-result c = record {
  graph = record {
    kept = subst IsManifest (sym c.in_ok-manifest.ensures.equal) c.builds-edges.ensures.kept;
    few = subst (λ (builds : List BuildValue). length builds ≤ 262144) (edges-are c) (few c);
    single = ap first_double (sym (edges-are c)) ∙ c.in_ok-table.ensures.single;
    ranked = subst (λ builds. IsRanked builds c.in_ok-ranks.ranks.items) (edges-are c) c.in_ok-ranks.ensures.ranked;
  };
  entries = λ path.
      known c path ∙ ap (λ (builds : List BuildValue). if is_known builds path then Some (producer_of builds path) else None) (edges-are c);
  producers = c.in_ok-producers.ensures.producers ∙ outputs-producers c.in_ok-table.table.entries c.builds-edges.result.now c.in_ok-table.ensures.entries
      ∙ ap (λ (builds : List BuildValue). map (input_producers builds) builds) (edges-are c);
}

pub returns-clause-faultless : goal.returns-clause-faultless
returns-clause-faultless c = record {
  few = subst (λ (builds : List BuildValue). length builds ≤ 262144) c.builds-edges.ensures.builds (few c);
  single = ap first_double (sym c.builds-edges.ensures.builds) ∙ c.in_ok-table.ensures.single;
  acyclic = subst (λ (builds : List BuildValue). (edge : ℕ) → EdgeReaches builds edge edge → ⊥) c.builds-edges.ensures.builds c.in_ok-ranks.ensures.acyclic;
}
