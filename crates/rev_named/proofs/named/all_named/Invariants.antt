use Rattle.std.proofs.Common.{◌≡◌, map, take, bytes_eq}
use Rattle.std.specs.Prelude.{find}
use Rattle.std.specs.Option.{option_copied}
use Rattle.indexmap.specs.IndexSet.{contains}
use Rattle.rev_graph.specs.Graph.{build_at, outputs_of}
use Rattle.rev_named.specs.Named.{is_named_by}
use Rattle.rev_named.proofs.named.all_named.Given as goal

abbrev pub invariant-loop-edge : goal.invariant-loop-edge
invariant-loop-edge l =
    map option_copied l.named.items
    ≡ map (λ edge. find (is_named_by l.graph.manifest.builds (contains bytes_eq l.words) edge)
    (outputs_of (build_at l.graph.manifest.builds edge))) (take l.edge-index l.edges)
