use Rattle.std.proofs.Common.{◌≡◌, drop, bytes_eq}
use Rattle.std.specs.Prelude.{find}
use Rattle.indexmap.specs.IndexSet.{contains}
use Rattle.rev_named.specs.Named.{is_named_by}
use Rattle.rev_named.proofs.named.first_among.Given as goal

abbrev pub invariant-loop-out : goal.invariant-loop-out
invariant-loop-out l =
    find (is_named_by l.graph.manifest.builds (contains bytes_eq l.words) l.edge) (drop l.out-index l.outputs)
    ≡ find (is_named_by l.graph.manifest.builds (contains bytes_eq l.words) l.edge) l.outputs
