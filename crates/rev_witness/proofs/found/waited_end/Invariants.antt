use Rattle.rev_cells.specs.State.{State}
use Rattle.rev_manifest.specs.Manifest.{ManifestValue}
use Rattle.rev_witness.specs.Progress.{GoesOn, IsUnderWay}
use Rattle.rev_witness.specs.Witness.{BeganWith}
use Rattle.rev_witness.proofs.ProgressLemmas.{IsBelow}
use Rattle.rev_witness.proofs.found.waited_end.Given as goal

abbrev pub invariant-loop-edges : goal.invariant-loop-edges
invariant-loop-edges l = record {
  began : (manifest : ManifestValue) (opening : State) → BeganWith manifest opening l.initial.history.timeline
      → BeganWith manifest opening l.history.timeline;
  goes : (opening : State) → IsUnderWay l.graph.manifest opening l.initial.history.timeline
      → GoesOn l.graph.manifest opening (IsBelow l.graph l.edge l.edges-index) l.initial.history.timeline l.history.timeline;
}
