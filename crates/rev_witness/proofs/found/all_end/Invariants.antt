use Rattle.std.proofs.Common.{Contains, take}
use Rattle.std.specs.List.{All}
use Rattle.rev_cells.specs.State.{State}
use Rattle.rev_history.specs.Timeline.{state_at}
use Rattle.rev_manifest.specs.Manifest.{ManifestValue}
use Rattle.rev_witness.specs.Progress.{GoesOn, IsFree, IsUnderWay}
use Rattle.rev_witness.specs.Witness.{BeganWith}
use Rattle.rev_witness.proofs.found.all_end.Given as goal

abbrev pub invariant-loop-edge : goal.invariant-loop-edge
invariant-loop-edge l = record {
  began : (manifest : ManifestValue) (opening : State) → BeganWith manifest opening l.initial.history.timeline
      → BeganWith manifest opening l.history.timeline;
  goes : (opening : State) → IsUnderWay l.graph.manifest opening l.initial.history.timeline
      → All (IsFree l.graph.manifest.builds (state_at l.initial.history.timeline)) l.edges
      → GoesOn l.graph.manifest opening (Contains (take l.edge-index l.edges)) l.initial.history.timeline l.history.timeline;
}
