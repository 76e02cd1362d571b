-- What a scan knows of the graph and the state that it looks at.
use Rattle.rev_graph.specs.Graph.{IsGraph}
use Rattle.rev_dirty.specs.declared.scan.DependencyScan.TheInside.{Inside}
use Rattle.rev_dirty.specs.Changes.{AreChanges}
use Rattle.rev_dirty.specs.ScanValue.{ScanValue}
use Rattle.rev_dirty.specs.Walk.{IsKnowledge}

abbrev pub scan_of : Inside → ScanValue
scan_of a = record { graph = a.graph.now; state = a.cells.now.state }

-- what was learned is right: the stamps that are seen behind phony edges, and the outputs that edges changed
pub record IsScan (a : Inside) : Type 0 where
  pub graph : IsGraph a.graph.now
  pub knowledge : IsKnowledge a.graph.now.manifest.builds a.cells.now.state a.known.entries
  pub changes : AreChanges a.graph.now.manifest.builds a.cells.now.state a.changed.entries
