-- What contracts see of a scan: the graph and the state that it looks at. What it has learned of them shows in no
-- answer.
use Rattle.std.specs.Prelude.{refl}
use Rattle.std.specs.Coded.{Coded, code_by, coded×}
use Rattle.std.specs.FinMap as map
use Rattle.rev_graph.specs.Graph.{GraphValue}
use Rattle.rev_graph.specs.Codes.{coded_graph}
use Rattle.rev_cells.specs.Codes.{coded_value}
use Rattle.rev_cells.specs.Keys.{coded_cell}
use Rattle.rev_cells.specs.State.{State}

pub record ScanValue : Type 0 where
  pub graph : GraphValue
  pub state : State

abbrev pub scan_code : Coded ScanValue
scan_code =
    code_by (GraphValue × State) (coded× coded_graph (map.code coded_cell coded_value)) (λ s. (s.graph, s.state))
    (λ p. record { graph = p.0; state = p.1 }) (λ _. refl)
