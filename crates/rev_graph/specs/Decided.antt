-- The fault of edges as a function, for reports. That it is the fault which the field means is a law.
use Rattle.std.specs.Prelude.{ℕ, Bool, List, length, find, Option, Some, None, slice_get, nat_eq, nat_lt, if◌then◌else◌}
use Rattle.std.specs.List.{range_with_len}
use Rattle.std.specs.Option.{option_map}
use Rattle.rev_manifest.specs.Manifest.{BuildValue}
use Rattle.rev_ranks.specs.Leads.{leads_to}
use Rattle.rev_graph.specs.declared.fault.GraphFault.{GraphFault}
use Rattle.rev_graph.specs.declared.fault.GraphFault.TheVariants.{TooManyEdges, MultipleProducers, Cycle}
use Rattle.rev_graph.specs.Graph.{build_at, outputs_of, first_double, successor_lists}
use Rattle.rev_graph.specs.declared.graph.TheConstants.Graph.{MAX_EDGES}

-- whether a node reaches itself
abbrev pub reaches_itself : List (List ℕ) → ℕ → Bool
reaches_itself graph node = leads_to graph (nat_eq node) node

-- the least node that reaches itself
abbrev pub least_on_cycle : List (List ℕ) → Option ℕ
least_on_cycle graph = find (reaches_itself graph) (range_with_len 0 (length graph))

-- the fault of a cycle on which the edge is the least
abbrev pub cycle_at : List BuildValue → Option ℕ → Option GraphFault
cycle_at builds None = None
cycle_at builds (Some edge) = option_map Cycle (slice_get (outputs_of (build_at builds edge)) 0)

abbrev pub double_or : Option (List ℕ) → Option GraphFault → Option GraphFault
double_or None fault = fault
double_or (Some path) fault = Some (MultipleProducers path)

-- the first fault of edges
unfoldable pub graph_fault : List BuildValue → Option GraphFault
graph_fault builds =
    if nat_lt MAX_EDGES (length builds) then Some TooManyEdges
    else double_or (first_double builds) (cycle_at builds (least_on_cycle (successor_lists builds)))
