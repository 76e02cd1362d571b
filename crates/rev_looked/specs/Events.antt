-- Events that begin and end commands.
use Rattle.std.specs.Prelude.{ℕ, List, Option, None}
use Rattle.rev_manifest.specs.Builds.{BuildValue}
use Rattle.rev_graph.specs.Graph.{producer_of}
use Rattle.rev_events.specs.declared.event.Event.{Event}
use Rattle.rev_events.specs.declared.event.Event.TheVariants.{Start, Finish, Fail, Abort}

-- the edge whose command an event ends, well or not
abbrev pub ended_edge : List BuildValue → Event → Option ℕ
ended_edge builds (Finish out stamps listing) = producer_of builds out
ended_edge builds (Fail out stamps) = producer_of builds out
ended_edge builds (Abort out stamps) = producer_of builds out
ended_edge builds _ = None

-- the edge whose command an event begins
abbrev pub begun_edge : List BuildValue → Event → Option ℕ
begun_edge builds (Start out job slot) = producer_of builds out
begun_edge builds _ = None

-- the edge whose command an event begins or ends
abbrev pub run_edge : List BuildValue → Event → Option ℕ
run_edge builds (Start out job slot) = producer_of builds out
run_edge builds (Finish out stamps listing) = producer_of builds out
run_edge builds (Fail out stamps) = producer_of builds out
run_edge builds (Abort out stamps) = producer_of builds out
run_edge builds _ = None
