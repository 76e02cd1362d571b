-- What stands in a line.
use Rattle.std.specs.Prelude.{List, map}
use Rattle.std.specs.BinaryHeap.{heap_items}
use Rattle.std.specs.declared.cmp.Reverse.{Reverse}
use Rattle.rev_schedule.specs.Turns.{Turn}
use Rattle.rev_schedule.specs.declared.line.Line.{Line}

abbrev pub line_items : Line → List Turn
line_items line = map (λ (r : Reverse Turn). r.0) (heap_items line.heap)
