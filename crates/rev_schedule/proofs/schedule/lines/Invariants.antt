use Rattle.std.proofs.Common.{◌≡◌, [], length}
use Rattle.std.specs.List.{All}
use Rattle.rev_schedule.specs.declared.line.Line.{Line}
use Rattle.rev_schedule.specs.Lines.{line_items}
use Rattle.rev_schedule.proofs.schedule.lines.Given as goal

abbrev pub invariant-loop : goal.invariant-loop
invariant-loop l = record {
  count : length l.lines.items ≡ l.counter;
  empty : All (λ (line : Line). line_items line ≡ []) l.lines.items;
}
