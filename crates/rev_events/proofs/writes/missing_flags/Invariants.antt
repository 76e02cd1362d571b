use Rattle.std.proofs.Common.{◌≡◌, map, take}
use Rattle.rev_dirty.specs.Reasons.{is_missing}
use Rattle.rev_events.proofs.writes.missing_flags.Given as goal

abbrev pub invariant-loop-path : goal.invariant-loop-path
invariant-loop-path l = l.flags.items ≡ map (is_missing l.cells.state) (take l.path-index l.outputs)
