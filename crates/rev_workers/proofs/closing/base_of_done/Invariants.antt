use Rattle.std.proofs.Common.{◌≡◌, drop}
use Rattle.rev_workers.specs.Closing.{base_in}
use Rattle.rev_workers.specs.Running.{lanes_in}
use Rattle.rev_workers.proofs.closing.base_of_done.Given as goal

abbrev pub invariant-loop-each : goal.invariant-loop-each
invariant-loop-each g l = base_in (lanes_in (drop l.each-index l.done)) ≡ base_in (lanes_in l.fn.done)
