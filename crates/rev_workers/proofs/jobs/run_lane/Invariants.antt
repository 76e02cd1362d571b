use Rattle.std.proofs.Common.{◌≡◌, ◌<◌, ◌^◌, length}
use Rattle.rev_workers.specs.Running.{AreTold, Ran}
use Rattle.rev_workers.proofs.jobs.run_lane.Given as goal

abbrev pub invariant-loop-command : goal.invariant-loop-command
invariant-loop-command g l =
    record {
      ran : Ran l.fn.lane l.yielded l.lane;
      place : length l.yielded < 2 ^ 32 → l.place ≡ length l.yielded;
      told : AreTold g.G.Gate.told g.G.Gate.answered l.gate l.number (length l.yielded);
    }
