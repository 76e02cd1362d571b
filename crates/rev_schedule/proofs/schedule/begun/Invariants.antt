use Rattle.std.proofs.Common.{take}
use Rattle.rev_schedule.specs.Going.{HasInputs, HasPools, moment_of}
use Rattle.rev_schedule.specs.Ninja.{ArriveAll}
use Rattle.rev_schedule.proofs.schedule.begun.Given as goal

abbrev pub invariant-loop-turn : goal.invariant-loop-turn
invariant-loop-turn l = record {
  pools : HasPools l.build l.going;
  inputs : HasInputs l.build l.going;
  arrive : ArriveAll l.build (moment_of l.initial.going) (take l.turn-index l.turn-items) (moment_of l.going);
}
