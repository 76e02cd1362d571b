use Rattle.std.proofs.Common.{take}
use Rattle.rev_schedule.specs.Going.{HasInputs, HasPools, moment_of}
use Rattle.rev_schedule.specs.Ninja.{ArriveAll}
use Rattle.rev_schedule.proofs.going.Going.finish.Given as goal

abbrev pub invariant-loop-turn : goal.invariant-loop-turn
invariant-loop-turn l = record {
  pools : HasPools l.build l.self;
  inputs : HasInputs l.build l.self;
  arrive : ArriveAll l.build (moment_of l.initial.self) (take l.turn-index l.turn-items) (moment_of l.self);
}
