use Rattle.rev_schedule.specs.Going.{AreInside, HasInputs, HasPools, moment_of}
use Rattle.rev_schedule.specs.Ninja.{Goes}
use Rattle.rev_schedule.proofs.schedule.schedule_of.Given as goal

abbrev pub invariant-loop : goal.invariant-loop
invariant-loop l = record {
  pools : HasPools l.build l.going;
  inputs : HasInputs l.build l.going;
  inside : AreInside l.build (moment_of l.going);
  goes : Goes l.build l.jobs (moment_of l.initial.going) (moment_of l.going);
}
