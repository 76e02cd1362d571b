use Rattle.rev_schedule.specs.Ninja.{Goes.stays, Goes.goes_on}
use Rattle.rev_schedule.proofs.schedule.schedule_of.Goals as goal

pub loop-init : goal.loop-init
loop-init c = record { pools = c.in_ok-going.ensures.pools; inputs = c.in_ok-going.ensures.inputs; inside = c.in_ok-going.ensures.inside; goes = stays }

pub loop-preserved : goal.loop-preserved
loop-preserved c = record {
  pools = c.in_ok-step.ensures.pools;
  inputs = c.in_ok-step.ensures.inputs;
  inside = c.in_ok-step.ensures.inside;
  goes = goes_on c.loop.invariant.goes (rw c.if-not-branch.false at c.in_ok-step.ensures.goes);
}
