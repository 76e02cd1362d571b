use Rattle.std.proofs.Common.{List, get_or, subst, sym, ◌∙◌}
use Rattle.std.proofs.lemmas.List.{take_all, take_more}
use Rattle.rev_schedule.specs.Going.{moment_of}
use Rattle.rev_schedule.specs.Moments.{Moment}
use Rattle.rev_schedule.specs.Ninja.{ArriveAll, ArriveAll.nobody, ArriveAll.one_more}
use Rattle.rev_schedule.specs.Turns.{Turn}
use Rattle.rev_schedule.proofs.InsideLemmas.{in-same, inputs-same}
use Rattle.rev_schedule.proofs.going.Going.finish.Goals as goal

pub loop-turn-init : goal.loop-turn-init
loop-turn-init c = record { pools = c.open.ensures.pools; inputs = c.in_ok-turns.ensures.inputs; arrive = nobody }

pub arrive-requires-clause-edge : goal.arrive-requires-clause-edge
arrive-requires-clause-edge c =
    (c.in_ok-turns.ensures.come.only _ (in-same c.deref-turn-items.result.now c.in_ok-turns.turns.items c.loop-turn.turn-index (0, 0) c.deref-turn-items.ensures.value c.loop-turn-test.true)).0

pub arrive-requires-clause-pools : goal.arrive-requires-clause-pools
arrive-requires-clause-pools c = c.loop-turn.invariant.pools

pub loop-turn-preserved : goal.loop-turn-preserved
loop-turn-preserved c = record {
  pools = c.in_ok-arrive.ensures.pools;
  inputs = inputs-same c.args.build.now c.loop-turn.self c.arrive.new.self c.in_ok-arrive.ensures.known c.loop-turn.invariant.inputs;
  arrive = subst (λ (ts : List Turn). ArriveAll c.args.build.now (moment_of c.open.new.self) ts (moment_of c.arrive.new.self))
      (sym (take_more c.deref-turn-items.result.now c.loop-turn.turn-index (0, 0) c.loop-turn-test.true))
      (one_more (get_or c.deref-turn-items.result.now c.loop-turn.turn-index (0, 0)) c.loop-turn.invariant.arrive c.in_ok-arrive.ensures.arrives);
}

pub returns-clause-finishes : goal.returns-clause-finishes
returns-clause-finishes c = record {
  left = moment_of c.leave.new.self;
  leaves = c.in_ok-leave.ensures.leaves;
  turns = c.in_ok-turns.turns.items;
  come = c.in_ok-turns.ensures.come;
  arrive = subst (λ (m : Moment). ArriveAll c.args.build.now m c.in_ok-turns.turns.items (moment_of c.loop-turn.self)) c.in_ok-turns.ensures.opens
      (subst (λ (ts : List Turn). ArriveAll c.args.build.now (moment_of c.open.new.self) ts (moment_of c.loop-turn.self))
      (take_all c.loop-turn.turn-index c.deref-turn-items.result.now c.loop-turn-test.false ∙ c.deref-turn-items.ensures.value) c.loop-turn.invariant.arrive);
}
