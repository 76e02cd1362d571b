use Rattle.std.proofs.Common.{◌≡◌, ◌<◌, subst, sym, ap, ◌∙◌, arith, Some}
use Rattle.rev_schedule.specs.declared.job.Job.{Job}
use Rattle.rev_schedule.specs.Builds.{edges_of, job_of}
use Rattle.rev_schedule.specs.Going.{AreInside, moment_of}
use Rattle.rev_schedule.specs.Lines.{line_items}
use Rattle.rev_schedule.specs.Moments.{Moment}
use Rattle.rev_schedule.specs.Ninja.{Finishes, Step.passes}
use Rattle.rev_schedule.proofs.InsideLemmas.{ended-inside, finishes-inside, first-inside, starts-inside, taken-inside}
use Rattle.rev_schedule.proofs.PoolLemmas.{job-read}
use Rattle.rev_schedule.proofs.going.Going.step.Goals as goal

pub index-requires : goal.index-requires
index-requires c =
    omega (arith, c.args.build.now.jobs.ok.0, first-inside c.args.build.now c.in-Some.turn _ _ c.requires.inside.ready c.in-Some.ensures.first.1)

pub finish-requires-clause-edge : goal.finish-requires-clause-edge
finish-requires-clause-edge c = first-inside c.args.build.now c.in-Some.turn _ _ c.requires.inside.ready c.in-Some.ensures.first.1

pub run-requires : goal.run-requires
run-requires c = record { edge = first-inside c.args.build.now c.in-Some.turn _ _ c.requires.inside.ready c.in-Some.ensures.first.1 }

pub returns-in_ok-finish-clause-inside : goal.returns-in_ok-finish-clause-inside
returns-in_ok-finish-clause-inside c =
    finishes-inside c.args.build.now c.in-Some.turn.1 _ _
    (taken-inside c.args.build.now c.in-Some.turn (moment_of c.args.self.now) _ _ c.requires.inside c.in-Some.ensures.first.1 c.in-Some.ensures.first.2)
    c.in_ok-finish.ensures.finishes

pub returns-in_ok-finish-clause-goes : goal.returns-in_ok-finish-clause-goes
returns-in_ok-finish-clause-goes c =
    let inside : c.in-Some.turn.1 < edges_of c.args.build.now = first-inside c.args.build.now c.in-Some.turn _ _ c.requires.inside.ready c.in-Some.ensures.first.1 in
    let job : job_of c.args.build.now c.in-Some.turn.1 ≡ c.index.result.now = job-read c.args.build.now c.in-Some.turn.1 c.index.result.now inside c.index.ensures in
    passes record {
      free = c.in-Some.ensures.first.0;
      turn = c.in-Some.turn;
      rest = line_items c.next_start.new.self.ready;
      first = c.in-Some.ensures.first.1;
      phony = ap (λ (j : Job). j.phony) job ∙ c.if-index.true;
      finishes = subst (λ (m : Moment). Finishes c.args.build.now c.in-Some.turn.1 m (moment_of c.finish.new.self)) c.in-Some.ensures.first.2 c.in_ok-finish.ensures.finishes;
    }

pub returns-in_ok-run-clause-inside : goal.returns-in_ok-run-clause-inside
returns-in_ok-run-clause-inside c =
    let inside : c.in-Some.turn.1 < edges_of c.args.build.now = first-inside c.args.build.now c.in-Some.turn _ _ c.requires.inside.ready c.in-Some.ensures.first.1 in
    starts-inside c.args.build.now c.in-Some.turn.1 _ _ inside
    (taken-inside c.args.build.now c.in-Some.turn (moment_of c.args.self.now) _ _ c.requires.inside c.in-Some.ensures.first.1 c.in-Some.ensures.first.2)
    c.in_ok-run.ensures.starts

pub finish-requires-in-Some-take-clause-edge : goal.finish-requires-in-Some-take-clause-edge
finish-requires-in-Some-take-clause-edge c =
    let inside : AreInside c.args.build.now (moment_of c.next_start.new.self) = subst (AreInside c.args.build.now) (sym c.in_default.ensures.first.1) c.requires.inside in
    first-inside c.args.build.now c.in-Some-take.turn _ _ inside.running c.in-Some-take.ensures

pub returns-in_ok-finish-in-Some-take-clause-inside : goal.returns-in_ok-finish-in-Some-take-clause-inside
returns-in_ok-finish-in-Some-take-clause-inside c =
    let inside : AreInside c.args.build.now (moment_of c.next_start.new.self) = subst (AreInside c.args.build.now) (sym c.in_default.ensures.first.1) c.requires.inside in
    finishes-inside c.args.build.now c.in-Some-take.turn.1 _ _
    (ended-inside c.args.build.now c.in-Some-take.turn (moment_of c.next_start.new.self) _ c.in-Some-take.turn.0 (Some c.in-Some-take.turn.1) inside c.in-Some-take.ensures)
    c.in_ok-finish-in-Some-take.ensures.finishes
