use Rattle.rev_prompt.specs.Named.{is_meant_at}
use Rattle.rev_prompt.proofs.LastLemmas.{last-found, last-before, last-none}
use Rattle.rev_prompt.proofs.events.last_at.Goals as goal

pub returns-then-passes : goal.returns-then-passes
returns-then-passes c =
    last-found (is_meant_at c.args.history.now.timeline c.args.name.now c.args.path.now) c.loop-number.rest.now
    c.in-Some.before.now c.in-Some.number.now _ c.passes.result c.in-Some.ensures.cases.0 c.passes.ensures
    c.if-passes.true c.loop-number.invariant

pub loop-number-preserved : goal.loop-number-preserved
loop-number-preserved c =
    last-before (is_meant_at c.args.history.now.timeline c.args.name.now c.args.path.now) c.loop-number.rest.now
    c.in-Some.before.now c.in-Some.number.now _ c.passes.result c.in-Some.ensures.cases.0 c.passes.ensures
    c.if-passes.false c.loop-number.invariant

pub returns : goal.returns
returns c =
    last-none (is_meant_at c.args.history.now.timeline c.args.name.now c.args.path.now) c.loop-number.rest.now _
    c.in_default.ensures.cases c.loop-number.invariant
