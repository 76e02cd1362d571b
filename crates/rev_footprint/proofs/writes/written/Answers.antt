use Rattle.rev_footprint.proofs.RowLemmas.{written-plan, written-start, written-finish, written-fail, written-abort, written-clean, written-pass, written-touch, written-interrupt, written-resize}
use Rattle.rev_footprint.proofs.writes.written.Goals as goal

pub returns-in-Plan : goal.returns-in-Plan
returns-in-Plan c = rw (c.in-Plan.is, written-plan) c.plan_writes.ensures

pub returns-in_ok-started-in-Start : goal.returns-in_ok-started-in-Start
returns-in_ok-started-in-Start c = rw (c.in-Start.is, written-start) (c.in_ok-started-in-Start.ensures c.args.cells.now.state)

pub returns-in-Finish : goal.returns-in-Finish
returns-in-Finish c = rw (c.in-Finish.is, written-finish) c.of_finish.ensures

pub returns-in-Fail : goal.returns-in-Fail
returns-in-Fail c = rw (c.in-Fail.is, written-fail) c.of_end.ensures

pub returns-in-Abort : goal.returns-in-Abort
returns-in-Abort c = rw (c.in-Abort.is, written-abort) c.of_end-in-Abort.ensures

pub returns-in_ok-cleaned-in-Clean : goal.returns-in_ok-cleaned-in-Clean
returns-in_ok-cleaned-in-Clean c = rw (c.in-Clean.is, written-clean) (c.in_ok-cleaned-in-Clean.ensures c.args.cells.now.state)

pub returns-in_ok-passed-in-Pass : goal.returns-in_ok-passed-in-Pass
returns-in_ok-passed-in-Pass c = rw (c.in-Pass.is, written-pass) (c.in_ok-passed-in-Pass.ensures c.args.cells.now.state)

pub returns-in-Touch : goal.returns-in-Touch
returns-in-Touch c = rw (c.in-Touch.is, written-touch) c.of_touch.ensures

pub returns-in-Interrupt : goal.returns-in-Interrupt
returns-in-Interrupt c = rw (c.in-Interrupt.is, written-interrupt) c.one.ensures

pub returns-in-Resize : goal.returns-in-Resize
returns-in-Resize c = rw (c.in-Resize.is, written-resize) c.one-in-Resize.ensures
