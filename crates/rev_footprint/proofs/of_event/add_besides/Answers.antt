use Rattle.rev_footprint.proofs.AddsLemmas.{adds-nothing}
use Rattle.rev_footprint.proofs.RowLemmas.{besides-start, besides-clean, besides-pass, besides-abort, besides-plan, besides-finish, besides-fail, besides-touch, besides-interrupt, besides-resize}
use Rattle.rev_footprint.proofs.of_event.add_besides.Goals as goal

pub returns-in-Start : goal.returns-in-Start
returns-in-Start c = rw (c.in-Start.is, besides-start) c.of_start.ensures

pub returns-in-Clean : goal.returns-in-Clean
returns-in-Clean c = rw (c.in-Clean.is, besides-clean) c.of_clean.ensures

pub returns-in-Pass : goal.returns-in-Pass
returns-in-Pass c = rw (c.in-Pass.is, besides-pass) c.of_pass.ensures

pub returns-in-Abort : goal.returns-in-Abort
returns-in-Abort c = rw (c.in-Abort.is, besides-abort) c.add.ensures

pub returns-in-Plan : goal.returns-in-Plan
returns-in-Plan c = rw (c.in-Plan.is, besides-plan) (adds-nothing c.args.reads.now.keys)

pub returns-in-Finish : goal.returns-in-Finish
returns-in-Finish c = rw (c.in-Finish.is, besides-finish) (adds-nothing c.args.reads.now.keys)

pub returns-in-Fail : goal.returns-in-Fail
returns-in-Fail c = rw (c.in-Fail.is, besides-fail) (adds-nothing c.args.reads.now.keys)

pub returns-in-Touch : goal.returns-in-Touch
returns-in-Touch c = rw (c.in-Touch.is, besides-touch) (adds-nothing c.args.reads.now.keys)

pub returns-in-Interrupt : goal.returns-in-Interrupt
returns-in-Interrupt c = rw (c.in-Interrupt.is, besides-interrupt) (adds-nothing c.args.reads.now.keys)

pub returns-in-Resize : goal.returns-in-Resize
returns-in-Resize c = rw (c.in-Resize.is, besides-resize) c.of_resize.ensures
