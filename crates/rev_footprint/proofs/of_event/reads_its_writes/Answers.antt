use Rattle.std.proofs.Common.{refl}
use Rattle.rev_footprint.proofs.RowLemmas.{besides-plan, besides-finish, besides-fail, besides-touch, besides-interrupt}
use Rattle.rev_footprint.proofs.of_event.reads_its_writes.Goals as goal

pub returns-in-Plan : goal.returns-in-Plan
returns-in-Plan c = λ is m s. rw (c.in-Plan.is, besides-plan m s) refl

pub returns-in-Finish : goal.returns-in-Finish
returns-in-Finish c = λ is m s. rw (c.in-Finish.is, besides-finish m s) refl

pub returns-in-Fail : goal.returns-in-Fail
returns-in-Fail c = λ is m s. rw (c.in-Fail.is, besides-fail m s) refl

pub returns-in-Touch : goal.returns-in-Touch
returns-in-Touch c = λ is m s. rw (c.in-Touch.is, besides-touch m s) refl

pub returns-in-Interrupt : goal.returns-in-Interrupt
returns-in-Interrupt c = λ is m s. rw (c.in-Interrupt.is, besides-interrupt m s) refl
