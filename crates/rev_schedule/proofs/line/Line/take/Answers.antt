use Rattle.rev_schedule.proofs.TurnLemmas.{first-of}
use Rattle.rev_schedule.proofs.line.Line.take.Goals as goal

pub returns-in-Some : goal.returns-in-Some
returns-in-Some c = first-of c.in-Some.field-0 _ _ c.in-Some.ensures.permutation (c.in-Some.ensures.heap_order c.args.self.now.ordered).1
