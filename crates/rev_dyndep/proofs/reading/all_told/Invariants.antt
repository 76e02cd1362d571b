use Rattle.std.proofs.Common.{◌≡◌, length}
use Rattle.rev_syntax.specs.Statements.{statements_of}
use Rattle.rev_dyndep.specs.Told.{all_told}
use Rattle.rev_dyndep.proofs.AnswerLemmas.{onto}
use Rattle.rev_dyndep.proofs.reading.all_told.Given as goal

abbrev pub invariant-loop-told : goal.invariant-loop-told
invariant-loop-told l = onto l.told.items (all_told (statements_of l.rest)) ≡ all_told (statements_of l.fn.lines)

abbrev pub decreases-loop-told : goal.decreases-loop-told
decreases-loop-told l = length l.rest
