use Rattle.std.proofs.Common.{◌≡◌, drop}
use Rattle.rev_dyndep.specs.Told.{paths_of}
use Rattle.rev_dyndep.proofs.AnswerLemmas.{onto}
use Rattle.rev_dyndep.proofs.paths.paths_of.Given as goal

abbrev pub invariant-loop-text : goal.invariant-loop-text
invariant-loop-text l = onto l.names.items (paths_of l.line (drop l.text-index l.texts)) ≡ paths_of l.line l.texts
