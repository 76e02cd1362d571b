use Rattle.std.proofs.Common.{◌≡◌, map, drop}
use Rattle.rev_syntax.specs.Statements.{bindings_of}
use Rattle.rev_syntax.specs.Seen.{seen_binding}
use Rattle.rev_syntax.proofs.AnswerLemmas.{onto_list}
use Rattle.rev_syntax.proofs.reader.bindings_of.Given as goal

abbrev pub invariant-loop-line : goal.invariant-loop-line
invariant-loop-line l = onto_list (map seen_binding l.bindings.items) (bindings_of (drop l.line-index l.block)) ≡ bindings_of l.block
