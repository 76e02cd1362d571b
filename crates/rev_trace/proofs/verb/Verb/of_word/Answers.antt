use Rattle.std.proofs.Common.{bytes_eq, List, ℕ, sym, ap, ◌∙◌}
use Rattle.rev_trace.specs.Commands.{verb_of, verbs}
use Rattle.rev_trace.proofs.VerbLemmas.{find-behind}
use Rattle.rev_trace.proofs.verb.Verb.of_word.Goals as goal

pub loop-verb-preserved : goal.loop-verb-preserved
loop-verb-preserved c =
    find-behind c.args.word.now verbs c.loop-verb.verb-index _ (verb_of c.args.word.now) c.loop-verb-test.true
    (ap (λ (t : List ℕ). bytes_eq c.args.word.now t) (sym c.word.ensures) ∙ sym c.eq.ensures ∙ c.if-eq.false) c.loop-verb.invariant
