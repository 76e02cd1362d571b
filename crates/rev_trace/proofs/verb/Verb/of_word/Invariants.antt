use Rattle.std.proofs.Common.{◌≡◌, drop, bytes_eq}
use Rattle.std.specs.List.{find}
use Rattle.rev_trace.specs.Commands.{verb_of, verbs, word_of}
use Rattle.rev_trace.proofs.verb.Verb.of_word.Given as goal

abbrev pub invariant-loop-verb : goal.invariant-loop-verb
invariant-loop-verb l = find (λ v. bytes_eq l.word (word_of v)) (drop l.verb-index verbs) ≡ verb_of l.word
