use Rattle.std.proofs.Common.{◌≡◌, false, length}
use Rattle.rev_syntax.specs.Bytes.{begins_with}
use Rattle.rev_syntax.specs.Paths.{raw_paths, texts_of}
use Rattle.rev_syntax.proofs.AnswerLemmas.{onto_list}
use Rattle.rev_syntax.proofs.paths.texts.Given as goal

-- the paths so far, and those of what is left, which begins with no space
abbrev pub invariant-loop-rest : goal.invariant-loop-rest
invariant-loop-rest l =
    record {
      read : onto_list l.texts.items (texts_of l.line (raw_paths l.rest)) ≡ texts_of l.line (raw_paths l.text);
      led : begins_with 32 l.rest ≡ false;
    }

abbrev pub decreases-loop-rest : goal.decreases-loop-rest
decreases-loop-rest l = length l.rest
