use Rattle.std.proofs.Common.{◌∙◌, ◌++◌, ap}
use Rattle.rev_sentences.proofs.fault_lines.place_sentence.Goals as goal

pub returns : goal.returns
returns c =
    record {
      before = c.push_place.new.sentence.items;
      after = c.in_ok-push_shown.ensures.more;
      is = c.in_ok-push_shown.ensures.is ∙ ap (λ l. l ++ c.in_ok-push_shown.ensures.more) c.in_ok-push_meaning.ensures;
    }
