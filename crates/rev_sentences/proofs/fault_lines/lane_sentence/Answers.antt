use Rattle.std.proofs.Common.{◌∙◌, [], sym, append-nil}
use Rattle.rev_sentences.proofs.fault_lines.lane_sentence.Goals as goal

pub returns : goal.returns
returns c =
    record {
      before = c.push-2.new.sentence.items;
      after = [];
      is = c.in_ok-push_meaning.ensures ∙ sym (append-nil _);
    }
