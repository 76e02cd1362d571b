use Rattle.std.proofs.Common.{◌∙◌, ◌++◌, ap}
use Rattle.rev_sentences.proofs.fault_lines.graph_sentence.Goals as goal

pub returns : goal.returns
returns c =
    record {
      before = c.push_manifest.new.sentence.items;
      after = c.in_ok-push_path.ensures.more;
      is = c.in_ok-push_path.ensures.is ∙ ap (λ l. l ++ c.in_ok-push_path.ensures.more) c.in_ok-push_meaning.ensures;
    }
