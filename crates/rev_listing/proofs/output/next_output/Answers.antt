use Rattle.rev_listing.proofs.InputLemmas.{output-bytes}
use Rattle.rev_listing.proofs.LineLemmas.{fact-at}
use Rattle.rev_listing.proofs.output.next_output.Goals as goal

pub returns : goal.returns
returns c =
    fact-at c.next_field-2.result _ _ _ _ (output-bytes _ _ _ _ _ _ c.args.position c.bytes_of.ensures c.of_two.ensures c.outputs-outputs.ensures.explicit c.outputs-outputs.ensures.implicit) c.next_field-2.ensures
