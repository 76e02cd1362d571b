use Rattle.rev_paths.proofs.MentionLemmas.{mentions-distinct}
use Rattle.rev_paths.proofs.laws.first_mentions_are_distinct.Goals as goal

pub returns : goal.returns
returns c = mentions-distinct
