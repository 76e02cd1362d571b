use Rattle.rev_paths.proofs.MentionLemmas.{mentions-members}
use Rattle.rev_paths.proofs.laws.first_mentions_are_all.Goals as goal

pub returns : goal.returns
returns c = mentions-members
