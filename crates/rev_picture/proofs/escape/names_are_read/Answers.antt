use Rattle.rev_picture.proofs.EscapeLemmas.{names-are-read}
use Rattle.rev_picture.proofs.escape.names_are_read.Goals as goal

pub returns : goal.returns
returns c = names-are-read
