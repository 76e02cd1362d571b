use Rattle.rev_picture.proofs.EscapeLemmas.{words-are-read}
use Rattle.rev_picture.proofs.escape.words_are_read.Goals as goal

pub returns : goal.returns
returns c = words-are-read
