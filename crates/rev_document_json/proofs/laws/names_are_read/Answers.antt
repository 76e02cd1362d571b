use Rattle.rev_document_json.proofs.ReadingLemmas.{names-are-read}
use Rattle.rev_document_json.proofs.laws.names_are_read.Goals as goal

pub returns : goal.returns
returns c = names-are-read
