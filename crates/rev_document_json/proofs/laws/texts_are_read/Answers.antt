use Rattle.rev_document_json.proofs.ReadingLemmas.{texts-are-read}
use Rattle.rev_document_json.proofs.laws.texts_are_read.Goals as goal

pub returns : goal.returns
returns c = texts-are-read
