use Rattle.rev_fields.proofs.LawLemmas.{one-field}
use Rattle.rev_fields.proofs.laws.one_field.Goals as goal

pub returns : goal.returns
returns c = one-field
