use Rattle.rev_certificate.proofs.CertificateLemmas.{certain-one-outcome}
use Rattle.rev_certificate.proofs.laws.certain_one_outcome.Goals as goal

pub returns : goal.returns
returns c = certain-one-outcome
