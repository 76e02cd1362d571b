use Rattle.rev_verdicts.proofs.certifying.certified_at.Goals as goal

pub returns : goal.returns
returns c = (
  record { known = c.in_ok-known.known; is_known = c.in_ok-known.ensures; certified = c.in_ok-certificate.ensures },
  c.in_ok-written.ensures,
)
