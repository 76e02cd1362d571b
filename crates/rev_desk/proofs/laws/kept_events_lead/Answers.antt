use Rattle.rev_desk.proofs.LeadLemmas.{kept_events_lead}
use Rattle.rev_desk.proofs.laws.kept_events_lead.Goals as goal

pub returns : goal.returns
returns c = kept_events_lead
