use Rattle.rev_plan.proofs.OneChain.{one-chain-law}
use Rattle.rev_plan.proofs.laws.one_chain.Goals as goal

pub returns : goal.returns
returns c = one-chain-law
