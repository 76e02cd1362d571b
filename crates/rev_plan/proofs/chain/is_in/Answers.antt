use Rattle.std.proofs.Common.{rules, false}
use Rattle.std.proofs.lemmas.Option.{unwrap_or-slice_get}
use Rattle.rev_plan.proofs.chain.is_in.Goals as goal

pub returns : goal.returns
returns c = search (rules, unwrap_or-slice_get)
