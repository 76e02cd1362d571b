use Rattle.std.proofs.Common.{nat_eq, not, rules}
use Rattle.std.proofs.lemmas.Fn.{filter_same}
use Rattle.rev_hints.proofs.running.take_out.Goals as goal

pub returns : goal.returns
returns c = filter_same _ (λ k. not (nat_eq k c.args.edge)) _ (λ x b f k. search rules) _ _ c.retain.ensures.filtered
