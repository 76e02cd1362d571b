use Rattle.std.proofs.Common.{rules, not, sym}
use Rattle.rev_causal.specs.Chosen.{is_among}
use Rattle.rev_numbers.proofs.TakenLemmas.{filter_from_retain, without_nobody}
use Rattle.rev_numbers.proofs.sorted.take_in_one.Goals as goal

pub returns-in-Some : goal.returns-in-Some
returns-in-Some c = filter_from_retain _ (λ k. not (is_among c.args.members.now k)) _ (λ x b f y called. search rules) _ _ c.retain.ensures.filtered

pub returns-in-None : goal.returns-in-None
returns-in-None c = sym (without_nobody c.args.members.now c.args.numbers.now.items (sym c.in-None.ensures.value))
