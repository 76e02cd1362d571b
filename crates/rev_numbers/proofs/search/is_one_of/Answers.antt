use Rattle.std.proofs.Common.{sym}
use Rattle.rev_numbers.proofs.TakenLemmas.{first_apart}
use Rattle.rev_numbers.proofs.search.is_one_of.Goals as goal

pub returns-then-number-first : goal.returns-then-number-first
returns-then-number-first c = sym (first_apart c.args.number c.args.first c.args.numbers.now c.if-number-first.true c.requires.rising c.requires.first)
