use Rattle.std.proofs.Common.{sym, ◌∙◌}
use Rattle.rev_entry_conflicts.proofs.TouchLemmas.{either-more, touch-is}
use Rattle.rev_entry_conflicts.proofs.touch.add_deed.Goals as goal

pub returns : goal.returns
returns c = λ n. either-more (c.in_ok-add_range.ensures n) (touch-is c.args.deed.now n c.args.count (sym c.is_touch.ensures ∙ c.if-not-is_touch.false))
