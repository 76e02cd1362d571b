use Rattle.rev_causal.proofs.KeptLists.{not_kept_at, not_kept_end}
use Rattle.rev_causal.proofs.registers.history.kept_at.Goals as goal

pub returns-else-kept-place : goal.returns-else-kept-place
returns-else-kept-place c =
    not_kept_at c.args.number c.args.kept.now c.place_of-place.result c.index-kept-place.result c.requires c.place_of-place.ensures c.if-place-kept.true c.if-kept-place.false

pub returns-else-place-kept : goal.returns-else-place-kept
returns-else-place-kept c = not_kept_end c.args.number c.args.kept.now c.place_of-place.result c.place_of-place.ensures c.if-place-kept.false
