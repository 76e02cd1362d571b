use Rattle.std.proofs.Common.{ap, sym, is_some, true≢false, ◌∙◌}
use Rattle.rev_causal.proofs.Chosen.{lookup-event_at}
use Rattle.rev_order.proofs.pairing.item_at.Goals as goal

pub unreachable-requires : goal.unreachable-requires
unreachable-requires g c = true≢false (sym c.requires ∙ ap is_some (sym (lookup-event_at c.args.number c.args.items.now.entries) ∙ sym c.in-None.ensures.value))

pub returns : goal.returns
returns g c = sym (lookup-event_at c.args.number c.args.items.now.entries) ∙ sym c.in-Some.ensures.value
