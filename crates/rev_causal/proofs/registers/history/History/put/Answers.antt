use Rattle.std.proofs.Common.{List, map, sym, ap, subst, subst₂, ◌∙◌}
use Rattle.rev_causal.specs.declared.registers.history.Kept.{Kept}
use Rattle.rev_causal.specs.RegisterHistory.{RegisterHistory, numbered, IsHistory, IsPlaceOf, IsMadeFor, kept_at_its_place}
use Rattle.rev_causal.proofs.KeptHistories.{PutOk, put_ok}
use Rattle.rev_causal.proofs.registers.history.History.put.Goals as goal

-- the lemma at this call
done : (c : goal.After-drop-self-inside) → PutOk c.self.inside.opening c.self.inside.cells c.self.inside.kept.items c.place_of-place.result c.args.made
done c =
    put_ok c.self.inside.opening c.self.inside.cells c.self.inside.kept.items c.place_of-place.result c.args.made c.self.invariant
    (subst (λ (ks : List Kept). IsPlaceOf c.args.made.number ks c.place_of-place.result) c.deref.ensures.value c.place_of-place.ensures)
    (subst (λ (h : RegisterHistory). IsMadeFor h c.args.made) (sym c.self.view_is) c.requires)

pub invariant_of-self : goal.invariant_of-self
invariant_of-self c = subst₂ (IsHistory c.self.inside.opening) (sym c.in-Ok.ensures) (sym c.in-Ok-insert.ensures.items) (done c).history

pub returns-in-Ok-insert-clause-ok : goal.returns-in-Ok-insert-clause-ok
returns-in-Ok-insert-clause-ok c =
    ap (λ ks. record { opening = c.self.inside.opening; kept = ks }) (ap (map numbered) c.in-Ok-insert.ensures.items ∙ (done c).kept) ∙ ap (kept_at_its_place c.args.made.number c.args.made.event) c.self.view_is
