use Rattle.std.proofs.Common.{◌≡◌, List, map, sym, refl, ap, ap₂, ◌∙◌}
use Rattle.std.specs.Prelude.{Err}
use Rattle.std.specs.declared.option.Option.TheVariants.{Some}
use Rattle.rev_causal.specs.declared.registers.history.Kept.{Kept}
use Rattle.rev_causal.specs.declared.registers.history.HistoryFault.TheVariants as fault
use Rattle.rev_causal.specs.History.{event_at, nearest_above}
use Rattle.rev_causal.specs.Registers.{register_machine}
use Rattle.rev_causal.specs.RegisterHistory.{RegisterHistory, numbered, entry_of, state_of, in_the_way}
use Rattle.rev_causal.proofs.KeptHistories.{same_refused, way_kept, made_for}
use Rattle.rev_causal.proofs.registers.history.History.made.Goals as goal

pub returns-in-Err-clause-refused : goal.returns-in-Err-clause-refused
returns-in-Err-clause-refused c = λ r.
    same_refused c.args.self.now.kept (map numbered c.deref.result.now) (state_of c.args.self.now) c.self.inside.cells c.args.number c.args.event c.in-Err.fault r
    (ap (λ (h : RegisterHistory). h.kept) (sym c.self.view_is) ∙ ap (map numbered) (sym c.deref.ensures.value)) (ap state_of (sym c.self.view_is) ∙ sym c.self.invariant.cells_are) (c.in-Err.ensures.refused r)

pub returns-in-Err-clause-in_the_way : goal.returns-in-Err-clause-in_the_way
returns-in-Err-clause-in_the_way c = λ m h. let one : c.in-Err.fault ≡ fault.InTheWay m = cc in absurd (c.in-Err.ensures.nothing_else m (ap Err one))

pub returns-in-Some-clause-in_the_way : goal.returns-in-Some-clause-in_the_way
returns-in-Some-clause-in_the_way c = λ m h.
    let one : c.in-Some.other ≡ m = cc in
    ap (in_the_way c.args.number c.args.event) (sym c.self.view_is)
    ∙ way_kept c.self.inside.opening c.self.inside.cells c.self.inside.kept.items c.args.number c.args.event c.self.invariant
    ∙ ap₂ (λ f (ks : List Kept). nearest_above register_machine c.args.number f (map entry_of ks)) (sym c.in-Ok.ensures) (sym c.deref-2.ensures.value)
    ∙ sym c.in-Some.ensures ∙ ap Some one

pub returns-clause-made : goal.returns-clause-made
returns-clause-made c = (
  made_for c.self.inside.opening c.self.inside.cells c.self.inside.kept.items c.args.self.now c.self.view_is c.self.invariant
      (record { number = c.args.number; event = c.args.event; footprint = c.in-Ok.footprint; replaced = c.in-Ok-replaced_now.replaced })
      (ap (λ (ks : List Kept). event_at c.args.number (map numbered ks)) (sym c.deref.ensures.value) ∙ c.in_default.ensures.ok.0) c.in_default.ensures.ok.1
      (ap (λ (ks : List Kept). nearest_above register_machine c.args.number c.in-Ok.footprint (map entry_of ks)) (sym c.deref-2.ensures.value) ∙ sym c.in_default-nearest_above.ensures)
      c.in-Ok.ensures c.in-Ok-replaced_now.ensures,
  refl,
  refl,
)
