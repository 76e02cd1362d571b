use Rattle.std.proofs.Common.{◌≡◌, ℕ, List, map, sym, ap, subst, subst₂, ◌∙◌, ◌↔◌}
use Rattle.std.specs.declared.option.Option.{Option}
use Rattle.std.specs.declared.option.Option.TheVariants.{None, Some}
use Rattle.std.specs.Prelude.{IsErrOf, Ok, Err}
use Rattle.rev_causal.specs.declared.registers.history.Kept.{Kept}
use Rattle.rev_causal.specs.declared.registers.history.HistoryFault.{HistoryFault}
use Rattle.rev_causal.specs.declared.registers.history.HistoryFault.TheVariants as fault
use Rattle.rev_causal.specs.History.{nearest_to}
use Rattle.rev_causal.specs.Store.{set_cells}
use Rattle.rev_causal.specs.Registers.{register_machine, cell_cmp}
use Rattle.rev_causal.specs.RegisterHistory.{numbered, entry_of, IsHistory, IsKeptAt, undone, nearest_of}
use Rattle.rev_causal.proofs.KeptHistories.{UndoOk, undo_ok, nearest_kept, event_there}
use Rattle.rev_causal.proofs.registers.history.History.undo.Goals as goal

-- one answer is not another
same_needed : (o p : Option ℕ) (e : HistoryFault) (m : ℕ) → o ≡ p → IsErrOf {T = ℕ} (Err e) (fault.Needed m) ↔ (p ≡ Some m) → IsErrOf {T = Kept} (Err e) (fault.Needed m) ↔ (o ≡ Some m)
same_needed o p e m is k = (
  λ h. let one : e ≡ fault.Needed m = cc in is ∙ k.0 (ap Err one),
  λ h. let there : IsErrOf {T = ℕ} (Err e) (fault.Needed m) = k.1 (sym is ∙ h) in let one : e ≡ fault.Needed m = cc in ap Err one,
)

taken_not_needed : (o : Option ℕ) (k : Kept) (m : ℕ) → o ≡ None → IsErrOf (Ok k) (fault.Needed m) ↔ (o ≡ Some m)
taken_not_needed o k m none = (λ h. cc, λ h. cc)

memory_not_needed : (o : Option ℕ) (m : ℕ) → o ≡ None → IsErrOf {T = Kept} (Err fault.Memory) (fault.Needed m) ↔ (o ≡ Some m)
memory_not_needed o m none = (λ h. cc, λ h. cc)

pub returns-in-Err-clause-needed : goal.returns-in-Err-clause-needed
returns-in-Err-clause-needed c = λ m.
    same_needed (nearest_of c.args.number c.args.self.now) (nearest_to register_machine c.args.number (map entry_of c.deref.result.now)) c.in-Err.fault m
    (ap (nearest_of c.args.number) (sym c.self.view_is) ∙ nearest_kept c.self.inside.opening c.self.inside.cells c.self.inside.kept.items c.args.number c.self.invariant
    ∙ ap (λ (ks : List Kept). nearest_to register_machine c.args.number (map entry_of ks)) (sym c.deref.ensures.value)) (c.in-Err.ensures.needed m)

-- the lemma at this call
done : (c : goal.After-remove) → UndoOk c.self.inside.opening c.self.inside.cells c.self.inside.kept.items c.in-Ok.place c.args.number c.index.result.now
done c =
    undo_ok c.self.inside.opening c.self.inside.cells c.self.inside.kept.items c.in-Ok.place c.args.number c.index.result.now c.self.invariant
    (subst (λ (ks : List Kept). IsKeptAt c.args.number ks c.in-Ok.place) c.deref.ensures.value c.in-Ok.ensures.taken.0) c.index.ensures
    (ap (λ (ks : List Kept). nearest_to register_machine c.args.number (map entry_of ks)) (sym c.deref.ensures.value) ∙ c.in-Ok.ensures.taken.1)

none : (c : goal.After-remove) → nearest_of c.args.number c.args.self.now ≡ None
none c =
    ap (nearest_of c.args.number) (sym c.self.view_is) ∙ nearest_kept c.self.inside.opening c.self.inside.cells c.self.inside.kept.items c.args.number c.self.invariant
    ∙ ap (λ (ks : List Kept). nearest_to register_machine c.args.number (map entry_of ks)) (sym c.deref.ensures.value) ∙ c.in-Ok.ensures.taken.1

pub invariant_of-self : goal.invariant_of-self
invariant_of-self c = subst₂ (IsHistory c.self.inside.opening) (sym (c.in-Ok-written.ensures ∙ ap (set_cells cell_cmp c.self.inside.cells) c.deref-2.ensures.value)) (sym c.remove.ensures.items) (done c).history

pub returns-in-Ok-written-clause-ok : goal.returns-in-Ok-written-clause-ok
returns-in-Ok-written-clause-ok c =
    ap (λ ks. record { opening = c.self.inside.opening; kept = ks }) (ap (map numbered) c.remove.ensures.items ∙ (done c).kept) ∙ ap (undone c.args.number) c.self.view_is

pub returns-in-Ok-written-clause-free : goal.returns-in-Ok-written-clause-free
returns-in-Ok-written-clause-free c = none c

pub returns-in-Ok-written-clause-needed : goal.returns-in-Ok-written-clause-needed
returns-in-Ok-written-clause-needed c = λ m. taken_not_needed (nearest_of c.args.number c.args.self.now) c.remove.result m (none c)

pub returns-in-Err-written-clause-needed : goal.returns-in-Err-written-clause-needed
returns-in-Err-written-clause-needed c = λ m. memory_not_needed (nearest_of c.args.number c.args.self.now) m
    (ap (nearest_of c.args.number) (sym c.self.view_is) ∙ nearest_kept c.self.inside.opening c.self.inside.cells c.self.inside.kept.items c.args.number c.self.invariant
    ∙ ap (λ (ks : List Kept). nearest_to register_machine c.args.number (map entry_of ks)) (sym c.deref.ensures.value) ∙ c.in-Ok.ensures.taken.1)

pub returns-in-Ok-written-clause-taken : goal.returns-in-Ok-written-clause-taken
returns-in-Ok-written-clause-taken c =
    event_there c.self.inside.opening c.self.inside.kept.items c.args.self.now c.args.number c.in-Ok.place c.remove.result c.self.view_is
    (subst (λ (ks : List Kept). IsKeptAt c.args.number ks c.in-Ok.place) c.deref.ensures.value c.in-Ok.ensures.taken.0) c.remove.ensures.value
