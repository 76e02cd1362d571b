use Rattle.std.proofs.Common.{◌≡◌, ◌+◌, ◌-◌, length, take, drop, List, ◌∷◌, [], map, sym, ap, subst, ◌∙◌, ◌↔◌}
use Rattle.std.specs.declared.option.Option.{Option}
use Rattle.std.specs.declared.option.Option.TheVariants.{None}
use Rattle.std.specs.Prelude.{IsErrOf, Ok, Err}
use Rattle.rev_causal.specs.declared.registers.Event.{Event}
use Rattle.rev_causal.specs.declared.registers.history.Kept.{Kept}
use Rattle.rev_causal.specs.declared.registers.history.HistoryFault.TheVariants as fault
use Rattle.rev_causal.specs.Order.{cone}
use Rattle.rev_causal.specs.Entries.{clash}
use Rattle.rev_causal.specs.History.{event_at}
use Rattle.rev_causal.specs.Registers.{register_machine}
use Rattle.rev_causal.specs.RegisterHistory.{entry_of, number_of_entry, cone_numbers, IsKeptAt}
use Rattle.rev_causal.proofs.KeptHistories.{rest_of_slice, cone_there, kept_in}
use Rattle.rev_causal.proofs.registers.history.History.cone.Goals as goal

-- one answer is not another
ok_not_missing : {T : Type 0} (t : T) (o : Option Event) → (o ≡ None → ⊥) → IsErrOf {T = T} (Ok t) fault.NotKept ↔ (o ≡ None)
ok_not_missing t o some = (λ h. cc, λ h. absurd (some h))

memory_not_missing : {T : Type 0} (o : Option Event) → (o ≡ None → ⊥) → IsErrOf {T = T} (Err fault.Memory) fault.NotKept ↔ (o ≡ None)
memory_not_missing o some = (λ h. cc, λ h. absurd (some h))

pub returns-in-Ok-clause-ok : goal.returns-in-Ok-clause-ok
returns-in-Ok-clause-ok c =
    c.in-Ok.ensures
    ∙ ap (λ (ks : List Kept). map number_of_entry (entry_of c.index.result.now ∷ cone (clash register_machine) (entry_of c.index.result.now ∷ []) (map entry_of ks)))
    (ap (λ (ks : List Kept). take (length ks - (c.in-Some.place + 1)) (drop (c.in-Some.place + 1) ks)) c.deref-2.ensures.value ∙ rest_of_slice c.self.inside.kept.items (c.in-Some.place + 1))
    ∙ ap (map number_of_entry) (sym (cone_there c.self.inside.opening c.self.inside.cells c.self.inside.kept.items c.args.number c.in-Some.place c.index.result.now c.self.invariant
    (subst (λ (ks : List Kept). IsKeptAt c.args.number ks c.in-Some.place) c.deref.ensures.value c.in-Some.ensures) c.index.ensures))
    ∙ ap (cone_numbers c.args.number) c.self.view_is

pub returns-in-Ok-clause-not_kept : goal.returns-in-Ok-clause-not_kept
returns-in-Ok-clause-not_kept c = ok_not_missing c.in-Ok.numbers (event_at c.args.number c.args.self.now.kept)
    (kept_in c.self.inside.opening c.self.inside.kept.items c.args.self.now c.args.number c.in-Some.place c.self.view_is (subst (λ (ks : List Kept). IsKeptAt c.args.number ks c.in-Some.place) c.deref.ensures.value c.in-Some.ensures))

pub returns-in-Err-clause-not_kept : goal.returns-in-Err-clause-not_kept
returns-in-Err-clause-not_kept c = memory_not_missing (event_at c.args.number c.args.self.now.kept)
    (kept_in c.self.inside.opening c.self.inside.kept.items c.args.self.now c.args.number c.in-Some.place c.self.view_is (subst (λ (ks : List Kept). IsKeptAt c.args.number ks c.in-Some.place) c.deref.ensures.value c.in-Some.ensures))
