use Rattle.std.proofs.Common.{◌≡◌, map, refl, ◌↔◌}
use Rattle.std.specs.declared.option.Option.{Option}
use Rattle.std.specs.declared.option.Option.TheVariants.{None, Some}
use Rattle.std.specs.Prelude.{IsErrOf, Err}
use Rattle.rev_causal.specs.History.{event_at}
use Rattle.rev_causal.specs.Registers.{State, registers}
use Rattle.rev_causal.specs.RegisterHistory.{numbered}
use Rattle.rev_causal.specs.declared.registers.Event.{Event}
use Rattle.rev_causal.specs.declared.registers.Refusal.{Refusal}
use Rattle.rev_causal.specs.declared.registers.history.HistoryFault.TheVariants as fault
use Rattle.rev_causal.proofs.KeptHistories.{is_kept}
use Rattle.rev_causal.proofs.registers.history.keepable.Goals as goal

-- a number that is kept is refused as such
not_refused : (o : Option Event) (s : State) (e : Event) (r : Refusal) → (o ≡ None → ⊥) → IsErrOf {T = Unit {0}} (Err fault.IsKept) (fault.Refused r) ↔ ((o ≡ None) × (registers.refusal s e ≡ Some r))
not_refused o s e r some = (λ h. absurd (cc), λ h. absurd (some h.0))

pub returns-in-Some-clause-is_kept : goal.returns-in-Some-clause-is_kept
returns-in-Some-clause-is_kept c = (λ h. is_kept c.args.number c.args.kept.now c.in-Some._place c.in-Some.ensures, λ h. refl)

pub returns-in-Some-clause-refused : goal.returns-in-Some-clause-refused
returns-in-Some-clause-refused c = λ r. not_refused (event_at c.args.number (map numbered c.args.kept.now)) c.args.cells.now c.args.event r (is_kept c.args.number c.args.kept.now c.in-Some._place c.in-Some.ensures)
