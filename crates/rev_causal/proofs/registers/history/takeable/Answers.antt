use Rattle.std.proofs.Common.{◌≡◌, ℕ, map, ◌↔◌}
use Rattle.std.specs.declared.option.Option.{Option}
use Rattle.std.specs.declared.option.Option.TheVariants.{None, Some}
use Rattle.std.specs.Prelude.{IsErrOf, Ok, Err}
use Rattle.rev_causal.specs.declared.registers.Event.{Event}
use Rattle.rev_causal.specs.declared.registers.history.HistoryFault.TheVariants as fault
use Rattle.rev_causal.specs.History.{nearest_to, event_at}
use Rattle.rev_causal.specs.Registers.{register_machine}
use Rattle.rev_causal.specs.RegisterHistory.{entry_of, numbered}
use Rattle.rev_causal.proofs.KeptHistories.{nearest_missing, is_kept}
use Rattle.rev_causal.proofs.registers.history.takeable.Goals as goal

-- one answer is not another
not_needed : (o : Option ℕ) (m : ℕ) → o ≡ None → IsErrOf {T = ℕ} (Err fault.NotKept) (fault.Needed m) ↔ (o ≡ Some m)
not_needed o m none = (λ h. cc, λ h. cc)

needed_then : (o : Option Event) (m : ℕ) → (o ≡ None → ⊥) → IsErrOf {T = ℕ} (Err (fault.Needed m)) fault.NotKept ↔ (o ≡ None)
needed_then o m some = (λ h. cc, λ h. absurd (some h))

kept_then : (o : Option Event) (place : ℕ) → (o ≡ None → ⊥) → IsErrOf {T = ℕ} (Ok place) fault.NotKept ↔ (o ≡ None)
kept_then o place some = (λ h. cc, λ h. absurd (some h))

pub returns-in_default-clause-needed : goal.returns-in_default-clause-needed
returns-in_default-clause-needed c = λ m. not_needed (nearest_to register_machine c.args.number (map entry_of c.args.kept.now)) m (nearest_missing c.args.number c.args.kept.now c.in_default.ensures)

pub returns-in-Some-dependent-clause-not_kept : goal.returns-in-Some-dependent-clause-not_kept
returns-in-Some-dependent-clause-not_kept c = needed_then (event_at c.args.number (map numbered c.args.kept.now)) c.in-Some-dependent.other (is_kept c.args.number c.args.kept.now c.in-Some.place c.in-Some.ensures)

pub returns-clause-not_kept : goal.returns-clause-not_kept
returns-clause-not_kept c = kept_then (event_at c.args.number (map numbered c.args.kept.now)) c.in-Some.place (is_kept c.args.number c.args.kept.now c.in-Some.place c.in-Some.ensures)
