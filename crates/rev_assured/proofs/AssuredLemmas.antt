-- Certain, so none conflict.
use Rattle.std.proofs.Common.{◌≡◌, ℕ, Bool, List, [], Contains, arith}
use Rattle.std.specs.List.Sorted.{IsStrictlySortedBy}
use Rattle.rev_conflicts.specs.Answer.{AreConflicts, IsConflict}
use Rattle.rev_conflicts.specs.Conflicts.{Scene}
use Rattle.rev_conflicts.specs.declared.conflict.Conflict.{Conflict}
use Rattle.rev_certified.specs.Certain.{IsCertain}
use Rattle.rev_outcome.specs.Commands.{Step}
use Rattle.rev_outcome.specs.Histories.{end_of}
use Rattle.rev_outcome.specs.Observed.{AreObserved, NoneUnordered}
use Rattle.rev_outcome.proofs.ObservedLemmas.{nothing-told-one-outcome}
use Rattle.rev_assured.specs.Assured.{CertainOneOutcome, IsTrusted}

none-in : (c : Conflict) → Contains [] c → ⊥
none-in c (k, within, at) = omega (arith, within)

none-told : (s : Scene) → ((c : Conflict) → IsConflict s c → ⊥) → AreConflicts s []
unfolding IsStrictlySortedBy
none-told s quiet = record {
  exact = λ c. (λ h. absurd (none-in c h), λ is. absurd (quiet c is));
  rising = tt;
}

none-unordered : NoneUnordered []
none-unordered c h = absurd (none-in c h)

observed : (s : Scene) (needed began ended : List Bool) (steps : ℕ → List Step) → IsCertain s needed began ended → IsTrusted s began steps → AreObserved s steps
observed s needed began ended steps certain trusted edge begins =
    let within = trusted.edges edge begins in
    let begun = trusted.begun edge begins in
    let seen = certain.seen edge within begun in
    let tells = trusted.tell edge seen.number seen.command seen.ran seen.whole in
    record {
      number = seen.number;
      command = seen.command;
      ran = seen.ran;
      comes_later = certain.comes_later edge within begun;
      changed = tells.changed;
      looked = tells.looked;
    }

pub certain-one-outcome : CertainOneOutcome
certain-one-outcome s needed began ended commands disk shown other moments others certain same played complete trusted played_other builds_are =
    nothing-told-one-outcome s [] commands disk shown other moments others (none-told s certain.quiet) none-unordered same played complete
    (observed s needed began ended (end_of commands disk moments).steps certain trusted) played_other builds_are
