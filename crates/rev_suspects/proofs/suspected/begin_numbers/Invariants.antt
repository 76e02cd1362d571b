use Rattle.std.proofs.Common.{◌≡◌, ℕ, nat_eq, take}
use Rattle.std.specs.List.{list_any}
use Rattle.indexmap.specs.IndexSet.{contains}
use Rattle.rev_suspects.specs.declared.failed.Failure.{Failure}
use Rattle.rev_suspects.proofs.suspected.begin_numbers.Given as goal

abbrev pub invariant-loop-failure : goal.invariant-loop-failure
invariant-loop-failure l =
    (n : ℕ) → contains nat_eq l.numbers n ≡ list_any (λ (f : Failure). nat_eq n f.began) (take l.failure-index l.failures)
