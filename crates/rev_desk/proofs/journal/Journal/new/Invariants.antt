use Rattle.std.proofs.Common.{◌≡◌, ℕ, [], length}
use Rattle.std.specs.List.{AllByRecursion}
use Rattle.rev_desk.proofs.journal.Journal.new.Given as goal

abbrev pub invariant-loop : goal.invariant-loop
invariant-loop l = record {
  count : length l.numbers.items ≡ l.counter;
  empty : AllByRecursion (λ v. v.items ≡ []) l.numbers.items;
}
