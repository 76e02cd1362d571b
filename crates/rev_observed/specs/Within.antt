-- Numbers of paths that are below the count of paths.
use Rattle.std.specs.Prelude.{ℕ, ◌<◌, nat_lt, Bool, List}
use Rattle.std.specs.List.{AllByRecursion, list_all}
use Rattle.rev_observed.specs.declared.command.Uses.{Uses}
use Rattle.rev_observed.specs.declared.path_set.PathRange.{PathRange}
use Rattle.rev_observed.specs.CommandValues.{CommandValue}

-- the numbers of paths are below this, in ranges, uses and commands
abbrev pub RangesAreWithin : ℕ → List PathRange → Type 0
RangesAreWithin count ranges = AllByRecursion (λ (r : PathRange). r.last < count) ranges

abbrev pub UsesAreWithin : ℕ → List Uses → Type 0
UsesAreWithin count uses = AllByRecursion (λ (u : Uses). RangesAreWithin count u.paths) uses

abbrev pub AreWithin : ℕ → List CommandValue → Type 0
AreWithin count commands = AllByRecursion (λ (c : CommandValue). UsesAreWithin count c.uses) commands

-- whether numbers of paths are below this
abbrev pub are_within : ℕ → List PathRange → Bool
are_within count ranges = list_all (λ (r : PathRange). nat_lt r.last count) ranges
