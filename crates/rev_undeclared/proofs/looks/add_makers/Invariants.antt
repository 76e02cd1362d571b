use Rattle.std.proofs.Common.{ℕ, List, get_or, Contains, ◌⊎◌}
use Rattle.std.specs.Prelude.{◌↔◌}
use Rattle.rev_conflicts.specs.Tables.{SomeBelow}
use Rattle.rev_undeclared.proofs.LookLemmas.{ByOne}
use Rattle.rev_undeclared.proofs.looks.add_makers.Given as goal

abbrev pub invariant-loop-command : goal.invariant-loop-command
invariant-loop-command l =
    (k : List ℕ) → Contains l.found k
    ↔ (Contains l.initial.found k ⊎ SomeBelow (λ i. ByOne l.edges l.user l.path l.kind (get_or l.commands i 0) k) l.command-index)
