use Rattle.std.proofs.Common.{ℕ, List, get_or, Contains, ◌⊎◌}
use Rattle.std.specs.Prelude.{◌↔◌}
use Rattle.rev_conflicts.specs.Tables.{SomeBelow}
use Rattle.rev_conflicts.proofs.MeetLemmas.{ByOne}
use Rattle.rev_conflicts.proofs.meeting.add_at.Given as goal

abbrev pub invariant-loop-command : goal.invariant-loop-command
invariant-loop-command l =
    (k : List ℕ) → Contains l.found k
    ↔ (Contains l.initial.found k ⊎ SomeBelow (λ i. ByOne l.graph.manifest.builds l.early l.edges l.user l.used_by l.place (get_or l.commands i 0) k) l.command-index)
