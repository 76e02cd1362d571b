use Rattle.std.proofs.Common.{ℕ, List, get_or, Contains, ◌⊎◌}
use Rattle.std.specs.Prelude.{◌↔◌}
use Rattle.rev_races.specs.Keys.{SomeBelow}
use Rattle.rev_hints.specs.declared.named.NameHint.{NameHint}
use Rattle.rev_hints.specs.Names.{IsHintOf}
use Rattle.rev_hints.proofs.named.add_by.Given as goal

abbrev pub invariant-loop-maker : goal.invariant-loop-maker
invariant-loop-maker l =
    (h : NameHint) → Contains l.hints.items h
    ↔ (Contains l.initial.hints.items h ⊎ SomeBelow (λ i. IsHintOf l.graph.manifest.builds l.files l.whole l.user l.place (get_or l.maker-items i 0) h) l.maker-index)
