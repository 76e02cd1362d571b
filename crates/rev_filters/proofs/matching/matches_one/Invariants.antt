use Rattle.std.proofs.Common.{◌≡◌, drop}
use Rattle.std.specs.List.{list_any}
use Rattle.rev_fields.specs.Parts.{slices_of}
use Rattle.rev_filters.specs.Patterns.{matches}
use Rattle.rev_filters.proofs.matching.matches_one.Given as goal

abbrev pub invariant-loop-component : goal.invariant-loop-component
invariant-loop-component l = list_any (matches l.part) (slices_of l.components) ≡ list_any (matches l.part) (slices_of (drop l.component-index l.components))
