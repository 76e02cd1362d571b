use Rattle.std.proofs.Common.{◌≡◌, ℕ, List, drop}
use Rattle.std.specs.List.{list_any}
use Rattle.rev_fields.specs.Parts.{slices_of, vectors_of}
use Rattle.rev_filters.specs.Patterns.{hides_by, parts_of}
use Rattle.rev_filters.proofs.hiding.is_hidden_by.Given as goal

abbrev pub invariant-loop-pattern : goal.invariant-loop-pattern
invariant-loop-pattern l =
    list_any (λ (p : List ℕ). hides_by (parts_of p) (slices_of l.components)) (vectors_of l.patterns)
    ≡ list_any (λ (p : List ℕ). hides_by (parts_of p) (slices_of l.components)) (vectors_of (drop l.pattern-index l.patterns))
