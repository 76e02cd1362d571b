use Rattle.std.proofs.Common.{◌≡◌, ℕ, List, drop}
use Rattle.std.specs.List.{list_any}
use Rattle.rev_filters.specs.Patterns.{is_hidden}
use Rattle.rev_filters.proofs.hiding.is_hidden.Given as goal

abbrev pub invariant-loop-filter : goal.invariant-loop-filter
invariant-loop-filter l =
    list_any (λ (f : List (List ℕ)). is_hidden f l.path) l.filters
    ≡ list_any (λ (f : List (List ℕ)). is_hidden f l.path) (drop l.filter-index l.filters)
