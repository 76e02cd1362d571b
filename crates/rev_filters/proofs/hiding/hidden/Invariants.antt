use Rattle.std.proofs.Common.{◌≡◌, ℕ, List, map, take}
use Rattle.std.specs.List.{list_any}
use Rattle.rev_filters.specs.Patterns.{is_hidden}
use Rattle.rev_filters.proofs.hiding.hidden.Given as goal

abbrev pub invariant-loop-place : goal.invariant-loop-place
invariant-loop-place l = l.marks.items ≡ map (λ (path : List ℕ). list_any (λ (f : List (List ℕ)). is_hidden f path) l.filters) (take l.place l.paths)
