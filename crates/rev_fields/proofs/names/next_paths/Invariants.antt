use Rattle.std.proofs.Common.{◌≡◌, ◌++◌, ◌<◌, ℕ, List, take, get_or}
use Rattle.std.specs.List.{flat_map}
use Rattle.rev_paths.specs.Canonical.{IsCanonical}
use Rattle.rev_fields.specs.Fields.{field_text, spaced}
use Rattle.rev_fields.proofs.names.next_paths.Given as goal

abbrev pub invariant-loop-path : goal.invariant-loop-path
invariant-loop-path l =
    (l.line.items ≡ l.initial.line.items ++ flat_map (λ path. spaced (field_text path)) (take l.path-index l.paths))
    × ((k : ℕ) (d : List ℕ) → k < l.path-index → IsCanonical (get_or l.paths k d))
