use Rattle.std.proofs.Common.{◌≡◌, ◌∷◌, drop, []}
use Rattle.std.specs.List.{flat_map}
use Rattle.rev_paths.specs.Quoting.{quote}
use Rattle.rev_scopes.specs.Expansion.{limited, appended}
use Rattle.rev_scopes.specs.Edges.{joined}
use Rattle.rev_scopes.proofs.edge_values.joined.Given as goal

-- what is written, with what is left to write
abbrev pub invariant-loop-other : goal.invariant-loop-other
invariant-loop-other l =
    (appended l.value (flat_map (λ other. l.by ∷ quote other) (drop l.other-index l.others)) ≡ limited (joined l.by l.paths)) × (appended l.value [] ≡ l.value)
