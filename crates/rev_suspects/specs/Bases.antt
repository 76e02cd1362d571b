-- On what the list of an edge rests.
use Rattle.std.specs.Prelude.{◌≡◌, ◌⊎◌, ℕ, Bool, List, Option, Some, if◌then◌else◌}
use Rattle.std.specs.Option.{option_map}
use Rattle.rev_graph.specs.Graph.{build_at}
use Rattle.rev_history.specs.Timeline.{Timeline, kept_events}
use Rattle.rev_races.specs.Races.{finished, last_list, lists, recorded, started}
use Rattle.rev_suspects.specs.declared.resting.Basis.{Basis}
use Rattle.rev_suspects.specs.declared.resting.Basis.TheVariants as basis

-- by whether the edge's command began in these events, and whether it ended well in them
abbrev pub rests_on : Bool → Bool → Basis
rests_on began ended = if ended then basis.Finish else (if began then basis.Earlier else basis.Record)

-- on what the list of an edge rests, where it has one
abbrev pub basis_of : Timeline → ℕ → Option Basis
basis_of t edge =
    option_map
    (λ (all : List (List ℕ)). rests_on (started t.manifest edge (kept_events t)) (finished t.manifest edge (kept_events t)))
    (lists t.manifest t.opening (kept_events t) edge)

-- The list is that of the last finish here, where the basis is a finish; else it is what the opening's record has, and
-- no finish is kept.
abbrev pub ListsRestOn : Type 0
ListsRestOn =
    (t : Timeline) (edge : ℕ)
    → (basis_of t edge ≡ Some basis.Finish
    → lists t.manifest t.opening (kept_events t) edge ≡ last_list t.manifest edge (kept_events t))
    × ((basis_of t edge ≡ Some basis.Record) ⊎ (basis_of t edge ≡ Some basis.Earlier)
    → lists t.manifest t.opening (kept_events t) edge ≡ recorded t.opening (build_at t.manifest.builds edge))
