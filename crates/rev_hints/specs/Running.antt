-- The commands that run after some events.
use Rattle.std.specs.Prelude.{ℕ, ◌==◌, Bool, true, false, List, [], ◌∷◌, ◌++◌, Option, None, Some, if◌then◌else◌}
use Rattle.std.specs.List.{list_any}
use Rattle.rev_manifest.specs.Manifest.{BuildValue}
use Rattle.rev_graph.specs.Graph.{producer_of}
use Rattle.rev_dirty.specs.Reasons.{holds}
use Rattle.rev_events.specs.declared.event.Event.{Event}
use Rattle.rev_events.specs.declared.event.Event.TheVariants.{Start, Finish, Fail, Abort}

-- the edge whose command an event begins or ends, which any of its outputs names
abbrev pub turned : List BuildValue → Event → Option ℕ
turned builds (Start out job slot) = producer_of builds out
turned builds (Finish out stamps listing) = producer_of builds out
turned builds (Fail out stamps) = producer_of builds out
turned builds (Abort out stamps) = producer_of builds out
turned builds _ = None

abbrev pub is_start : Event → Bool
is_start (Start out job slot) = true
is_start _ = false

-- the event begins or ends the command of this edge
abbrev pub turns : List BuildValue → ℕ → Event → Bool
turns builds edge e = holds (λ n. edge == n) (turned builds e)

-- the edge, unless a later event begins or ends its command
abbrev pub unless_turned : List BuildValue → List (ℕ × Event) → Option ℕ → List ℕ
unless_turned builds later None = []
unless_turned builds later (Some edge) =
    if list_any (λ (e : ℕ × Event). turns builds edge e.1) later then [] else edge ∷ []

-- the edges whose commands run after these events, in the order in which they began: an event begins the command, and
-- no later one begins or ends it
abbrev pub running : List BuildValue → List (ℕ × Event) → List ℕ
running builds [] = []
running builds (e ∷ es) =
    (if is_start e.1 then unless_turned builds es (turned builds e.1) else []) ++ running builds es
