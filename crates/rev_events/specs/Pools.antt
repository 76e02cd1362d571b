-- The depths of pools, which can change while a build runs.
use Rattle.std.specs.Prelude.{ℕ, ◌-◌, ◌&&◌, List, [], map, Option, Some, None, unwrap_or, if◌then◌else◌}
use Rattle.std.specs.List.{range_with_len}
use Rattle.std.specs.Option.{option_map}
use Rattle.rev_cells.specs.State.{State, given_depth_of, slot_of}
use Rattle.rev_manifest.specs.Manifest.{ManifestValue}
use Rattle.rev_graph.specs.Graph.{depth_of, pool_of}
use Rattle.rev_plan.specs.Options.{first_some}
use Rattle.rev_events.specs.Refusal.{is_depth}

-- the depth that a pool was given, or else that of the manifest
abbrev pub present_or : State → ℕ → ℕ → ℕ
present_or state pool depth = unwrap_or (given_depth_of state pool) depth

-- the present depth of a pool; none where there is no such pool
abbrev pub present_depth : ManifestValue → State → ℕ → Option ℕ
present_depth manifest state pool = option_map (present_or state pool) (depth_of manifest pool)

-- a pool with its present depth in place of the manifest's
abbrev pub at_present : State → Option (ℕ × ℕ) → Option (ℕ × ℕ)
at_present state None = None
at_present state (Some pool) = Some (pool.0, present_or state pool.0 pool.1)

-- the number and the present depth of an edge's pool, unless it has none or its depth in the manifest is 0
abbrev pub present_pool : ManifestValue → State → ℕ → Option (ℕ × ℕ)
present_pool manifest state edge = at_present state (pool_of manifest edge)

-- the slots from one depth up to another: those that a pool loses where its depth falls; none where it grows
abbrev pub slots_between : ℕ → ℕ → List ℕ
slots_between depth present = range_with_len depth (present - depth)

-- the slots that a pool loses where it gets this depth; none where it cannot get it
abbrev pub slots_lost : ℕ → Option ℕ → List ℕ
slots_lost depth None = []
slots_lost depth (Some present) =
    if is_depth present && is_depth depth then slots_between depth present else []

-- the first of these slots that is held, with its holder
abbrev pub first_held : State → ℕ → List ℕ → Option (ℕ × ℕ)
first_held state pool slots =
    first_some (map (λ slot. option_map (λ edge. (slot, edge)) (slot_of state pool slot)) slots)
