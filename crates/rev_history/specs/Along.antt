-- The footprints that the kept events of a history have at their places, and the first pair of them that stands the other
-- way round by the places of their numbers.
use Rattle.std.specs.Prelude.{ℕ, List, map, Option, IsSome}
use Rattle.std.specs.List.{AllByRecursion}
use Rattle.rev_causal.specs.Chosen.{chosen}
use Rattle.rev_causal.specs.History as causal
use Rattle.rev_causal.specs.Store.{conflict}
use Rattle.rev_cells.specs.Keys.{cell_cmp}
use Rattle.rev_footprint.specs.Value.{FootprintValue, print_of}
use Rattle.rev_history.specs.Named.{CellPrints}
use Rattle.rev_history.specs.Timeline.{Timeline, footprints_along, kept_events}
use Rattle.rev_order.specs.Pairs.{inverted_pair}

-- the footprints under their numbers
abbrev pub prints_along : Timeline → CellPrints
prints_along t =
    map (λ (p : ℕ × FootprintValue). (p.0, print_of p.1)) (footprints_along t.manifest t.opening (kept_events t))

-- under each of some numbers stands one
abbrev pub HavePrints : Timeline → List ℕ → Type 0
HavePrints t numbers = AllByRecursion (λ n. IsSome (causal.event_at n (prints_along t))) numbers

-- the first inverted pair of these
abbrev pub inverted_along : Timeline → List ℕ → List ℕ → Option (ℕ × ℕ)
inverted_along t places numbers = inverted_pair (conflict cell_cmp) places (chosen (prints_along t) numbers)
