-- What the end of a build waited for.
use Rattle.std.specs.Prelude.{◌≡◌, ℕ, ◌<◌, ◌==◌, nat_lt, Bool, true, ◌&&◌, ◌||◌, List, [], ◌∷◌, ◌++◌, filter, length, Option, Some, None, if◌then◌else◌}
use Rattle.std.specs.List.{AllByRecursion}
use Rattle.rev_manifest.specs.Builds.{BuildValue}
use Rattle.rev_ranks.specs.Sets.{is_marked}
use Rattle.rev_waits.specs.Waits.{AreWaitedFor}
use Rattle.rev_queries.specs.declared.times.Timed.{Timed}

-- the run is one of the last build, which a plan of this number began
abbrev pub is_recent : List BuildValue → ℕ → Timed → Bool
is_recent builds plan r = nat_lt plan r.began && nat_lt r.edge (length builds)

abbrev pub recent_of : List BuildValue → ℕ → List Timed → List Timed
recent_of builds plan runs = filter (is_recent builds plan) runs

-- one run ended after another: at a later time, or at the same time by an event of a greater number
abbrev pub is_later : Timed → Timed → Bool
is_later one other = nat_lt other.to one.to || (one.to == other.to && nat_lt other.ended one.ended)

abbrev pub later_of : Option Timed → Timed → Option Timed
later_of None r = Some r
later_of (Some best) r = if is_later r best then Some r else Some best

-- the last to end of the runs that pass, and of one before them
abbrev pub latest_from : (Timed → Bool) → Option Timed → List Timed → Option Timed
latest_from test best [] = best
latest_from test best (r ∷ rs) = latest_from test (if test r then later_of best r else best) rs

-- the run that ended last
abbrev pub latest_of : List Timed → Option Timed
latest_of runs = latest_from (λ r. true) None runs

-- The run by which a link goes on from an edge: of the runs of those edges for which the edge waits, the last to end.
pub record IsLink (builds : List BuildValue) (runs : List Timed) (edge : ℕ) (next : Option Timed) : Type 0 where
  pub marks : List Bool
  pub waited_for : AreWaitedFor builds edge marks
  pub latest : next ≡ latest_from (λ r. is_marked marks r.edge) None runs

-- A chain of runs, and the run by which it goes on, if it does: it begins with the run that ended last, and goes on by
-- links.
pub data IsChain (builds : List BuildValue) (runs : List Timed) : List Timed → Option Timed → Type 0 where
  begun : {next : Option Timed} → next ≡ latest_of runs → IsChain builds runs [] next
  linked : {chain : List Timed} {r : Timed} {next : Option Timed} → IsChain builds runs chain (Some r)
      → IsLink builds runs r.edge next → IsChain builds runs (chain ++ r ∷ []) next

-- each run is of one of the first so many edges
abbrev pub AreWithin : ℕ → List Timed → Type 0
AreWithin edges runs = AllByRecursion (λ (r : Timed). r.edge < edges) runs
