-- The files that are there at first.
use Rattle.std.specs.Prelude.{◌≡◌, ℕ, ◌<◌, true, List, is_none}
use Rattle.std.specs.List.{Contains}
use Rattle.rev_cells.specs.State.{State, stamp_of}
use Rattle.rev_graph.specs.Graph.{build_at, inputs_of, producer_of}
use Rattle.rev_manifest.specs.Manifest.{BuildValue}

-- paths get those of some given ones that no edge makes, and keep what they have
pub record AddsSources (builds : List BuildValue) (given old new : List (List ℕ)) : Type 0 where
  pub kept : (path : List ℕ) → Contains old path → Contains new path
  pub added : (path : List ℕ) → Contains given path → is_none (producer_of builds path) ≡ true → Contains new path

-- each input of the first edges that no edge makes is among these paths
abbrev pub HaveSources : List BuildValue → ℕ → List (List ℕ) → Type 0
HaveSources builds upto paths =
    (edge : ℕ) (path : List ℕ) → edge < upto → Contains (inputs_of (build_at builds edge)) path
    → is_none (producer_of builds path) ≡ true → Contains paths path

-- each input that no edge makes has the stamp 1
abbrev pub AreThere : List BuildValue → State → Type 0
AreThere builds s =
    (edge : ℕ) (path : List ℕ) → Contains (inputs_of (build_at builds edge)) path
    → is_none (producer_of builds path) ≡ true → stamp_of s path ≡ 1
