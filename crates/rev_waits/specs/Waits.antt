-- Which edges wait for which, and which edges make a path.
use Rattle.std.specs.Prelude.{◌≡◌, ℕ, nat_eq, Bool, true, false, List, [], map, length, Some, slice_index_or, ◌↔◌, if◌then◌else◌}
use Rattle.std.specs.List.{Contains, filter_map}
use Rattle.rev_manifest.specs.Manifest.{BuildValue}
use Rattle.rev_graph.specs.Graph.{EdgeReaches, successor_lists, build_at, inputs_of, producer_of}
use Rattle.rev_ranks.specs.Leads.{leads_to}

-- One edge waits for another: a way of explicit, implicit and order-only inputs leads from it to that one, through
-- phony edges too. Validations, pools, jobs and deps records order nothing.
abbrev pub Waits : List BuildValue → ℕ → ℕ → Type 0
Waits builds b a = EdgeReaches builds b a

-- the same as a test, for reports
abbrev pub waits : List BuildValue → ℕ → ℕ → Bool
waits builds b a = leads_to (successor_lists builds) (nat_eq a) b

-- A mark for each edge: it has one exactly where the edge waits for it.
pub record AreWaitedFor (builds : List BuildValue) (edge : ℕ) (marks : List Bool) : Type 0 where
  pub each : length marks ≡ length builds
  pub exact : (other : ℕ) → (slice_index_or marks other false ≡ true) ↔ Waits builds edge other

-- A path is made by an edge with a command: its producer, or, where that is phony, one that makes an input of it. What
-- no edge produces nobody makes, nor what a phony edge without inputs produces.
pub data Makes (builds : List BuildValue) : ℕ → List ℕ → Type 0 where
  itself : {maker : ℕ} {path : List ℕ} → producer_of builds path ≡ Some maker → (build_at builds maker).phony ≡ false
      → Makes builds maker path
  behind : {maker phony : ℕ} {path input : List ℕ} → producer_of builds path ≡ Some phony
      → (build_at builds phony).phony ≡ true → Contains (inputs_of (build_at builds phony)) input
      → Makes builds maker input → Makes builds maker path

-- An edge with a command stands behind a phony edge: it makes an input of it.
pub record IsBehind (builds : List BuildValue) (edge maker : ℕ) : Type 0 where
  pub phony : (build_at builds edge).phony ≡ true
  pub input : List ℕ
  pub is_input : Contains (inputs_of (build_at builds edge)) input
  pub made : Makes builds maker input

-- the edges that produce the inputs of a phony edge; none of an edge with a command
abbrev pub passes_on : List BuildValue → BuildValue → List ℕ
passes_on builds build = if build.phony then filter_map (producer_of builds) (inputs_of build) else []

abbrev pub phony_lists : List BuildValue → List (List ℕ)
phony_lists builds = map (passes_on builds) builds
