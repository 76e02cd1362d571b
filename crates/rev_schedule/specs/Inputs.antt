-- Which inputs are still to come: for each edge the place of its first maker that is not through.
use Rattle.std.specs.Prelude.{◌≡◌, ℕ, ◌<◌, ◌≤◌, ◌==◌, Bool, true, false, List, length, slice_index, slice_index_or}
use Rattle.std.specs.List.{Contains, count_by}
use Rattle.rev_schedule.specs.declared.job.Build.{Build}
use Rattle.rev_schedule.specs.Builds.{edges_of, makers_of, turn_of}
use Rattle.rev_schedule.specs.Turns.{Turn}

-- whether the maker at a place is through
abbrev pub is_through : Build → List Bool → ℕ → ℕ → Bool
is_through build through edge place = slice_index_or through (slice_index (makers_of build edge) place) false

-- Whoever stands before the place is through.
pub record Sees (build : Build) (through : List Bool) (missing : List ℕ) : Type 0 where
  pub length_is : length missing ≡ edges_of build
  pub within : (edge : ℕ) → edge < edges_of build → slice_index missing edge ≤ length (makers_of build edge)
  pub passed : (edge k : ℕ) → edge < edges_of build → k < slice_index missing edge → is_through build through edge k ≡ true

-- And the maker at the place is not.
pub record IsKnown (build : Build) (through : List Bool) (missing : List ℕ) : Type 0 where
  pub sees : Sees build through missing
  pub to_come : (edge : ℕ) → edge < edges_of build → slice_index missing edge < length (makers_of build edge)
      → is_through build through edge (slice_index missing edge) ≡ false

-- One edge is looked at again.
pub record LooksAt (build : Build) (through : List Bool) (user : ℕ) (before after : List ℕ) : Type 0 where
  pub sees : Sees build through after
  pub rises : slice_index before user ≤ slice_index after user
  pub to_come : slice_index after user < length (makers_of build user)
      → is_through build through user (slice_index after user) ≡ false
  pub others : (other : ℕ) → (other ≡ user → ⊥) → slice_index after other ≡ slice_index before other

-- Some edges are looked at again, and the turns are of those of which the last maker is through now.
pub record IsLooked (build : Build) (through : List Bool) (users : List ℕ) (before after : List ℕ) (turns : List Turn) : Type 0 where
  pub sees : Sees build through after
  pub to_come : (user : ℕ) → Contains users user → slice_index after user < length (makers_of build user)
      → is_through build through user (slice_index after user) ≡ false
  pub rises : (edge : ℕ) → slice_index before edge ≤ slice_index after edge
  pub others : (other : ℕ) → (Contains users other → ⊥) → slice_index after other ≡ slice_index before other
  pub each : (edge : ℕ) → edge < edges_of build → slice_index before edge < length (makers_of build edge)
      → slice_index after edge ≡ length (makers_of build edge) → Contains turns (turn_of build edge)
  pub only : (turn : Turn) → Contains turns turn → (turn.1 < edges_of build) × (turn ≡ turn_of build turn.1)
      × (slice_index before turn.1 < length (makers_of build turn.1)) × (slice_index after turn.1 ≡ length (makers_of build turn.1))
  pub once : (edge : ℕ) → count_by (λ (turn : Turn). turn.1 == edge) turns ≤ 1
