-- Who holds the jobs and the slots.
use Rattle.std.specs.Prelude.{◌≡◌, ℕ, ◌<◌, ◌↔◌, length, Option, Some, None}
use Rattle.rev_manifest.specs.Manifest.{ManifestValue}
use Rattle.rev_graph.specs.Graph.{pool_of}
use Rattle.rev_cells.specs.declared.mark.Mark.{Mark}
use Rattle.rev_cells.specs.declared.mark.Mark.TheVariants as mark
use Rattle.rev_cells.specs.State.{State, mark_of, job_of, slot_of, given_depth_of}
use Rattle.rev_events.specs.Pools.{present_pool}
use Rattle.rev_events.specs.Refusal.{pool_slot}

-- the words of a state that say what runs and what is held
pub record Words : Type 0 where
  pub mark : ℕ → Mark
  pub job : ℕ → Option ℕ
  pub slot : ℕ → ℕ → Option ℕ

abbrev pub words_of : State → Words
words_of s = record { mark = mark_of s; job = job_of s; slot = slot_of s }

-- the edge runs in the job
pub record RunsOn (w : Words) (edge job : ℕ) : Type 0 where
  pub slot : Option ℕ
  pub seen : ℕ
  pub is : w.mark edge ≡ mark.Running job slot seen

-- the edge runs in the slot of its pool
pub record RunsIn (pools : ℕ → Option (ℕ × ℕ)) (w : Words) (edge pool place : ℕ) : Type 0 where
  pub job : ℕ
  pub seen : ℕ
  pub depth : ℕ
  pub is : w.mark edge ≡ mark.Running job (Some place) seen
  pub of_pool : pools edge ≡ Some (pool, depth)

-- The jobs and the slots that are held are exactly those of the edges that run; these are edges of the manifest, and
-- each has a slot below the present depth of its pool, and none where its pool has none.
pub record IsHeld (pools present : ℕ → Option (ℕ × ℕ)) (count : ℕ) (w : Words) : Type 0 where
  pub jobs : (job edge : ℕ) → (w.job job ≡ Some edge) ↔ RunsOn w edge job
  pub slots : (pool place edge : ℕ) → (w.slot pool place ≡ Some edge) ↔ RunsIn pools w edge pool place
  pub placed : (edge job : ℕ) (slot : Option ℕ) (seen : ℕ) → w.mark edge ≡ mark.Running job slot seen
      → pool_slot (present edge) slot ≡ None
  pub edges : (edge job : ℕ) → RunsOn w edge job → edge < count

abbrev pub IsHeldExactly : ManifestValue → State → Type 0
IsHeldExactly manifest s =
    IsHeld (pool_of manifest) (present_pool manifest s) (length manifest.builds) (words_of s)

-- at an opening nothing is marked, nothing is held, and pools have the depths of the manifest
pub record IsOpened (s : State) : Type 0 where
  pub marks : (edge : ℕ) → mark_of s edge ≡ mark.Idle
  pub jobs : (job : ℕ) → job_of s job ≡ None
  pub slots : (pool place : ℕ) → slot_of s pool place ≡ None
  pub depths : (pool : ℕ) → given_depth_of s pool ≡ None
