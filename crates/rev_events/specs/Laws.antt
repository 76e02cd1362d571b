-- What holds of every step of a build.
use Rattle.std.specs.Prelude.{◌≡◌, ℕ, ◌<◌, List, length, None}
use Rattle.rev_manifest.specs.Manifest.{ManifestValue}
use Rattle.rev_graph.specs.Graph.{build_at, outputs_of}
use Rattle.rev_cells.specs.declared.mark.Mark.TheVariants as mark
use Rattle.rev_cells.specs.State.{State, mark_of}
use Rattle.rev_causal.specs.Order.{Distinct}
use Rattle.rev_causal.specs.Store.{keys_of}
use Rattle.rev_plan.specs.Chain.{chain_of}
use Rattle.rev_plan.specs.Planned.{LeadsTo, EndsAtReasons}
use Rattle.rev_events.specs.declared.event.Event.{Event}
use Rattle.rev_events.specs.declared.event.Event.TheVariants.{Plan}
use Rattle.rev_events.specs.Held.{IsHeldExactly, IsOpened}
use Rattle.rev_events.specs.Machine.{refusal, effect, after}
use Rattle.rev_events.specs.Written.{written}

-- no edge has an output twice
abbrev pub OutputsOnce : ManifestValue → Type 0
OutputsOnce manifest = (edge : ℕ) → Distinct (outputs_of (build_at manifest.builds edge))

-- an effect names these cells, each of them once
pub record WritesOnce : Type 0 where
  pub same : (manifest : ManifestValue) (s : State) (e : Event) → keys_of (effect manifest s e) ≡ written manifest s e
  pub once : (manifest : ManifestValue) (s : State) (e : Event) → OutputsOnce manifest → Distinct (written manifest s e)

-- at an opening what is held is what runs, and each accepted event keeps that
pub record HeldIsRunning : Type 0 where
  pub opened : (manifest : ManifestValue) (s : State) → IsOpened s → IsHeldExactly manifest s
  pub kept : (manifest : ManifestValue) (jobs : ℕ) (s : State) (e : Event) → refusal manifest jobs s e ≡ None
      → IsHeldExactly manifest s → IsHeldExactly manifest (after manifest s e)

-- An accepted plan leaves the edges with its marks, and stamps and records as they were. So in the state after it the
-- chain of an edge whose mark is Wanted ends at an edge with reasons, and all its edges are Wanted.
pub record PlansAreExplained : Type 0 where
  pub leads : (manifest : ManifestValue) (jobs : ℕ) (s : State) (targets : List (List ℕ))
      → refusal manifest jobs s (Plan targets) ≡ None → LeadsTo manifest targets s (after manifest s (Plan targets))
  pub ends : (manifest : ManifestValue) (jobs : ℕ) (s : State) (targets : List (List ℕ)) (edge : ℕ)
      → refusal manifest jobs s (Plan targets) ≡ None → edge < length manifest.builds
      → mark_of (after manifest s (Plan targets)) edge ≡ mark.Wanted
      → EndsAtReasons manifest.builds (after manifest s (Plan targets))
      (chain_of manifest.builds (after manifest s (Plan targets)) edge)
