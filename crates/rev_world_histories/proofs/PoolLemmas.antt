-- The steps of a history that keeps to its pools are a legal schedule of them.
use Rattle.std.proofs.Common.{◌≡◌, ℕ, zero, suc, Bool, true, false, List, [], ◌∷◌, Option, Some, None, inl, inr, refl, sym, ap, subst, ◌∙◌, arith, true≢false}
use Rattle.std.specs.Prelude.{◌≢◌, ◌⊎◌, ◌<◌, not, nat_lt, if◌then◌else◌}
use Rattle.std.proofs.lemmas.Bool.{cases_Bool, le-ltb}
use Rattle.rev_causal.specs.Machine.{Legal}
use Rattle.rev_manifest.specs.Manifest.{ManifestValue}
use Rattle.rev_graph.specs.Graph.{pool_of}
use Rattle.rev_cells.specs.declared.mark.Mark.{Mark}
use Rattle.rev_cells.specs.declared.mark.Mark.TheVariants as mark
use Rattle.rev_cells.specs.State.{State, mark_of, slot_of}
use Rattle.rev_plan.specs.Plan.{is_running_mark}
use Rattle.rev_events.specs.Held.{IsHeldExactly}
use Rattle.rev_events.specs.Machine.{after as after_event}
use Rattle.rev_events.specs.Pools.{at_present, present_pool}
use Rattle.rev_events.specs.declared.refusal.Refusal.TheVariants.{PoolSlot}
use Rattle.rev_events.specs.Refusal.{pool_slot, refuse_if}
use Rattle.rev_events.proofs.HeldEvents.{held-is-running}
use Rattle.rev_footprint.specs.Machine.{machine}
use Rattle.rev_history.specs.Timeline.{machine_at, Timeline}
use Rattle.rev_waits.specs.Waits.{Waits}
use Rattle.rev_races.proofs.Waiting.{IsOrdered, event-ordered, opened-ordered}
use Rattle.rev_world.specs.Commands.{Command, Disk}
use Rattle.rev_world.specs.Schedules.{HasEnded, World, after, opening}
use Rattle.rev_world.specs.Pools.{IsLegalInPools}
use Rattle.rev_world.proofs.OutcomeLemmas.{one-outcome-in-pools-of}
use Rattle.rev_world_builds.proofs.BuildLemmas.{longer}
use Rattle.rev_world_histories.specs.Histories.{Moment, Moment.Happens, Moment.Acts, events_in, schedule_in}
use Rattle.rev_world_histories.specs.Pools.{AreOfOnePool, AreWithinPools, IsPlayedInPools, MayAct, OneOutcomeOfHistoriesInPools}
use Rattle.rev_world_histories.proofs.HistoryLemmas.{running-settled}

-- what a running mark is
record IsRunning (m : Mark) : Type 0 where
  pub job : ℕ
  pub slot : Option ℕ
  pub seen : ℕ
  pub is : m ≡ mark.Running job slot seen

running-is : (m : Mark) → is_running_mark m ≡ true → IsRunning m
running-is (mark.Running job slot seen) h = record { job = job; slot = slot; seen = seen; is = refl }
running-is mark.Idle h = absurd (true≢false (sym h))
running-is mark.Wanted h = absurd (true≢false (sym h))
running-is mark.Through h = absurd (true≢false (sym h))
running-is (mark.Done changed) h = absurd (true≢false (sym h))
running-is mark.Clean h = absurd (true≢false (sym h))
running-is mark.Failed h = absurd (true≢false (sym h))
running-is mark.Stopped h = absurd (true≢false (sym h))

-- the only slot of a pool of depth 1
only-slot : (pool : ℕ) (slot : Option ℕ) → pool_slot (Some (pool, 1)) slot ≡ None → slot ≡ Some 0
only-slot pool None h = cc
only-slot pool (Some zero) h = refl
only-slot pool (Some (suc place)) h =
    let past : nat_lt (suc place) 1 ≡ false = le-ltb (suc place) 1 (omega arith) in
    let refused : refuse_if (not (nat_lt (suc place) 1)) PoolSlot ≡ Some PoolSlot = ap (λ b. refuse_if (not b) PoolSlot) past in
    let clash : Some PoolSlot ≡ None = sym refused ∙ h in
    cc

module _ (manifest : ManifestValue) (state : State) (held : IsHeldExactly manifest state) where
  -- an edge that runs in a pool whose present depth is 1 has its slot
  has-slot : (edge pool : ℕ) → pool_of manifest edge ≡ Some (pool, 1) → present_pool manifest state edge ≡ Some (pool, 1) → is_running_mark (mark_of state edge) ≡ true → slot_of state pool 0 ≡ Some edge
  has-slot edge pool of_pool present runs =
      let r = running-is (mark_of state edge) runs in
      let slot : r.slot ≡ Some 0 = only-slot pool r.slot (ap (λ p. pool_slot p r.slot) (sym present) ∙ held.placed edge r.job r.slot r.seen r.is) in
      (held.slots pool 0 edge).1 (record {
        job = r.job;
        seen = r.seen;
        depth = 1;
        is = r.is ∙ ap (λ s. mark.Running r.job s r.seen) slot;
        of_pool = of_pool;
      })

  -- two edges of one pool of depth 1 do not both run
  one-runs : (edge other : ℕ) → other ≢ edge → AreOfOnePool manifest edge other → ((pool : ℕ) → pool_of manifest edge ≡ Some (pool, 1) → present_pool manifest state edge ≡ Some (pool, 1))
      → is_running_mark (mark_of state edge) ≡ true → is_running_mark (mark_of state other) ≡ true → ⊥
  one-runs edge other apart (pool, (of_one, of_other)) keeps runs other_runs =
      let present : present_pool manifest state edge ≡ Some (pool, 1) = keeps pool of_one in
      let there : present_pool manifest state other ≡ Some (pool, 1) = ap (at_present state) (of_other ∙ sym of_one) ∙ present in
      let both : Some edge ≡ Some other = sym (has-slot edge pool of_one present runs) ∙ has-slot other pool of_other there other_runs in
      let same : other ≡ edge = cc in
      apart same

module _ (manifest : ManifestValue) (jobs : ℕ) (commands : ℕ → Command) where
  are-legal : (moments : List Moment) (s : State) (world : World) → IsOrdered manifest.builds s → IsHeldExactly manifest s → Legal (machine manifest jobs) s (events_in moments)
      → AreWithinPools manifest commands s world moments → IsLegalInPools (Waits manifest.builds) (AreOfOnePool manifest) commands world (schedule_in moments)
  are-legal [] s world ordered held legal within = tt
  are-legal (Happens event ∷ moments) s world ordered held legal within =
      are-legal moments (after_event manifest s event.1) world (event-ordered manifest jobs s event.1 legal.0 ordered)
      (held-is-running.kept manifest jobs s event.1 legal.0 held) legal.1 within
  are-legal (Acts edge ∷ moments) s world ordered held legal within = (
    record {
      waited = λ other way. within.0.settled other way (running-settled manifest.builds s edge other ordered within.0.runs way);
      alone = alone;
    },
    are-legal moments s (after commands world edge) ordered held legal within.1,
  )
    where
      alone : (other : ℕ) → other ≢ edge → AreOfOnePool manifest edge other → (world.steps other ≡ []) ⊎ HasEnded commands world other
      alone other apart pooled = elim (cases_Bool (is_running_mark (mark_of s other))) [
        | inl runs ↦ absurd (one-runs manifest s held edge other apart pooled within.0.depth within.0.runs runs)
        | inr rests ↦ within.0.others other apart pooled rests
      ]

played-legal : (t : Timeline) (commands : ℕ → Command) (disk : Disk) (moments : List Moment) → IsPlayedInPools t commands disk moments
    → IsLegalInPools (Waits t.manifest.builds) (AreOfOnePool t.manifest) commands (opening disk) (schedule_in moments)
played-legal t commands disk moments played =
    are-legal t.manifest t.jobs commands moments t.opening (opening disk) (opened-ordered t.manifest t.jobs t.opening played.opened)
    (held-is-running.opened t.manifest t.opening played.opened)
    (subst (λ es. Legal (machine_at t) t.opening es) (sym played.events_are) played.history.legal) played.within

pub one-outcome-of-histories-in-pools : OneOutcomeOfHistoriesInPools
one-outcome-of-histories-in-pools commands disk shown other moments others played complete none played_other same =
    one-outcome-in-pools-of (Waits shown.manifest.builds) (AreOfOnePool shown.manifest) (longer shown.manifest.builds) commands disk (schedule_in moments) (schedule_in others)
    (played-legal shown commands disk moments played) complete none
    (subst (λ manifest. IsLegalInPools (Waits manifest.builds) (AreOfOnePool manifest) commands (opening disk) (schedule_in others)) same (played-legal other commands disk others played_other))
