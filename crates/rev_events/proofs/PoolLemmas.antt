-- The depths of pools, and the slots that are lost where one falls.
use Rattle.std.proofs.Common.{◌≡◌, ℕ, ◌-◌, ◌<◌, ◌&&◌, Bool, true, false, not, nat_lt, List, [], Option, Some, None, inl, inr, refl, sym, ap, subst, ◌∙◌, arith, if◌then◌else◌}
use Rattle.std.specs.Prelude.{◌==◌, slice_get, unwrap_or}
use Rattle.std.specs.List.{range_with_len}
use Rattle.std.specs.Option.{option_map}
use Rattle.std.proofs.lemmas.Bool.{cases_eq, cases_lt, ltb-true, lt-ltb}
use Rattle.rev_manifest.specs.Manifest.{ManifestValue}
use Rattle.rev_graph.specs.Graph.{build_at, pool_of, depth_of, numbered_pool, slots_of}
use Rattle.rev_cells.specs.declared.mark.Mark.TheVariants as mark
use Rattle.rev_cells.specs.State.{State, mark_of, slot_of, given_depth_of}
use Rattle.rev_events.specs.declared.refusal.Refusal.TheVariants.{PoolSlot, BadResize}
use Rattle.rev_events.specs.Held.{IsHeldExactly}
use Rattle.rev_events.specs.Kinds.{resize_tests, resize_refusal, resize_effect}
use Rattle.rev_events.specs.Pools.{present_or, present_depth, present_pool, at_present, slots_between, slots_lost, first_held}
use Rattle.rev_events.specs.Refusal.{refuse_if, pool_slot, is_depth, bad_resize, depth_in_use}
use Rattle.rev_events.proofs.HeldLemmas.{not-none}
use Rattle.rev_events.proofs.HeldSteps.{After, KeepsDepths, depth-given, depth-of-others}
use Rattle.rev_events.proofs.SlotLemmas.{free-between}
use Rattle.rev_events.proofs.TestLemmas.{first-none, none-mapped, not-false, not-refused}

-- pools that keep their depths
pub same-present : (manifest : ManifestValue) (s t : State) → KeepsDepths s t → (edge : ℕ) → present_pool manifest t edge ≡ present_pool manifest s edge
same-present manifest s t keeps edge = by (pool_of manifest edge)
  where
    by : (o : Option (ℕ × ℕ)) → at_present t o ≡ at_present s o
    by None = refl
    by (Some own) = ap (λ (given : Option ℕ). Some (own.0, unwrap_or given own.1)) (keeps own.0)

no-pool : (own : ℕ × ℕ) → None ≡ Some own → ⊥
no-pool own h = cc

-- an edge's pool has in the manifest the depth that stands with its number
own-depth : (manifest : ManifestValue) (edge number depth : ℕ) → pool_of manifest edge ≡ Some (number, depth) → depth_of manifest number ≡ Some depth
own-depth manifest edge number depth own = named (build_at manifest.builds edge).pool own
  where
    pair : (b : Bool) (n d : ℕ) → if◌then◌else◌ {A = Option (ℕ × ℕ)} b None (Some (n, d)) ≡ Some (number, depth) → (n ≡ number) × (d ≡ depth)
    pair true n d h =
        absurd (no-pool (number, depth) h)
    pair false n d h = (ap (λ (o : Option (ℕ × ℕ)). (unwrap_or {T = ℕ × ℕ} o (0, 0)).0) h, ap (λ (o : Option (ℕ × ℕ)). (unwrap_or {T = ℕ × ℕ} o (0, 0)).1) h)

    listed : (n : ℕ) (pool : Option (List ℕ × ℕ)) → slice_get manifest.pools n ≡ pool → slots_of n pool ≡ Some (number, depth) → depth_of manifest number ≡ Some depth
    listed n None at h =
        absurd (no-pool (number, depth) h)
    listed n (Some pool) at h =
        let same = pair (pool.1 == 0) n pool.1 h in
        subst (λ k. depth_of manifest k ≡ Some depth) same.0
        (ap (option_map (λ (p : List ℕ × ℕ). p.1)) at ∙ ap Some same.1)

    named : (pool : Option ℕ) → numbered_pool manifest.pools pool ≡ Some (number, depth) → depth_of manifest number ≡ Some depth
    named None h =
        absurd (no-pool (number, depth) h)
    named (Some n) h = listed n (slice_get manifest.pools n) refl h

-- THE SLOTS THAT ARE LOST ARE FREE
lost-some : (present depth : ℕ) → bad_resize (Some present) depth ≡ None → slots_lost depth (Some present) ≡ slots_between depth present
lost-some present depth h = by (is_depth present && is_depth depth) h
  where
    by : (b : Bool) → refuse_if (not b) BadResize ≡ None → (if b then slots_between depth present else []) ≡ slots_between depth present
    by true h = refl
    by false h =
        let no : Some BadResize ≡ None = h in
        cc

module _ (manifest : ManifestValue) (pool depth : ℕ) (s : State) (acc : resize_refusal manifest pool depth s ≡ None) (h : IsHeldExactly manifest s) where
  -- an edge that runs in a slot of the pool has one that is not lost
  kept-slot : (edge job own place seen : ℕ) → pool_of manifest edge ≡ Some (pool, own) → mark_of s edge ≡ mark.Running job (Some place) seen → place < present_or s pool own → place < depth
  unfolding resize_refusal
  kept-slot edge job own place seen is on below =
      let present = present_or s pool own in
      let now : present_depth manifest s pool ≡ Some present = ap (option_map (present_or s pool)) (own-depth manifest edge pool own is) in
      let tests : resize_tests (Some present) depth (first_held s pool (slots_lost depth (Some present))) ≡ None =
      subst (λ o. resize_tests o depth (first_held s pool (slots_lost depth o)) ≡ None) now acc in
      let t1 = first-none (bad_resize (Some present) depth) _ tests in
      let t2 = first-none (depth_in_use (first_held s pool (slots_lost depth (Some present)))) _ t1.1 in
      let free : first_held s pool (range_with_len depth (present - depth)) ≡ None =
      subst (λ slots. first_held s pool slots ≡ None) (lost-some present depth t1.0) (none-mapped _ (first_held s pool (slots_lost depth (Some present))) t2.0) in
      let holds : slot_of s pool place ≡ Some edge = (h.slots pool place edge).1 (record { job = job; seen = seen; depth = own; is = on; of_pool = is }) in
      elim (cases_lt place depth) [
        | inl less ↦ less
        | inr out ↦ absurd (not-none edge (slot_of s pool place) (free-between s pool (present - depth) depth free place out (omega arith)) holds)
      ]

  abbrev pub resized : State
  resized = After s (resize_effect manifest pool depth)

  -- each edge that runs still has its slot below the depth of its pool
  pub resized-placed : (edge job : ℕ) (slot : Option ℕ) (seen : ℕ) → mark_of s edge ≡ mark.Running job slot seen → pool_slot (present_pool manifest resized edge) slot ≡ None
  resized-placed edge job slot seen on = by (pool_of manifest edge) refl slot on (h.placed edge job slot seen on)
    where
      below : (own : ℕ × ℕ) → pool_of manifest edge ≡ Some own → own.0 ≡ pool → (slot : Option ℕ) → mark_of s edge ≡ mark.Running job slot seen
          → pool_slot (at_present s (Some own)) slot ≡ None → pool_slot (at_present resized (Some own)) slot ≡ None
      below own is same None on fits =
          let no : Some PoolSlot ≡ None = fits in
          cc
      below own is same (Some place) on fits =
          let here : pool_of manifest edge ≡ Some (pool, own.1) = is ∙ ap (λ (n : ℕ). Some (n, own.1)) same in
          let was : nat_lt place (present_or s own.0 own.1) ≡ true = not-false _ (not-refused (not (nat_lt place (present_or s own.0 own.1))) PoolSlot fits) in
          let less : place < present_or s pool own.1 = ltb-true place (present_or s pool own.1) (ap (λ (n : ℕ). nat_lt place (present_or s n own.1)) (sym same) ∙ was) in
          let kept : nat_lt place depth ≡ true = lt-ltb place depth (kept-slot edge job own.1 place seen here on less) in
          let now : present_or resized own.0 own.1 ≡ depth = ap (λ (given : Option ℕ). unwrap_or given own.1) (ap (given_depth_of resized) same ∙ depth-given s pool depth) in
          ap (λ (n : ℕ). refuse_if (not (nat_lt place n)) PoolSlot) now ∙ ap (λ b. refuse_if (not b) PoolSlot) kept

      by : (o : Option (ℕ × ℕ)) → pool_of manifest edge ≡ o → (slot : Option ℕ) → mark_of s edge ≡ mark.Running job slot seen
          → pool_slot (at_present s o) slot ≡ None → pool_slot (at_present resized o) slot ≡ None
      by None is slot on fits = fits
      by (Some own) is slot on fits = elim (cases_eq own.0 pool) [
        | inl same ↦ below own is same slot on fits
        | inr other ↦ ap (λ (given : Option ℕ). pool_slot (Some (own.0, unwrap_or given own.1)) slot) (depth-of-others s pool depth own.0 other) ∙ fits
      ]
