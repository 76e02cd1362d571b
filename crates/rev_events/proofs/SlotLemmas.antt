-- The first of slots that is held.
use Rattle.std.proofs.Common.{◌≡◌, ℕ, ◌+◌, ◌-◌, ◌<◌, ◌≤◌, suc, zero, Bool, true, false, not, List, [], ◌∷◌, map, Option, Some, None, inl, inr, refl, sym, ap, ◌∙◌, arith}
use Rattle.std.specs.List.{range_with_len}
use Rattle.std.specs.Option.{option_map}
use Rattle.std.proofs.lemmas.Bool.{cases_eq}
use Rattle.rev_cells.specs.State.{State, slot_of}
use Rattle.rev_plan.specs.Options.{first_some}
use Rattle.rev_manifest.specs.Manifest.{ManifestValue}
use Rattle.rev_events.specs.declared.refusal.Refusal.TheVariants.{BadResize}
use Rattle.rev_events.specs.Kinds.{resize_refusal}
use Rattle.rev_events.specs.Pools.{slots_between, slots_lost, first_held, present_depth}
use Rattle.rev_events.specs.Refusal.{refuse_if, bad_resize, depth_in_use}
use Rattle.rev_events.proofs.TestLemmas.{first-none, none-mapped}

-- where none is held, each is free
pub free-between : (s : State) (pool n a : ℕ) → first_held s pool (range_with_len a n) ≡ None → (place : ℕ) → a ≤ place → place < a + n → slot_of s pool place ≡ None
free-between s pool zero a h place low high = absurd (omega arith)
free-between s pool (suc n) a h place low high =
    let tests = first-none (option_map (λ (edge : ℕ). (a, edge)) (slot_of s pool a)) _ h in
    elim (cases_eq a place) [
      | inl same ↦ ap (slot_of s pool) (sym same) ∙ none-mapped _ (slot_of s pool a) tests.0
      | inr other ↦ free-between s pool n (a + 1) tests.1 place (omega arith) (omega arith)
    ]

-- one slot after the other
one-more : (s : State) (pool a b : ℕ) (holder : Option ℕ) → a < b → slot_of s pool a ≡ holder
    → first_held s pool (slots_between a b) ≡ first_some (option_map (λ (edge : ℕ). (a, edge)) holder ∷ map (λ slot. option_map (λ (edge : ℕ). (slot, edge)) (slot_of s pool slot)) (slots_between (a + 1) b))
one-more s pool a b holder less is =
    let rest : List (Option (ℕ × ℕ)) = map (λ slot. option_map (λ (edge : ℕ). (slot, edge)) (slot_of s pool slot)) (slots_between (a + 1) b) in
    let count : b - a ≡ suc (b - (a + 1)) = omega arith in
    ap (λ n. first_held s pool (range_with_len a n)) count
    ∙ ap (λ (o : Option ℕ). first_some (option_map (λ (edge : ℕ). (a, edge)) o ∷ rest)) is

pub held-next : (s : State) (pool a b : ℕ) → a < b → slot_of s pool a ≡ None → first_held s pool (slots_between a b) ≡ first_held s pool (slots_between (a + 1) b)
held-next s pool a b less is = one-more s pool a b None less is

pub held-here : (s : State) (pool a b edge : ℕ) → a < b → slot_of s pool a ≡ Some edge → first_held s pool (slots_between a b) ≡ Some (a, edge)
held-here s pool a b edge less is = one-more s pool a b (Some edge) less is

pub held-none : (s : State) (pool a b : ℕ) → b ≤ a → first_held s pool (slots_between a b) ≡ None
held-none s pool a b out =
    let count : b - a ≡ zero = omega arith in
    ap (λ n. first_held s pool (range_with_len a n)) count

-- WHY A POOL IS NOT GIVEN A DEPTH
alone : {A : Type 0} (o : Option A) → first_some (o ∷ []) ≡ o
alone None = refl
alone (Some x) = refl

pub resize-bad : (manifest : ManifestValue) (pool depth : ℕ) (s : State) (present : Option ℕ) (can : Bool) → present ≡ present_depth manifest s pool → bad_resize present depth ≡ refuse_if (not can) BadResize → can ≡ false
    → resize_refusal manifest pool depth s ≡ Some BadResize
unfolding resize_refusal
resize-bad manifest pool depth s present can now is cannot =
    let held : Option (ℕ × ℕ) = first_held s pool (slots_lost depth (present_depth manifest s pool)) in
    ap (λ o. first_some (o ∷ depth_in_use held ∷ [])) (ap (λ o. bad_resize o depth) (sym now) ∙ is ∙ ap (λ b. refuse_if (not b) BadResize) cannot)

pub resize-lost : (manifest : ManifestValue) (pool depth a b : ℕ) (s : State) (present : Option ℕ) (can : Bool) (held : Option (ℕ × ℕ)) → present ≡ present_depth manifest s pool
    → bad_resize present depth ≡ refuse_if (not can) BadResize → can ≡ true → slots_between a b ≡ slots_lost depth (present_depth manifest s pool) → held ≡ first_held s pool (slots_between a b)
    → resize_refusal manifest pool depth s ≡ depth_in_use held
unfolding resize_refusal
resize-lost manifest pool depth a b s present can held now is is-can lost at =
    let fine : bad_resize (present_depth manifest s pool) depth ≡ None = ap (λ o. bad_resize o depth) (sym now) ∙ is ∙ ap (λ b. refuse_if (not b) BadResize) is-can in
    (λ k. first_some (fine k ∷ depth_in_use (first_held s pool (sym lost k)) ∷ []))
    ∙ alone (depth_in_use (first_held s pool (slots_between a b)))
    ∙ ap depth_in_use (sym at)
