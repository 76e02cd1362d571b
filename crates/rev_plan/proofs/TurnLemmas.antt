-- How a chain turns at an edge: where it goes on, and what is told of the edge at which it ends.
use Rattle.std.proofs.Common.{◌≡◌, ℕ, ◌<◌, Bool, true, false, List, [], ◌∷◌, length, set, Option, Some, None, Result, Ok, Err, refl, sym, ap, ◌∙◌, arith, if◌then◌else◌}
use Rattle.std.specs.Prelude.{IfOk, OnOk}
use Rattle.rev_manifest.specs.Manifest.{BuildValue}
use Rattle.rev_cells.specs.State.{State}
use Rattle.rev_dirty.specs.declared.reason.Reason.{Reason}
use Rattle.rev_dirty.specs.Reasons.{reasons_of}
use Rattle.rev_ranks.specs.Sets.{is_marked}
use Rattle.rev_plan.specs.Chain.{has_wanted_mark, step_from, chain_of, told_reasons, turn_from, unless_explained}
use Rattle.rev_plan.proofs.ChainLemmas.{IsUnderWay, ends-explained, ends-stuck, ends-unwanted}

none-some : {A : Type 0} (x : A) → Some x ≡ None → ⊥
none-some x h = let no : Some x ≡ None = h in cc

-- that a chain goes on says that the edge is wanted and has no reasons
pub record GoesOn (wanted : Bool) (reasons : List Reason) (step : Option (ℕ × ℕ)) (at next : ℕ) : Type 0 where
  pub is_wanted : wanted ≡ true
  pub bare : reasons ≡ []
  pub is : Some (at, next) ≡ step

goes-by : (wanted : Bool) (reasons : List Reason) (step : Option (ℕ × ℕ)) (at next : ℕ) → Some (at, next) ≡ (if wanted then unless_explained step reasons else None) → GoesOn wanted reasons step at next
goes-by true [] step at next h = record { is_wanted = refl; bare = refl; is = h }
goes-by true (r ∷ rs) step at next h = absurd (none-some {A = ℕ × ℕ} _ h)
goes-by false reasons step at next h = absurd (none-some {A = ℕ × ℕ} _ h)

pub turned : (builds : List BuildValue) (state : State) (has : ℕ → Bool) (edge at next : ℕ) → Some (at, next) ≡ turn_from builds state has edge
    → GoesOn (has_wanted_mark state edge) (reasons_of builds state edge) (step_from builds state has edge) at next
turned builds state has edge at next h = goes-by (has_wanted_mark state edge) (reasons_of builds state edge) (step_from builds state has edge) at next h

pub none-told : (builds : List BuildValue) (state : State) (edge : ℕ) → reasons_of builds state edge ≡ [] → told_reasons builds state edge ≡ []
none-told builds state edge bare = either (has_wanted_mark state edge) (reasons_of builds state edge) bare
  where
    either : (b : Bool) (reasons : List Reason) → reasons ≡ [] → (if b then reasons else []) ≡ []
    either true reasons none = none
    either false reasons none = refl

pub ends-turned : (builds : List BuildValue) (state : State) (start : ℕ) (marks : List Bool) (steps : List (ℕ × ℕ)) (last : ℕ) → IsUnderWay builds state start marks steps last
    → None ≡ turn_from builds state (is_marked (set marks last true)) last → chain_of builds state start ≡ record { steps = steps; last = last; reasons = told_reasons builds state last }
ends-turned builds state start marks steps last was h = by (has_wanted_mark state last) refl
  where
    explained : (rs : List Reason) → reasons_of builds state last ≡ rs → has_wanted_mark state last ≡ true → None ≡ unless_explained (step_from builds state (is_marked (set marks last true)) last) rs
        → chain_of builds state start ≡ record { steps = steps; last = last; reasons = rs }
    explained [] are wanted stuck = ends-stuck builds state start marks steps last was wanted are stuck
    explained (r ∷ rs) are wanted stuck = ends-explained builds state start marks steps last was wanted (r ∷ rs) (sym are) (omega arith)

    by : (b : Bool) → has_wanted_mark state last ≡ b → chain_of builds state start ≡ record { steps = steps; last = last; reasons = told_reasons builds state last }
    by false is = ends-unwanted builds state start marks steps last was is ∙ (λ i. record { steps = steps; last = last; reasons = if sym is i then reasons_of builds state last else [] })
    by true is =
        explained (reasons_of builds state last) refl is (h ∙ ap (λ b. if b then unless_explained (step_from builds state (is_marked (set marks last true)) last) (reasons_of builds state last) else None) is)
        ∙ (λ i. record { steps = steps; last = last; reasons = if sym is i then reasons_of builds state last else [] })

-- AT ONE EDGE
module _ (builds : List BuildValue) (state : State) (has : ℕ → Bool) (edge : ℕ) where
  pub unwanted-turn : has_wanted_mark state edge ≡ false → None ≡ turn_from builds state has edge
  unwanted-turn h = sym (ap (λ b. if b then unless_explained (step_from builds state has edge) (reasons_of builds state edge) else None) h)

  pub unwanted-told : has_wanted_mark state edge ≡ false → [] ≡ told_reasons builds state edge
  unwanted-told h = sym (ap (λ b. if b then reasons_of builds state edge else []) h)

  pub wanted-told : has_wanted_mark state edge ≡ true → (reasons : List Reason) → reasons ≡ reasons_of builds state edge → reasons ≡ told_reasons builds state edge
  wanted-told h reasons are = are ∙ sym (ap (λ b. if b then reasons_of builds state edge else []) h)

  wanted-turn : has_wanted_mark state edge ≡ true → (reasons : List Reason) → reasons ≡ reasons_of builds state edge → unless_explained (step_from builds state has edge) reasons ≡ turn_from builds state has edge
  wanted-turn h reasons are =
      ap (unless_explained (step_from builds state has edge)) are ∙ sym (ap (λ b. if b then unless_explained (step_from builds state has edge) (reasons_of builds state edge) else None) h)

  pub explained-turn : has_wanted_mark state edge ≡ true → (reasons : List Reason) → reasons ≡ reasons_of builds state edge → 0 < length reasons → None ≡ turn_from builds state has edge
  explained-turn h [] are some = absurd (omega (arith, some))
  explained-turn h (r ∷ rs) are some = wanted-turn h (r ∷ rs) are

  pub bare-turn : has_wanted_mark state edge ≡ true → (reasons : List Reason) → reasons ≡ reasons_of builds state edge → length reasons ≡ 0 → step_from builds state has edge ≡ turn_from builds state has edge
  bare-turn h [] are bare = wanted-turn h [] are
  bare-turn h (r ∷ rs) are bare = absurd (omega (arith, bare))

-- OF WHAT A CALL GIVES
pub ok-more : {A E : Type 0} (P Q : A → Type 0) → ((x : A) → P x → Q x) → (r : Result A E) → IfOk r P → IfOk r Q
ok-more P Q f (Ok x) h = f x h
ok-more P Q f (Err e) h = h

pub on-ok : {A E : Type 0} (P : Type 0) → P → (r : Result A E) → OnOk r P
on-ok P h (Ok x) = h
on-ok P h (Err e) = tt
