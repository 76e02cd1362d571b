-- Tests that refuse nothing.
use Rattle.std.proofs.Common.{◌≡◌, Bool, true, false, not, List, ◌∷◌, Option, Some, None, refl, true≢false}
use Rattle.std.specs.Option.{option_map}
use Rattle.rev_plan.specs.Options.{first_some}
use Rattle.rev_events.specs.declared.refusal.Refusal.{Refusal}
use Rattle.rev_events.specs.Refusal.{refuse_if}

pub first-none : {A : Type 0} (o : Option A) (os : List (Option A)) → first_some (o ∷ os) ≡ None → (o ≡ None) × (first_some os ≡ None)
first-none None os h = (refl, h)
first-none (Some r) os h =
    let no : Some r ≡ None = h in
    cc

pub not-refused : (b : Bool) (r : Refusal) → refuse_if b r ≡ None → b ≡ false
not-refused true r h =
    let no : Some r ≡ None = h in
    cc
not-refused false r h = refl

pub not-false : (b : Bool) → not b ≡ false → b ≡ true
not-false true h = refl
not-false false h = absurd (true≢false h)

pub none-mapped : {A B : Type 0} (f : A → B) (o : Option A) → option_map f o ≡ None → o ≡ None
none-mapped f None h = refl
none-mapped f (Some x) h =
    let no : Some (f x) ≡ None = h in
    cc
