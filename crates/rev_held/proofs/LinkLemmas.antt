-- Links from an event that is not kept.
use Rattle.std.proofs.Common.{◌≡◌, ℕ, Bool, true, false, Option, Some, None, Result, Ok, Err, refl, nat_lt}
use Rattle.std.specs.Prelude.{IfOk, if◌then◌else◌}
use Rattle.rev_footprint.specs.Value.{FootprintValue}
use Rattle.rev_history.specs.Timeline.{Timeline, kept_footprint}
use Rattle.rev_held.specs.Dependence.{cell_between, dependence_of}

pub ok-more : {A E : Type 0} (P Q : A → Type 0) → ((x : A) → P x → Q x) → (r : Result A E) → IfOk r P → IfOk r Q
ok-more P Q f (Ok x) h = f x h
ok-more P Q f (Err e) h = h

-- nothing depends on an event that is not kept
pub no-dependence : (t : Timeline) (one other : ℕ) → kept_footprint t one ≡ None → None ≡ dependence_of t one other
no-dependence t one other none = by (nat_lt one other) (kept_footprint t one) (kept_footprint t other) none
  where
    by : (b : Bool) (o q : Option FootprintValue) → o ≡ None → None ≡ (if b then cell_between o q else None)
    by true None q h = refl
    by true (Some f) q h = let no : Some f ≡ None = h in cc
    by false o q h = refl
