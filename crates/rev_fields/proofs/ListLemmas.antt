-- Tests of the elements of a list, by their places.
use Rattle.std.proofs.Common.{◌≡◌, ℕ, suc, ◌<◌, Bool, true, false, zero, List, [], ◌∷◌, length, get_or, refl, arith, inl, inr}
use Rattle.std.proofs.lemmas.Bool.{or_left, or_right, or_from, or_cases, false≢true}
use Rattle.std.specs.List.{list_any}

-- an element passes
pub list_any_true : {X : Type 0} (p : X → Bool) (xs : List X) (i : ℕ) (d : X) → i < length xs → p (get_or xs i d) ≡ true → list_any p xs ≡ true
list_any_true p [] i d lt h = absurd (omega arith)
list_any_true p (x ∷ xs) zero d lt h = or_left (p x) (list_any p xs) h
list_any_true p (x ∷ xs) (suc i) d lt h = or_right (p x) (list_any p xs) (list_any_true p xs i d (omega arith) h)

-- no element passes
pub list_any_false : {X : Type 0} (p : X → Bool) (xs : List X) (d : X) → ((k : ℕ) → k < length xs → p (get_or xs k d) ≡ false) → list_any p xs ≡ false
list_any_false p [] d h = refl
list_any_false p (x ∷ xs) d h = or_from (p x) (list_any p xs) (h 0 (omega arith)) (list_any_false p xs d (λ k lt. h (suc k) (omega arith)))

-- the place of an element that passes
pub place_of_any : {X : Type 0} (p : X → Bool) (xs : List X) (d : X) → list_any p xs ≡ true → (k : ℕ) × (k < length xs) × (p (get_or xs k d) ≡ true)
place_of_any p [] d h = absurd (false≢true h)
place_of_any p (x ∷ xs) d h =
    elim (or_cases (p x) (list_any p xs) h) [
      | inl here ↦ (0, omega arith, here)
      | inr later ↦ let found = place_of_any p xs d later in (suc found.0, omega (arith, found.1), found.2)
    ]
