-- Elements of lists, one by one.
use Rattle.std.proofs.Common.{◌≡◌, List, [], ◌∷◌, inl, inr, arith, Contains, ◌⊎◌}
use Rattle.std.proofs.lemmas.List.Elements.{Contains-append_cases, Contains-append_left, Contains-append_right, Contains-push, Contains-push_cases}

pub none-in : {X : Type 0} (x : X) → Contains [] x → ⊥
none-in x (k, below, is) = absurd (omega (arith, below))

pub here : {X : Type 0} (x : X) (xs : List X) → Contains (x ∷ xs) x
here x xs = Contains-append_left (x ∷ []) xs x (Contains-push [] x)

pub further : {X : Type 0} (x y : X) (xs : List X) → Contains xs y → Contains (x ∷ xs) y
further x y xs h = Contains-append_right (x ∷ []) xs y h

pub here-or : {X : Type 0} (x y : X) (xs : List X) → Contains (x ∷ xs) y → (x ≡ y) ⊎ Contains xs y
here-or x y xs h = elim (Contains-append_cases (x ∷ []) xs y h) [
  | inl first ↦ elim (Contains-push_cases [] x y first) [
    | inl none ↦ absurd (none-in y none)
    | inr same ↦ inl same
  ]
  | inr later ↦ inr later
]
