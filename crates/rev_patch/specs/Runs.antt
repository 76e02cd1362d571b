-- Runs: a list cut between each two neighbours that do not belong together.
use Rattle.std.specs.Prelude.{ℕ, suc, Bool, if◌then◌else◌, List, [], ◌∷◌}

-- an element before runs: in the first of them, if it belongs to what that begins with
abbrev pub onto_run : {A : Type 0} → (A → A → Bool) → A → List (List A) → List (List A)
onto_run near x [] = (x ∷ []) ∷ []
onto_run near x ([] ∷ rs) = (x ∷ []) ∷ rs
onto_run near x ((y ∷ r) ∷ rs) = if near x y then (x ∷ y ∷ r) ∷ rs else (x ∷ []) ∷ (y ∷ r) ∷ rs

abbrev pub runs : {A : Type 0} → (A → A → Bool) → List A → List (List A)
runs near [] = []
runs near (x ∷ xs) = onto_run near x (runs near xs)

-- how many elements belong to the one before them, up to the first that does not
abbrev pub run_behind : {A : Type 0} → (A → A → Bool) → A → List A → ℕ
run_behind near x [] = 0
run_behind near x (y ∷ ys) = if near x y then suc (run_behind near y ys) else 0

-- the length of the first run
abbrev pub first_run : {A : Type 0} → (A → A → Bool) → List A → ℕ
first_run near [] = 0
first_run near (x ∷ xs) = suc (run_behind near x xs)
