-- Runs, by the first of them and by what is left.
use Rattle.std.proofs.Common.{◌≡◌, ◌<◌, ℕ, zero, suc, ◌+◌, Bool, true, false, if◌then◌else◌, List, [], ◌∷◌, ◌++◌, length, map, take, drop, get_or, refl, ap, sym, ◌∙◌, arith, append_assoc}
use Rattle.std.specs.List.{flat_map}
use Rattle.std.proofs.lemmas.List.{drop_more}
use Rattle.rev_patch.specs.Runs.{onto_run, runs, run_behind, first_run}

pub runs-first : {A : Type 0} (near : A → A → Bool) (x : A) (xs : List A)
    → runs near (x ∷ xs) ≡ (x ∷ take (run_behind near x xs) xs) ∷ runs near (drop (run_behind near x xs) xs)
runs-first near x [] = refl
runs-first near x (y ∷ ys) =
    let m = run_behind near y ys in
    let first : runs near (y ∷ ys) ≡ (y ∷ take m ys) ∷ runs near (drop m ys) = runs-first near y ys in
    ap (onto_run near x) first
    ∙ elim (near x y) as (λ t. (if t then (x ∷ y ∷ take m ys) ∷ runs near (drop m ys) else (x ∷ []) ∷ (y ∷ take m ys) ∷ runs near (drop m ys))
    ≡ (x ∷ take (if t then suc m else 0) (y ∷ ys)) ∷ runs near (drop (if t then suc m else 0) (y ∷ ys))) [
      | true ↦ refl
      | false ↦ ap (λ rs. (x ∷ []) ∷ rs) (sym first)
    ]

pub take-mapped : {X A : Type 0} (g : X → A) (n : ℕ) (xs : List X) → take n (map g xs) ≡ map g (take n xs)
take-mapped g zero xs = refl
take-mapped g (suc n) [] = refl
take-mapped g (suc n) (x ∷ xs) = ap (λ ys. g x ∷ ys) (take-mapped g n xs)

pub drop-mapped : {X A : Type 0} (g : X → A) (n : ℕ) (xs : List X) → drop n (map g xs) ≡ map g (drop n xs)
drop-mapped g zero xs = refl
drop-mapped g (suc n) [] = refl
drop-mapped g (suc n) (x ∷ xs) = drop-mapped g n xs

runs-mapped : {X A : Type 0} (g : X → A) (near : A → A → Bool) (xs : List X) → 0 < length xs
    → runs near (map g xs) ≡ map g (take (first_run near (map g xs)) xs) ∷ runs near (map g (drop (first_run near (map g xs)) xs))
runs-mapped g near [] some = absurd (omega arith)
runs-mapped g near (x ∷ xs) some =
    let n = run_behind near (g x) (map g xs) in
    runs-first near (g x) (map g xs)
    ∙ ap (λ ys. (g x ∷ ys) ∷ runs near (drop n (map g xs))) (take-mapped g n xs)
    ∙ ap (λ ys. (g x ∷ map g (take n xs)) ∷ runs near ys) (drop-mapped g n xs)

-- what is made of all runs, by the first and by what is made of the others
pub runs-more : {X A B : Type 0} (g : X → A) (near : A → A → Bool) (f : List A → List B) (out : List B) (xs : List X) (n : ℕ)
    → n ≡ first_run near (map g xs) → 0 < length xs
    → (out ++ f (map g (take n xs))) ++ flat_map f (runs near (map g (drop n xs))) ≡ out ++ flat_map f (runs near (map g xs))
runs-more g near f out xs n is some =
    append_assoc out (f (map g (take n xs))) (flat_map f (runs near (map g (drop n xs))))
    ∙ ap (λ k. out ++ (f (map g (take k xs)) ++ flat_map f (runs near (map g (drop k xs))))) is
    ∙ ap (λ rs. out ++ flat_map f rs) (sym (runs-mapped g near xs some))

-- what the next element says of a run
pub run-step : {X A : Type 0} (g : X → A) (near : A → A → Bool) (a : A) (xs : List X) (i : ℕ) (x : X) → i < length xs → x ≡ get_or xs i x
    → run_behind near a (map g (drop i xs)) ≡ (if near a (g x) then suc (run_behind near (g x) (map g (drop (i + 1) xs))) else 0)
run-step g near a xs i x within is =
    ap (λ ys. run_behind near a (map g ys)) (drop_more xs i x within ∙ ap (λ y. y ∷ drop (i + 1) xs) (sym is))

-- The same of a list as it is.
runs-plain : {A : Type 0} (near : A → A → Bool) (xs : List A) → 0 < length xs
    → runs near xs ≡ take (first_run near xs) xs ∷ runs near (drop (first_run near xs) xs)
runs-plain near [] some = absurd (omega arith)
runs-plain near (x ∷ xs) some = runs-first near x xs

pub runs-more_plain : {A B : Type 0} (near : A → A → Bool) (f : List A → List B) (out : List B) (xs : List A) (n : ℕ)
    → n ≡ first_run near xs → 0 < length xs
    → (out ++ f (take n xs)) ++ flat_map f (runs near (drop n xs)) ≡ out ++ flat_map f (runs near xs)
runs-more_plain near f out xs n is some =
    append_assoc out (f (take n xs)) (flat_map f (runs near (drop n xs)))
    ∙ ap (λ k. out ++ (f (take k xs) ++ flat_map f (runs near (drop k xs)))) is
    ∙ ap (λ rs. out ++ flat_map f rs) (sym (runs-plain near xs some))

pub run-next : {A : Type 0} (near : A → A → Bool) (a : A) (xs : List A) (i : ℕ) (d : A) → i < length xs
    → run_behind near a (drop i xs) ≡ (if near a (get_or xs i d) then suc (run_behind near (get_or xs i d) (drop (i + 1) xs)) else 0)
run-next near a xs i d within = ap (λ ys. run_behind near a ys) (drop_more xs i d within)
