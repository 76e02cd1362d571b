-- Lists in which no path stands twice.
use Rattle.std.proofs.Common.{◌≡◌, suc, arith, ℕ, ◌≤◌, Bool, true, false, not, cond, List, [], ◌∷◌, length, filter, bytes_eq, refl, ap, ◌∙◌}
use Rattle.rev_paths.specs.Mentions.{first_mentions}

filtered-within : (p : List ℕ → Bool) (xs : List (List ℕ)) → length (filter p xs) ≤ length xs
filtered-within p [] = omega arith
filtered-within p (x ∷ xs) = by (p x) (filtered-within p xs)
  where
    by : (b : Bool) → length (filter p xs) ≤ length xs → length (cond b (x ∷ filter p xs) (filter p xs)) ≤ suc (length xs)
    by true le = omega arith
    by false le = omega arith

-- what loses none is all
filtered-all : (p : List ℕ → Bool) (xs : List (List ℕ)) → length (filter p xs) ≡ length xs → filter p xs ≡ xs
filtered-all p [] same = refl
filtered-all p (x ∷ xs) same = by (p x) (filtered-all p xs) same
  where
    by : (b : Bool) → (length (filter p xs) ≡ length xs → filter p xs ≡ xs) → length (cond b (x ∷ filter p xs) (filter p xs)) ≡ suc (length xs) → cond b (x ∷ filter p xs) (filter p xs) ≡ x ∷ xs
    by true rest e = ap (λ ys. x ∷ ys) (rest (omega arith))
    by false rest e = let within = filtered-within p xs in absurd (omega arith)

mentions-within : (xs : List (List ℕ)) → length (first_mentions xs) ≤ length xs
mentions-within [] = omega arith
mentions-within (x ∷ xs) =
    let fewer = filtered-within (λ q. not (bytes_eq q x)) (first_mentions xs) in
    let rest = mentions-within xs in
    omega arith

-- the first mentions of a list that are as many as it has are the list
pub mentions-same : (xs : List (List ℕ)) → length (first_mentions xs) ≡ length xs → first_mentions xs ≡ xs
mentions-same [] same = refl
mentions-same (x ∷ xs) same =
    let fewer = filtered-within (λ q. not (bytes_eq q x)) (first_mentions xs) in
    let within = mentions-within xs in
    let all : filter (λ q. not (bytes_eq q x)) (first_mentions xs) ≡ first_mentions xs =
    filtered-all (λ q. not (bytes_eq q x)) (first_mentions xs) (omega arith) in
    ap (λ ys. x ∷ ys) (all ∙ mentions-same xs (omega arith))
