-- Lists of which one item after the other is changed.
use Rattle.std.proofs.Common.{◌≡◌, ◌+◌, ◌<◌, ◌∙◌, ℕ, zero, suc, List, [], ◌∷◌, ◌++◌, drop, get_or, length, map, slice_set, take, refl, sym, ap, add-one, arith}

-- the first items are mapped, and the next one as well
mapped-suc : {A : Type 0} (f : A → A) (xs : List A) (i : ℕ) (d : A) → i < length xs → slice_set (map f (take i xs) ++ drop i xs) i (f (get_or xs i d)) ≡ map f (take (suc i) xs) ++ drop (suc i) xs
mapped-suc f [] i d less = absurd (omega (arith, less))
mapped-suc f (x ∷ xs) zero d less = refl
mapped-suc f (x ∷ xs) (suc i) d less = ap (λ ys. f x ∷ ys) (mapped-suc f xs i d (omega (arith, less)))

pub mapped-more : {A : Type 0} (f : A → A) (xs ys : List A) (i : ℕ) (d x : A) → i < length xs → ys ≡ map f (take i xs) ++ drop i xs → x ≡ f (get_or xs i d) → slice_set ys i x ≡ map f (take (i + 1) xs) ++ drop (i + 1) xs
mapped-more f xs ys i d x less so_far is =
    (λ k. slice_set (so_far k) i (is k)) ∙ mapped-suc f xs i d less ∙ ap (λ n. map f (take n xs) ++ drop n xs) (sym (add-one i))

-- what is not mapped yet stands where it stood
pub mapped-next : {A : Type 0} (f : A → A) (xs ys : List A) (i : ℕ) (d : A) → i < length xs → ys ≡ map f (take i xs) ++ drop i xs → get_or ys i d ≡ get_or xs i d
mapped-next f xs ys i d less so_far = ap (λ zs. get_or zs i d) so_far ∙ next f xs i d less
  where
    next : {A : Type 0} (f : A → A) (xs : List A) (i : ℕ) (d : A) → i < length xs → get_or (map f (take i xs) ++ drop i xs) i d ≡ get_or xs i d
    next f [] i d less = absurd (omega (arith, less))
    next f (x ∷ xs) zero d less = refl
    next f (x ∷ xs) (suc i) d less = next f xs i d (omega (arith, less))
