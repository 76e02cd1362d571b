-- Lists that are made one number at a time.
use Rattle.std.proofs.Common.{◌≡◌, ℕ, ◌+◌, ◌<◌, Bool, List, [], ◌∷◌, ◌++◌, get_or, length, take, ap, sym, ◌∙◌, arith}
use Rattle.std.specs.Prelude.{cond, filter, map, if◌then◌else◌}
use Rattle.std.specs.List.{range_with_len}
use Rattle.std.proofs.lemmas.List.FromFn.{filter_of_map_range_with_len_more, map-range_with_len_more}
use Rattle.std.proofs.lemmas.List.{map-id, take_more}
use Rattle.std.proofs.lemmas.List.Elements.{filter-append}

-- the numbers that pass, and one more where it does
pub filtered-next : (p : ℕ → Bool) (n : ℕ)
    → filter p (range_with_len 0 (n + 1)) ≡ filter p (range_with_len 0 n) ++ (if p n then n ∷ [] else [])
filtered-next p n =
    ap (filter p) (sym (map-id (range_with_len 0 (n + 1))))
    ∙ filter_of_map_range_with_len_more p (λ x. x) 0 n n (omega arith)
    ∙ ap (λ xs. filter p xs ++ cond (p n) (n ∷ []) []) (map-id (range_with_len 0 n))

-- what belongs to each number, and to one more
pub mapped-next : {X : Type 0} (f : ℕ → X) (n : ℕ)
    → map f (range_with_len 0 (n + 1)) ≡ map f (range_with_len 0 n) ++ f n ∷ []
mapped-next f n = map-range_with_len_more f 0 n n (omega arith)

-- those of a list up to a place that pass, and the one at the place where it does
pub filtered-at : {A : Type 0} (p : A → Bool) (xs : List A) (i : ℕ) (d : A) (done after : List A)
    → i < length xs → done ≡ filter p (take i xs) → after ≡ done ++ (if p (get_or xs i d) then get_or xs i d ∷ [] else [])
    → after ≡ filter p (take (i + 1) xs)
filtered-at p xs i d done after within so now =
    now ∙ ap (λ ys. ys ++ (if p (get_or xs i d) then get_or xs i d ∷ [] else [])) so
    ∙ sym (filter-append p (take i xs) (get_or xs i d ∷ []))
    ∙ ap (filter p) (sym (take_more xs i d within))

-- the same, by whether the one at the place passes
pub filtered-by : {A : Type 0} (p : A → Bool) (xs : List A) (i : ℕ) (d : A) (done after : List A) (passes : Bool)
    → i < length xs → done ≡ filter p (take i xs) → passes ≡ p (get_or xs i d)
    → after ≡ done ++ (if passes then get_or xs i d ∷ [] else []) → after ≡ filter p (take (i + 1) xs)
filtered-by p xs i d done after passes within so is now =
    filtered-at p xs i d done after within so (now ∙ ap (λ b. done ++ (if b then get_or xs i d ∷ [] else [])) is)
