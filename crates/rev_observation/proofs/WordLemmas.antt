-- The outputs of commands in the words of both versions, one after the other.
use Rattle.std.proofs.Common.{◌≡◌, ℕ, zero, suc, ◌+◌, ◌<◌, ◌≤◌, Bool, true, false, not, bytes_eq, List, [], ◌∷◌, ◌++◌, length, map, get_or, take, refl, sym, ap, ◌∙◌, arith}
use Rattle.std.proofs.lemmas.List.{length-map, take_all, take_more}
use Rattle.rev_paths.proofs.PlaceLemmas.{same_bytes}

-- what stands at a place of a list that a function gives
at-map : {A : Type 0} (f : A → List ℕ) (xs : List A) (i : ℕ) (x : A) → i < length xs → x ≡ get_or xs i x → get_or (map f xs) i [] ≡ f x
at-map f [] i x lt e = absurd (omega arith)
at-map f (y ∷ ys) zero x lt e = ap f (sym e)
at-map f (y ∷ ys) (suc i) x lt e = at-map f ys i x (omega arith) e

-- one more of both that are the same
pub same_more : {A B : Type 0} (f : A → List ℕ) (g : B → List ℕ) (xs : List A) (ys : List B) (i : ℕ) (x : A) (y : B) → i < length xs → i < length ys → x ≡ get_or xs i x → y ≡ get_or ys i y → f x ≡ g y → take i (map f xs) ≡ take i (map g ys) → take (i + 1) (map f xs) ≡ take (i + 1) (map g ys)
same_more f g xs ys i x y inx iny isx isy equal same =
    take_more (map f xs) i [] (omega (arith, length-map xs f, inx)) ∙ ap (λ l. l ++ get_or (map f xs) i [] ∷ []) same
    ∙ ap (λ o. take i (map g ys) ++ o ∷ []) (at-map f xs i x inx isx ∙ equal ∙ sym (at-map g ys i y iny isy))
    ∙ sym (take_more (map g ys) i [] (omega (arith, length-map ys g, iny)))

-- all of both are the same
pub same_all : {A B : Type 0} (f : A → List ℕ) (g : B → List ℕ) (xs : List A) (ys : List B) (i : ℕ) → length xs ≤ i → length ys ≤ i → take i (map f xs) ≡ take i (map g ys) → map f xs ≡ map g ys
same_all f g xs ys i pastx pasty same =
    sym (take_all i (map f xs) (omega (arith, length-map xs f, pastx))) ∙ same ∙ take_all i (map g ys) (omega (arith, length-map ys g, pasty))

-- two names of which the comparison is not false are one
pub same_names : (a b : List ℕ) (differ : Bool) → differ ≡ not (bytes_eq a b) → differ ≡ false → a ≡ b
same_names a b differ is alike = same_bytes a b (was_true (bytes_eq a b) (sym is ∙ alike))
  where
    was_true : (t : Bool) → not t ≡ false → t ≡ true
    was_true true h = refl
    was_true false h = cc
