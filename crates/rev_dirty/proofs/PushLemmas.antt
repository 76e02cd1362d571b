-- Lists to which a loop adds what is made of each item.
use Rattle.std.proofs.Common.{◌≡◌, ℕ, ◌+◌, ◌<◌, List, [], ◌∷◌, ◌++◌, length, get_or, map, take, sym, ap, ◌∙◌, append_assoc}
use Rattle.std.proofs.Math.Seq.{take-length}
use Rattle.std.proofs.lemmas.List.{append-nil, map-append, take_more}

pub pushed-none : {Y : Type 0} (old : List Y) → old ≡ old ++ []
pushed-none old = sym (append-nil old)

pub pushed-more : {X Y : Type 0} (f : X → Y) (xs : List X) (i : ℕ) (x : X) (old done after : List Y) (y : Y) → i < length xs → x ≡ get_or xs i x → done ≡ old ++ map f (take i xs) → y ≡ f x → after ≡ done ++ y ∷ []
    → after ≡ old ++ map f (take (i + 1) xs)
pushed-more f xs i x old done after y within is before same pushed =
    pushed ∙ (λ j. before j ++ same j ∷ []) ∙ append_assoc old (map f (take i xs)) (f x ∷ [])
    ∙ ap (λ ys. old ++ ys) (sym (map-append f (take i xs) (x ∷ [])) ∙ ap (map f) (sym (take_more xs i x within ∙ ap (λ z. take i xs ++ z ∷ []) (sym is))))

-- all items are taken at the loop's end
pub taken-all : {X : Type 0} (xs : List X) (i : ℕ) → i ≡ length xs → take i xs ≡ xs
taken-all xs i all = ap (λ n. take n xs) all ∙ take-length xs

-- the same of what is made in two steps
pub pushed-twice : {X Y Z : Type 0} (g : X → Y) (f : Y → Z) (xs : List X) (i : ℕ) (x : X) (old done after : List Z) (z : Z) → i < length xs → x ≡ get_or xs i x → done ≡ old ++ map f (map g (take i xs)) → z ≡ f (g x)
    → after ≡ done ++ z ∷ [] → after ≡ old ++ map f (map g (take (i + 1) xs))
pushed-twice g f xs i x old done after z within is before same pushed =
    pushed ∙ (λ j. before j ++ same j ∷ []) ∙ append_assoc old (map f (map g (take i xs))) (f (g x) ∷ [])
    ∙ ap (λ zs. old ++ zs)
    (sym (map-append f (map g (take i xs)) (g x ∷ []))
    ∙ ap (map f) (sym (map-append g (take i xs) (x ∷ [])) ∙ ap (map g) (sym (take_more xs i x within ∙ ap (λ y. take i xs ++ y ∷ []) (sym is)))))
