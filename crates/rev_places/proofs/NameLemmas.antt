-- Lists that are made one name at a time.
use Rattle.std.proofs.Common.{◌≡◌, ℕ, ◌+◌, ◌<◌, List, [], ◌∷◌, ◌++◌, Option, Some, None, length, get_or, map, slice_get, take, refl, sym, ap, ◌∙◌, append_assoc}
use Rattle.std.specs.Prelude.{option_and_then}
use Rattle.std.specs.List.{cons_option, filter_map}
use Rattle.std.specs.Option.{option_to_list}
use Rattle.std.proofs.lemmas.List.{map-append, take_more}
use Rattle.std.proofs.lemmas.List.Elements.{filter_map-append}
use Rattle.std.proofs.lemmas.Option.{slice_get-get_or}
use Rattle.std.proofs.Math.Seq.{take-length}

one-more : {X : Type 0} (o : Option X) → cons_option o [] ≡ option_to_list o
one-more None = refl
one-more (Some x) = refl

-- what is picked of one more element
pub picked-next : {A B : Type 0} (f : A → Option B) (xs : List A) (i : ℕ) (d : A) (start done after : List B)
    → i < length xs → done ≡ start ++ filter_map f (take i xs) → after ≡ done ++ option_to_list (f (get_or xs i d))
    → after ≡ start ++ filter_map f (take (i + 1) xs)
picked-next f xs i d start done after within so now =
    now ∙ ap (λ ys. ys ++ option_to_list (f (get_or xs i d))) so
    ∙ append_assoc start (filter_map f (take i xs)) (option_to_list (f (get_or xs i d)))
    ∙ ap (λ ys. start ++ ys)
    (ap (λ ys. filter_map f (take i xs) ++ ys) (sym (one-more (f (get_or xs i d))))
    ∙ sym (filter_map-append f (take i xs) (get_or xs i d ∷ []))
    ∙ ap (filter_map f) (sym (take_more xs i d within)))

-- the same, where the element is the one at a place
pub picked-at : {A B : Type 0} (f : A → Option B) (xs : List A) (i : ℕ) (d : A) (start done after : List B)
    → i < length xs → done ≡ start ++ filter_map f (take i xs)
    → after ≡ done ++ option_to_list (option_and_then f (slice_get xs i)) → after ≡ start ++ filter_map f (take (i + 1) xs)
picked-at f xs i d start done after within so now =
    picked-next f xs i d start done after within so
    (now ∙ ap (λ o. done ++ option_to_list (option_and_then f o)) (slice_get-get_or xs i d within))

-- what is picked of all elements
pub picked-all : {A B : Type 0} (f : A → Option B) (xs : List A) (i : ℕ) (start done : List B)
    → i ≡ length xs → done ≡ start ++ filter_map f (take i xs) → done ≡ start ++ filter_map f xs
picked-all f xs i start done all so =
    so ∙ ap (λ ys. start ++ filter_map f ys) (ap (λ n. take n xs) all ∙ take-length xs)

-- what is made of one more element
pub mapped-next : {A B : Type 0} (f : A → B) (xs : List A) (i : ℕ) (d : A) (done after : List B)
    → i < length xs → done ≡ map f (take i xs) → after ≡ done ++ f (get_or xs i d) ∷ [] → after ≡ map f (take (i + 1) xs)
mapped-next f xs i d done after within so now =
    now ∙ ap (λ ys. ys ++ f (get_or xs i d) ∷ []) so
    ∙ sym (map-append f (take i xs) (get_or xs i d ∷ []))
    ∙ ap (map f) (sym (take_more xs i d within))
