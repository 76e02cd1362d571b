-- Lists that are made one element at a time.
use Rattle.std.proofs.Common.{◌≡◌, ℕ, ◌+◌, ◌<◌, Bool, List, [], ◌∷◌, ◌++◌, Option, Some, None, length, get_or, map, take, refl, sym, ap, ◌∙◌}
use Rattle.std.specs.Prelude.{filter, if◌then◌else◌}
use Rattle.std.specs.List.{AllByRecursion, cons_option, filter_map, range_with_len}
use Rattle.std.specs.Option.{option_to_list}
use Rattle.std.proofs.lemmas.List.{map-append, take_more}
use Rattle.std.proofs.lemmas.List.Elements.{filter-append, filter_map-append}
use Rattle.rev_events.proofs.AddsLemmas.{range-next}

one-more : {X : Type 0} (o : Option X) → cons_option o [] ≡ option_to_list o
one-more None = refl
one-more (Some x) = refl

pub mapped-next : {X : Type 0} (f : ℕ → Option X) (n : ℕ)
    → filter_map f (range_with_len 0 (n + 1)) ≡ filter_map f (range_with_len 0 n) ++ option_to_list (f n)
mapped-next f n =
    ap (filter_map f) (range-next n) ∙ filter_map-append f (range_with_len 0 n) (n ∷ [])
    ∙ ap (λ ys. filter_map f (range_with_len 0 n) ++ ys) (one-more (f n))

pub filtered-next : (q : ℕ → Bool) (n : ℕ)
    → filter q (range_with_len 0 (n + 1)) ≡ filter q (range_with_len 0 n) ++ (if q n then n ∷ [] else [])
filtered-next q n = ap (filter q) (range-next n) ∙ filter-append q (range_with_len 0 n) (n ∷ [])

-- the same of the elements of a list up to a place
pub picked-at : {A B : Type 0} (f : A → Option B) (xs : List A) (i : ℕ) (d : A) (done after : List B)
    → i < length xs → done ≡ filter_map f (take i xs) → after ≡ done ++ option_to_list (f (get_or xs i d))
    → after ≡ filter_map f (take (i + 1) xs)
picked-at f xs i d done after within so now =
    now ∙ ap (λ ys. ys ++ option_to_list (f (get_or xs i d))) so
    ∙ ap (λ ys. filter_map f (take i xs) ++ ys) (sym (one-more (f (get_or xs i d))))
    ∙ sym (filter_map-append f (take i xs) (get_or xs i d ∷ []))
    ∙ ap (filter_map f) (sym (take_more xs i d within))

pub filtered-at : {A : Type 0} (p : A → Bool) (xs : List A) (i : ℕ) (d : A) (done after : List A)
    → i < length xs → done ≡ filter p (take i xs) → after ≡ done ++ (if p (get_or xs i d) then get_or xs i d ∷ [] else [])
    → after ≡ filter p (take (i + 1) xs)
filtered-at p xs i d done after within so now =
    now ∙ ap (λ ys. ys ++ (if p (get_or xs i d) then get_or xs i d ∷ [] else [])) so
    ∙ sym (filter-append p (take i xs) (get_or xs i d ∷ []))
    ∙ ap (filter p) (sym (take_more xs i d within))

pub mapped-at : {A B : Type 0} (f : A → B) (xs : List A) (i : ℕ) (d : A) (done after : List B)
    → i < length xs → done ≡ map f (take i xs) → after ≡ done ++ f (get_or xs i d) ∷ []
    → after ≡ map f (take (i + 1) xs)
mapped-at f xs i d done after within so now =
    now ∙ ap (λ ys. ys ++ f (get_or xs i d) ∷ []) so ∙ sym (map-append f (take i xs) (get_or xs i d ∷ []))
    ∙ ap (map f) (sym (take_more xs i d within))

-- a fact of all, and of one more
pub all-push : {A : Type 0} (P : A → Type 0) (xs : List A) (x : A) → AllByRecursion P xs → P x
    → AllByRecursion P (xs ++ x ∷ [])
all-push P [] x all here = (here, tt)
all-push P (y ∷ ys) x all here = (all.0, all-push P ys x all.1 here)

-- the same where the element, or whether it passes, is told beside
pub mapped-item : {A B : Type 0} (f : A → B) (xs : List A) (i : ℕ) (x : A) (done after : List B)
    → i < length xs → x ≡ get_or xs i x → done ≡ map f (take i xs) → after ≡ done ++ f x ∷ []
    → after ≡ map f (take (i + 1) xs)
mapped-item f xs i x done after within is so now =
    mapped-at f xs i x done after within so (now ∙ ap (λ y. done ++ f y ∷ []) is)

pub filtered-by : {A : Type 0} (p : A → Bool) (xs : List A) (i : ℕ) (d : A) (b : Bool) (done after : List A)
    → i < length xs → done ≡ filter p (take i xs) → b ≡ p (get_or xs i d)
    → after ≡ done ++ (if b then get_or xs i d ∷ [] else []) → after ≡ filter p (take (i + 1) xs)
filtered-by p xs i d b done after within so passes now =
    filtered-at p xs i d done after within so
    (now ∙ ap (λ c. done ++ (if c then get_or xs i d ∷ [] else [])) passes)
