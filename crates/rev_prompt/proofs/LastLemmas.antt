-- What was found in a list so far, and with one more element.
use Rattle.std.proofs.Common.{◌≡◌, ℕ, ◌+◌, ◌<◌, Bool, true, false, cond, List, [], ◌∷◌, ◌++◌, length, get_or, take, map, reverse, Option, Some, None, refl, sym, ap, ◌∙◌, arith}
use Rattle.std.specs.Prelude.{filter, find, if◌then◌else◌}
use Rattle.std.specs.Option.{option_map}
use Rattle.std.proofs.lemmas.List.{get_or_default, map-append, reverse-append, take_more}
use Rattle.std.proofs.lemmas.List.Elements.{filter-append}

-- the elements up to a place
pub so-far : {A : Type 0} (xs : List A) (i : ℕ) (x : A) → i < length xs → x ≡ get_or xs i x
    → take (i + 1) xs ≡ take i xs ++ x ∷ []
so-far xs i x within is = take_more xs i x within ∙ ap (λ z. take i xs ++ z ∷ []) (sym is)

-- the last that passes, as it is told
pub last-told : {A B : Type 0} (p : A → Bool) (f : A → B) (xs : List A) (i : ℕ) (x : A) (before after : Option B)
    → i < length xs → x ≡ get_or xs i x → before ≡ option_map f (find p (reverse (take i xs)))
    → after ≡ (if p x then Some (f x) else before) → after ≡ option_map f (find p (reverse (take (i + 1) xs)))
last-told {A = A} p f xs i x before after within is so now =
    now ∙ by (p x) (find p (reverse (take i xs))) so
    ∙ ap (λ ys. option_map f (find p ys)) (sym (ap reverse (so-far xs i x within is) ∙ reverse-append (take i xs) (x ∷ [])))
  where
    by : (b : Bool) (o : Option A) → before ≡ option_map f o
        → (if b then Some (f x) else before) ≡ option_map f (cond b (Some x) o)
    by true o so = refl
    by false o so = so

-- the last that passes
pub last-next : {A : Type 0} (p : A → Bool) (xs : List A) (i : ℕ) (x : A) (before after : Option A)
    → i < length xs → x ≡ get_or xs i x → before ≡ find p (reverse (take i xs))
    → after ≡ (if p x then Some x else before) → after ≡ find p (reverse (take (i + 1) xs))
last-next {A = A} p xs i x before after within is so now =
    now ∙ by (p x) (find p (reverse (take i xs))) so
    ∙ ap (find p) (sym (ap reverse (so-far xs i x within is) ∙ reverse-append (take i xs) (x ∷ [])))
  where
    by : (b : Bool) (o : Option A) → before ≡ o → (if b then Some x else before) ≡ cond b (Some x) o
    by true o so = refl
    by false o so = so

-- those that pass, as they are told
pub passing-next : {A B : Type 0} (p : A → Bool) (f : A → B) (xs : List A) (i : ℕ) (x : A) (done after : List B)
    → i < length xs → x ≡ get_or xs i x → done ≡ map f (filter p (take i xs))
    → after ≡ done ++ (if p x then f x ∷ [] else []) → after ≡ map f (filter p (take (i + 1) xs))
passing-next p f xs i x done after within is so now =
    now ∙ ap (λ ys. ys ++ (if p x then f x ∷ [] else [])) so ∙ by (p x)
    ∙ sym (map-append f (filter p (take i xs)) (filter p (x ∷ [])))
    ∙ ap (map f) (sym (ap (filter p) (so-far xs i x within is) ∙ filter-append p (take i xs) (x ∷ [])))
  where
    by : (b : Bool) → map f (filter p (take i xs)) ++ (if b then f x ∷ [] else [])
        ≡ map f (filter p (take i xs)) ++ map f (cond b (x ∷ []) [])
    by true = refl
    by false = refl

-- those that pass, told one by one
pub told-next : {A B : Type 0} (f : A → B) (xs : List A) (i : ℕ) (x : A) (done after : List B) (y : B)
    → i < length xs → x ≡ get_or xs i x → done ≡ map f (take i xs) → y ≡ f x → after ≡ done ++ y ∷ []
    → after ≡ map f (take (i + 1) xs)
told-next f xs i x done after y within is so told now =
    now ∙ (λ j. so j ++ told j ∷ []) ∙ sym (map-append f (take i xs) (x ∷ []))
    ∙ ap (map f) (sym (so-far xs i x within is))

-- the same of the element that stands at a place
pub last-told-at : {A B : Type 0} (p : A → Bool) (f : A → B) (xs : List A) (i : ℕ) (d : A) (before after : Option B)
    → i < length xs → before ≡ option_map f (find p (reverse (take i xs)))
    → after ≡ (if p (get_or xs i d) then Some (f (get_or xs i d)) else before)
    → after ≡ option_map f (find p (reverse (take (i + 1) xs)))
last-told-at p f xs i d before after within so now =
    last-told p f xs i (get_or xs i d) before after within (get_or_default xs i d (get_or xs i d) within) so now

pub passing-at : {A B : Type 0} (p : A → Bool) (f : A → B) (xs : List A) (i : ℕ) (d : A) (done after : List B)
    → i < length xs → done ≡ map f (filter p (take i xs))
    → after ≡ done ++ (if p (get_or xs i d) then f (get_or xs i d) ∷ [] else [])
    → after ≡ map f (filter p (take (i + 1) xs))
passing-at p f xs i d done after within so now =
    passing-next p f xs i (get_or xs i d) done after within (get_or_default xs i d (get_or xs i d) within) so now

-- the last that passes, from the end on: it is the last element, or it stands before that
last-of : {A : Type 0} (p : A → Bool) (before : List A) (x : A)
    → find p (reverse (before ++ x ∷ [])) ≡ cond (p x) (Some x) (find p (reverse before))
last-of p before x = ap (find p) (reverse-append before (x ∷ []))

pub last-found : {A : Type 0} (p : A → Bool) (rest before : List A) (x : A) (last : Option A) (passes : Bool)
    → rest ≡ before ++ x ∷ [] → passes ≡ p x → passes ≡ true → find p (reverse rest) ≡ last → Some x ≡ last
last-found p rest before x last passes is tested holds so =
    sym (ap (λ (b : Bool). cond b (Some x) (find p (reverse before))) (sym tested ∙ holds))
    ∙ sym (last-of p before x) ∙ sym (ap (λ xs. find p (reverse xs)) is) ∙ so

pub last-before : {A : Type 0} (p : A → Bool) (rest before : List A) (x : A) (last : Option A) (passes : Bool)
    → rest ≡ before ++ x ∷ [] → passes ≡ p x → passes ≡ false → find p (reverse rest) ≡ last
    → find p (reverse before) ≡ last
last-before p rest before x last passes is tested fails so =
    sym (ap (λ (b : Bool). cond b (Some x) (find p (reverse before))) (sym tested ∙ fails))
    ∙ sym (last-of p before x) ∙ sym (ap (λ xs. find p (reverse xs)) is) ∙ so

pub last-none : {A : Type 0} (p : A → Bool) (rest : List A) (last : Option A) → length rest ≡ 0
    → find p (reverse rest) ≡ last → None ≡ last
last-none p [] last none so = so
last-none p (x ∷ xs) last none so = absurd (omega (arith, none))
