-- Functions that agree on the elements of a list, and what stands in lists that are made of others.
use Rattle.std.proofs.Common.{◌≡◌, ℕ, zero, suc, ◌+◌, Bool, true, false, cond, not, ◌||◌, List, [], ◌∷◌, ◌++◌, map, length, nat_lt, replicate, Option, Some, None, inl, inr, refl, sym, ap, ◌∙◌}
use Rattle.std.specs.List.{list_any, filter_map, flat_map, cons_option, position, position_or_len, filter}
use Rattle.rev_causal.specs.Order.{Has}
use Rattle.rev_dirty.specs.Reasons.{holds_at}

-- WHAT STANDS IN A LIST
pub in-front : {X : Type 0} (xs ys : List X) (x : X) → Has xs x → Has (xs ++ ys) x
in-front [] ys x h = absurd h
in-front (z ∷ xs) ys x (inl e) = inl e
in-front (z ∷ xs) ys x (inr h) = inr (in-front xs ys x h)

pub in-back : {X : Type 0} (xs ys : List X) (x : X) → Has ys x → Has (xs ++ ys) x
in-back [] ys x h = h
in-back (z ∷ xs) ys x h = inr (in-back xs ys x h)

pub in-map : {X Y : Type 0} (f : X → Y) (xs : List X) (x : X) → Has xs x → Has (map f xs) (f x)
in-map f [] x h = absurd h
in-map f (z ∷ xs) x (inl e) = inl (ap f e)
in-map f (z ∷ xs) x (inr h) = inr (in-map f xs x h)

pub in-flat : {X Y : Type 0} (f : X → List Y) (xs : List X) (x : X) (y : Y) → Has xs x → Has (f x) y → Has (flat_map f xs) y
in-flat f [] x y h k = absurd h
in-flat f (z ∷ xs) x y (inl e) k = in-front (f z) (flat_map f xs) y (moved (f x) (f z) (ap f (sym e)) y k)
  where
    moved : {Y : Type 0} (a b : List Y) → a ≡ b → (y : Y) → Has a y → Has b y
    moved a b e y k = rw e at k
in-flat f (z ∷ xs) x y (inr h) k = in-back (f z) (flat_map f xs) y (in-flat f xs x y h k)

kept-first : {Y : Type 0} (o : Option Y) (rest : List Y) (y : Y) → o ≡ Some y → Has (cons_option o rest) y
kept-first o rest y e = rw e (inl refl)

kept-later : {Y : Type 0} (o : Option Y) (rest : List Y) (y : Y) → Has rest y → Has (cons_option o rest) y
kept-later None rest y h = h
kept-later (Some z) rest y h = inr h

pub in-filter_map : {X Y : Type 0} (f : X → Option Y) (xs : List X) (x : X) (y : Y) → Has xs x → f x ≡ Some y → Has (filter_map f xs) y
in-filter_map f [] x y h k = absurd h
in-filter_map f (z ∷ xs) x y (inl e) k = kept-first (f z) (filter_map f xs) y (ap f e ∙ k)
in-filter_map f (z ∷ xs) x y (inr h) k = kept-later (f z) (filter_map f xs) y (in-filter_map f xs x y h k)

in-filter-by : {X : Type 0} (p : X → Bool) (z : X) (xs : List X) (x : X) (b : Bool) → p z ≡ b → Has (z ∷ xs) x → p x ≡ true → (Has xs x → Has (filter p xs) x) → Has (cond b (z ∷ filter p xs) (filter p xs)) x
in-filter-by p z xs x true e (inl here) k rest = inl here
in-filter-by p z xs x true e (inr h) k rest = inr (rest h)
in-filter-by p z xs x false e (inl here) k rest =
    let no : false ≡ true = sym e ∙ ap p here ∙ k in
    cc
in-filter-by p z xs x false e (inr h) k rest = rest h

pub in-filter : {X : Type 0} (p : X → Bool) (xs : List X) (x : X) → Has xs x → p x ≡ true → Has (filter p xs) x
in-filter p [] x h k = absurd h
in-filter p (z ∷ xs) x h k = in-filter-by p z xs x (p z) refl h k (λ r. in-filter p xs x r k)

-- FUNCTIONS THAT AGREE ON A LIST
pub map-same : {X Y : Type 0} (f g : X → Y) (xs : List X) → ((x : X) → Has xs x → f x ≡ g x) → map f xs ≡ map g xs
map-same f g [] same = refl
map-same f g (x ∷ xs) same = (λ i. same x (inl refl) i ∷ map-same f g xs (λ y h. same y (inr h)) i)

pub any-same : {X : Type 0} (f g : X → Bool) (xs : List X) → ((x : X) → Has xs x → f x ≡ g x) → list_any f xs ≡ list_any g xs
any-same f g [] same = refl
any-same f g (x ∷ xs) same = (λ i. same x (inl refl) i || any-same f g xs (λ y h. same y (inr h)) i)

pub filter-same : {X : Type 0} (f g : X → Bool) (xs : List X) → ((x : X) → f x ≡ g x) → filter f xs ≡ filter g xs
filter-same f g [] same = refl
filter-same f g (x ∷ xs) same = (λ i. cond (same x i) (x ∷ filter-same f g xs same i) (filter-same f g xs same i))

place-same : {X : Type 0} (f g : X → Bool) (xs : List X) → ((x : X) → Has xs x → f x ≡ g x) → position_or_len f xs ≡ position_or_len g xs
place-same f g [] same = refl
place-same f g (x ∷ xs) same = (λ i. cond (not (same x (inl refl) i)) (1 + place-same f g xs (λ y h. same y (inr h)) i) 0)

pub position-same : {X : Type 0} (f g : X → Bool) (xs : List X) → ((x : X) → Has xs x → f x ≡ g x) → position f xs ≡ position g xs
position-same f g xs same = ap (λ (n : ℕ). cond (nat_lt n (length xs)) (Some n) None) (place-same f g xs same)

pub holds-same : {X : Type 0} (f g : X → Bool) (xs : List X) (i : ℕ) → ((x : X) → Has xs x → f x ≡ g x) → holds_at f xs i ≡ holds_at g xs i
holds-same f g [] i same = refl
holds-same f g (x ∷ xs) zero same = same x (inl refl)
holds-same f g (x ∷ xs) (suc i) same = holds-same f g xs i (λ y h. same y (inr h))

pub any-map : {X Y : Type 0} (f : Y → Bool) (g : X → Y) (xs : List X) → list_any f (map g xs) ≡ list_any (λ x. f (g x)) xs
any-map f g [] = refl
any-map f g (x ∷ xs) = ap (λ b. f (g x) || b) (any-map f g xs)

-- a list of which nothing is given gives nothing anywhere
pub none-given : {X Y : Type 0} (f : X → Option Y) (xs : List X) → filter_map f xs ≡ [] → replicate (length xs) None ≡ map f xs
none-given f [] h = refl
none-given {Y = Y} f (x ∷ xs) h = by (f x) refl (none-given f xs)
  where
    by : (o : Option Y) → f x ≡ o → (filter_map f xs ≡ [] → replicate (length xs) None ≡ map f xs) → None ∷ replicate (length xs) None ≡ f x ∷ map f xs
    by None e rest =
        ap (λ (o : Option Y). o ∷ replicate (length xs) None) (sym e)
        ∙ ap (λ (os : List (Option Y)). f x ∷ os) (rest (ap (λ (o : Option Y). cons_option o (filter_map f xs)) (sym e) ∙ h))
    by (Some y) e rest = absurd (let no : y ∷ filter_map f xs ≡ [] = ap (λ (o : Option Y). cons_option o (filter_map f xs)) (sym e) ∙ h in cc)
