-- Lists of slices as lists of texts.
use Rattle.std.proofs.Common.{◌≡◌, ℕ, zero, suc, ◌<◌, ◌≤◌, ◌-◌, ◌++◌, List, [], ◌∷◌, length, get_or, take, drop, refl, sym, ap, ◌∙◌, arith}
use Rattle.std.proofs.Math.ListN.{get_or-map, length-map}
use Rattle.std.proofs.lemmas.List.{drop-map, length-drop, take_all}
use Rattle.std.specs.Borrow.{Bor}
use Rattle.std.specs.Cow.{cow_slice_items}
use Rattle.std.specs.Global.{Vec, Global}
use Rattle.std.specs.declared.borrow.CowSlice.{CowSlice}
use Rattle.rev_fields.specs.Parts.{slices_of, vectors_of, lent_of}

pub length-slices_of : (xs : List (Bor (List ℕ))) → length (slices_of xs) ≡ length xs
length-slices_of xs = length-map xs (λ s. s.now)

pub at-slices_of : (xs : List (Bor (List ℕ))) (i : ℕ) → get_or (slices_of xs) i [] ≡ (get_or xs i (record { ref_ptr = (0, 0); now = [] })).now
at-slices_of xs i = get_or-map (λ s. s.now) xs i (record { ref_ptr = (0, 0); now = [] })

pub within-slices_of : (xs : List (Bor (List ℕ))) (i : ℕ) → i < length xs → i < length (slices_of xs)
within-slices_of xs i h = omega (arith, length-slices_of xs)

pub past-slices_of : (xs : List (Bor (List ℕ))) (i : ℕ) → length xs ≤ i → length (slices_of xs) ≤ i
past-slices_of xs i h = omega (arith, length-slices_of xs)

pub vectors_of-push : (xs : List (Vec ℕ)) (x : Vec ℕ) → vectors_of (xs ++ x ∷ []) ≡ vectors_of xs ++ x.items ∷ []
vectors_of-push [] x = refl
vectors_of-push (y ∷ ys) x = ap (λ l. y.items ∷ l) (vectors_of-push ys x)

pub slices_of-drop : (n : ℕ) (xs : List (Bor (List ℕ))) → slices_of (drop n xs) ≡ drop n (slices_of xs)
slices_of-drop n xs = sym (drop-map (λ (s : Bor (List ℕ)). s.now) n xs)

tail_is : (n : ℕ) (xs : List (Bor (List ℕ))) → take (length xs - n) (drop n xs) ≡ drop n xs
tail_is n xs = take_all (length xs - n) (drop n xs) (omega (arith, length-drop n xs))

-- what stands from a place on
pub slices_of-tail : (n : ℕ) (xs : List (Bor (List ℕ))) → slices_of (take (length xs - n) (drop n xs)) ≡ drop n (slices_of xs)
slices_of-tail n xs = ap slices_of (tail_is n xs) ∙ slices_of-drop n xs

pub length-vectors_of : (xs : List (Vec ℕ)) → length (vectors_of xs) ≡ length xs
length-vectors_of xs = length-map xs (λ v. v.items)

-- the text of the vector at a place
pub at-vectors_of : (xs : List (Vec ℕ)) (i : ℕ) (x : Vec ℕ) → i < length xs → x ≡ get_or xs i x → get_or (vectors_of xs) i [] ≡ x.items
at-vectors_of [] i x lt e = absurd (omega arith)
at-vectors_of (y ∷ ys) zero x lt e = ap (λ (v : Vec ℕ). v.items) (sym e)
at-vectors_of (y ∷ ys) (suc i) x lt e = at-vectors_of ys i x (omega arith) e

pub lent_of-push : (xs : List (CowSlice ℕ Global)) (x : CowSlice ℕ Global) → lent_of (xs ++ x ∷ []) ≡ lent_of xs ++ cow_slice_items x ∷ []
lent_of-push [] x = refl
lent_of-push (y ∷ ys) x = ap (λ l. cow_slice_items y ∷ l) (lent_of-push ys x)

pub length-lent_of : (xs : List (CowSlice ℕ Global)) → length (lent_of xs) ≡ length xs
length-lent_of xs = length-map xs (λ t. cow_slice_items t)

-- the text at a place
pub at-lent_of : (xs : List (CowSlice ℕ Global)) (i : ℕ) (x : CowSlice ℕ Global) → i < length xs → x ≡ get_or xs i x
    → get_or (lent_of xs) i [] ≡ cow_slice_items x
at-lent_of [] i x lt e = absurd (omega arith)
at-lent_of (y ∷ ys) zero x lt e = ap (λ (t : CowSlice ℕ Global). cow_slice_items t) (sym e)
at-lent_of (y ∷ ys) (suc i) x lt e = at-lent_of ys i x (omega arith) e
