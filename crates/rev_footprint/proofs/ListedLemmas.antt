-- Cells in one list, each once: those that are written, and behind them the others.
use Rattle.std.proofs.Common.{◌≡◌, ℕ, zero, suc, Bool, true, false, not, cond, ◌||◌, ◌&&◌, List, [], ◌∷◌, ◌++◌, length, take, min, ◌≤◌, filter, arith, refl, sym, ap, ◌∙◌, true≢false}
use Rattle.std.proofs.Math.Seq.{take-append_seam}
use Rattle.std.proofs.lemmas.List.{length-take}
use Rattle.std.specs.List.{AllByRecursion, IsDistinct}
use Rattle.std.specs.Cmp.{eq_by_cmp_equiv}
use Rattle.std.specs.Ordering.{eq_by_cmp}
use Rattle.std.proofs.lemmas.List.Folds.{list_any-append}
use Rattle.std.proofs.lemmas.Map.Keys.{IsDistinct-cons, IsDistinct-head, IsDistinct-tail}
use Rattle.std.proofs.lemmas.Map.Views.{any-filter_same}
use Rattle.rev_causal.specs.Store.{among}
use Rattle.rev_cells.specs.declared.cell.Cell.{Cell}
use Rattle.rev_cells.specs.Keys.{cell_cmp}
use Rattle.rev_cells.proofs.EntryLemmas.{cells_total}
use Rattle.rev_footprint.specs.Adds.{Adds}
use Rattle.rev_footprint.specs.Listed.{others_than}

abbrev eq : Cell → Cell → Bool
eq = eq_by_cmp cell_cmp

-- what holds of each of two lists
each-append : (P : Cell → Type 0) (xs ys : List Cell) → AllByRecursion P xs → AllByRecursion P ys → AllByRecursion P (xs ++ ys)
each-append P [] ys h k = k
each-append P (x ∷ xs) ys h k = (h.0, each-append P xs ys h.1 k)

-- what a test says holds of each cell that passes
each-filter : (P : Cell → Type 0) (p : Cell → Bool) → ((q : Cell) → p q ≡ true → P q) → (ys : List Cell) → AllByRecursion P (filter p ys)
each-filter P p says [] = tt
each-filter P p says (y ∷ ys) =
    elim (p y) as (λ t. p y ≡ t → AllByRecursion P (cond t (y ∷ filter p ys) (filter p ys))) [
      | true ↦ λ e. (says y e, each-filter P p says ys)
      | false ↦ λ e. each-filter P p says ys
    ] refl

each-left : (P : Cell → Type 0) (p : Cell → Bool) (ys : List Cell) → AllByRecursion P ys → AllByRecursion P (filter p ys)
each-left P p [] h = tt
each-left P p (y ∷ ys) h =
    elim (p y) as (λ t. AllByRecursion P (cond t (y ∷ filter p ys) (filter p ys))) [
      | true ↦ (h.0, each-left P p ys h.1)
      | false ↦ each-left P p ys h.1
    ]

distinct-filter : (p : Cell → Bool) (ys : List Cell) → IsDistinct eq ys → IsDistinct eq (filter p ys)
distinct-filter p [] h = h
distinct-filter p (y ∷ ys) h =
    let rest = distinct-filter p ys (IsDistinct-tail eq y ys h) in
    elim (p y) as (λ t. IsDistinct eq (cond t (y ∷ filter p ys) (filter p ys))) [
      | true ↦ IsDistinct-cons eq y (filter p ys) (each-left (λ q. eq y q ≡ false) p ys (IsDistinct-head eq y ys h)) rest
      | false ↦ rest
    ]

no-or : (a b : Bool) → (a || b) ≡ false → (a ≡ false) × (b ≡ false)
no-or true b h = absurd (true≢false h)
no-or false b h = (refl, h)

-- cells, and others that are not among them
distinct-beside : (p : Cell → Bool) (xs ys : List Cell) → ((q : Cell) → p q ≡ true → among cell_cmp xs q ≡ false)
    → IsDistinct eq xs → IsDistinct eq ys → IsDistinct eq (xs ++ filter p ys)
distinct-beside p [] ys apart h k = distinct-filter p ys k
distinct-beside p (x ∷ xs) ys apart h k =
    IsDistinct-cons eq x (xs ++ filter p ys)
    (each-append (λ q. eq x q ≡ false) xs (filter p ys) (IsDistinct-head eq x xs h)
    (each-filter (λ q. eq x q ≡ false) p
    (λ q e. (eq_by_cmp_equiv cells_total).symm x q ∙ (no-or (eq q x) (among cell_cmp xs q) (apart q e)).0) ys))
    (distinct-beside p xs ys (λ q e. (no-or (eq q x) (among cell_cmp xs q) (apart q e)).1) (IsDistinct-tail eq x xs h) k)

not-true : (b : Bool) → not b ≡ true → b ≡ false
not-true true h = absurd (true≢false (sym h))
not-true false h = refl

pub distinct-others : (written cs : List Cell) → IsDistinct eq written → IsDistinct eq cs → IsDistinct eq (written ++ others_than written cs)
distinct-others written cs = distinct-beside (λ c. not (among cell_cmp written c)) written cs (λ q e. not-true (among cell_cmp written q) e)

-- a cell ties with those alone that are among the same cells
same-among : (c k : Cell) → eq c k ≡ true → (xs : List Cell) → among cell_cmp xs c ≡ among cell_cmp xs k
same-among c k e [] = refl
same-among c k e (x ∷ xs) = λ i. (eq_by_cmp_equiv cells_total).congr c k x e i || same-among c k e xs i

or-with : (a b : Bool) → (a || (not a && b)) ≡ (a || b)
or-with true b = refl
or-with false b = refl

-- with the others all are there
pub adds-others : (written cs : List Cell) → Adds written (written ++ others_than written cs) cs
adds-others written cs c =
    list_any-append (eq c) written (others_than written cs)
    ∙ ap (λ b. among cell_cmp written c || b)
    (any-filter_same (eq c) (λ k. not (among cell_cmp written k)) (not (among cell_cmp written c))
    (λ k e. ap not (sym (same-among c k e written))) cs)
    ∙ or-with (among cell_cmp written c) (among cell_cmp cs c)

-- in front stand those that are written
pub front-others : (written cs : List Cell) → take (length written) (written ++ others_than written cs) ≡ written
front-others written cs = take-append_seam written (others_than written cs)

-- so that they are no more than all
pub front-within : (front all : List Cell) → take (length front) all ≡ front → length front ≤ length all
front-within front all is =
    let least : min (length front) (length all) ≡ length front = sym (length-take (length front) all) ∙ ap length is in
    omega (arith, least)

each-take : (P : Cell → Type 0) (n : ℕ) (xs : List Cell) → AllByRecursion P xs → AllByRecursion P (take n xs)
each-take P zero xs h = tt
each-take P (suc n) [] h = tt
each-take P (suc n) (x ∷ xs) h = (h.0, each-take P n xs h.1)

-- the first cells of a list in which each stands once
pub distinct-take : (n : ℕ) (xs : List Cell) → IsDistinct eq xs → IsDistinct eq (take n xs)
unfolding IsDistinct
distinct-take zero xs h = tt
distinct-take (suc n) [] h = tt
distinct-take (suc n) (x ∷ xs) h = (each-take (λ y. eq x y ≡ false) n xs h.0, distinct-take n xs h.1)

or-right : (a b d : Bool) → (b ≡ true → d ≡ true) → (a || b) ≡ true → (a || d) ≡ true
or-right true b d f h = refl
or-right false b d f h = f h

-- are among all of them
pub among-take : (n : ℕ) (xs : List Cell) (c : Cell) → among cell_cmp (take n xs) c ≡ true → among cell_cmp xs c ≡ true
among-take zero xs c h = absurd (true≢false (sym h))
among-take (suc n) [] c h = h
among-take (suc n) (x ∷ xs) c h = or-right (eq c x) (among cell_cmp (take n xs) c) (among cell_cmp xs c) (among-take n xs c) h
