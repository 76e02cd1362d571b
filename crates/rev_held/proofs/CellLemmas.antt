-- Lists of cells, by what they have.
use Rattle.std.proofs.Common.{◌≡◌, Bool, true, false, cond, ◌||◌, ◌&&◌, List, [], ◌∷◌, refl, sym, ap, ap₂, ◌∙◌, true≢false}
use Rattle.std.specs.Prelude.{filter}
use Rattle.std.specs.FinSet as cells
use Rattle.std.specs.List.{list_any}
use Rattle.std.specs.Ordering.{eq_by_cmp}
use Rattle.std.specs.Cmp.{eq_by_cmp_equiv, Equal-is}
use Rattle.rev_causal.specs.Store.{Footprint, Footprint.Whole, Footprint.Cells, among, conflict}
use Rattle.rev_cells.specs.declared.cell.Cell.{Cell}
use Rattle.rev_cells.specs.Keys.{cell_cmp}
use Rattle.rev_cells.proofs.EntryLemmas.{cell_eq, cell_eq-is, cells_total, cells_exact}

-- TESTS OF SOME OF A LIST
or-four : (a b c d : Bool) → ((a || b) || (c || d)) ≡ ((a || c) || (b || d))
or-four true b c d = refl
or-four false true true d = refl
or-four false true false d = refl
or-four false false c d = refl

pub any-same : {A : Type 0} (p q : A → Bool) (xs : List A) → ((k : A) → p k ≡ q k) → list_any p xs ≡ list_any q xs
any-same p q [] h = refl
any-same p q (x ∷ xs) h = ap₂ (λ a b. a || b) (h x) (any-same p q xs h)

any-either : {A : Type 0} (p q : A → Bool) (xs : List A) → list_any (λ k. p k || q k) xs ≡ (list_any p xs || list_any q xs)
any-either p q [] = refl
any-either p q (x ∷ xs) = ap (λ b. (p x || q x) || b) (any-either p q xs) ∙ or-four (p x) (q x) (list_any p xs) (list_any q xs)

pub any-none : {A : Type 0} (xs : List A) → list_any (λ x. false) xs ≡ false
any-none [] = refl
any-none (x ∷ xs) = any-none xs

any-swap : {A B : Type 0} (e : A → B → Bool) (ys : List A) (xs : List B) → list_any (λ y. list_any (e y) xs) ys ≡ list_any (λ x. list_any (λ y. e y x) ys) xs
any-swap e [] xs = sym (any-none xs)
any-swap e (y ∷ ys) xs = ap (λ b. list_any (e y) xs || b) (any-swap e ys xs) ∙ sym (any-either (e y) (λ x. list_any (λ z. e z x) ys) xs)

pub any-filter : {A : Type 0} (p q : A → Bool) (xs : List A) → list_any (λ c. p c && q c) xs ≡ list_any q (filter p xs)
any-filter p q [] = refl
any-filter p q (x ∷ xs) = by (p x) (any-filter p q xs)
  where
    by : (b : Bool) → list_any (λ c. p c && q c) xs ≡ list_any q (filter p xs)
        → ((b && q x) || list_any (λ c. p c && q c) xs) ≡ list_any q (cond b (x ∷ filter p xs) (filter p xs))
    by true rest = ap (λ r. q x || r) rest
    by false rest = rest

-- CELLS IN LISTS
pub any-flip : (xs ys : List Cell) → list_any (among cell_cmp xs) ys ≡ list_any (among cell_cmp ys) xs
any-flip xs ys =
    any-swap (eq_by_cmp cell_cmp) ys xs
    ∙ any-same (λ x. list_any (λ y. eq_by_cmp cell_cmp y x) ys) (among cell_cmp ys) xs
    (λ x. any-same (λ y. eq_by_cmp cell_cmp y x) (eq_by_cmp cell_cmp x) ys (λ y. (eq_by_cmp_equiv cells_total).symm y x))

pub same-cell : (a b : Cell) → eq_by_cmp cell_cmp a b ≡ true → a ≡ b
same-cell a b h = cells_exact a b ((Equal-is (cell_cmp a b)).0 h)

kept-or-not : (b q e r rest : Bool) → rest ≡ (q && r) → (e ≡ true → b ≡ q) → cond b (e || rest) rest ≡ (q && (e || r))
kept-or-not true true true r rest h k = refl
kept-or-not true true false r rest h k = h
kept-or-not true false true r rest h k = absurd (true≢false (k refl))
kept-or-not true false false r rest h k = h
kept-or-not false true true r rest h k = absurd (true≢false (sym (k refl)))
kept-or-not false true false r rest h k = h
kept-or-not false false e r rest h k = h

pub among-filter : (p : Cell → Bool) (xs : List Cell) (c : Cell) → among cell_cmp (filter p xs) c ≡ (p c && among cell_cmp xs c)
among-filter p [] c = by (p c)
  where
    by : (b : Bool) → false ≡ (b && false)
    by true = refl
    by false = refl
among-filter p (x ∷ xs) c =
    told (p x)
    ∙ kept-or-not (p x) (p c) (eq_by_cmp cell_cmp c x) (among cell_cmp xs c) (among cell_cmp (filter p xs) c) (among-filter p xs c)
    (λ same. ap p (sym (same-cell c x same)))
  where
    told : (b : Bool) → among cell_cmp (cond b (x ∷ filter p xs) (filter p xs)) c ≡ cond b (eq_by_cmp cell_cmp c x || among cell_cmp (filter p xs) c) (among cell_cmp (filter p xs) c)
    told true = refl
    told false = refl

-- a list and the set of its cells have the same
pub set-same : (xs : List Cell) (s : cells.FinSet cell_cmp) → cells.from_list xs ≡ s → (c : Cell) → among cell_cmp xs c ≡ among cell_cmp (cells.items s) c
set-same xs s is c = sym (cells.contains-from_list cells_total xs c) ∙ ap (λ t. cells.contains t c) is ∙ cells.contains-items s c

pub filters-same : (p : Cell → Bool) (xs ys : List Cell) → ((c : Cell) → among cell_cmp xs c ≡ among cell_cmp ys c) → (c : Cell) → among cell_cmp (filter p xs) c ≡ among cell_cmp (filter p ys) c
filters-same p xs ys same c = among-filter p xs c ∙ ap (λ b. p c && b) (same c) ∙ sym (among-filter p ys c)

-- CONFLICTS, SEEN FROM THE OTHER SIDE
abbrev pub seen : List Cell → List Cell → List Cell → List Cell → Bool
seen r w reads writes = list_any (among cell_cmp w) reads || (list_any (among cell_cmp w) writes || list_any (among cell_cmp r) writes)

pub conflict-seen : (r w reads writes : List Cell) → conflict cell_cmp (Cells r w) (Cells reads writes) ≡ seen r w reads writes
conflict-seen r w reads writes =
    ap₂ (λ a b. a || b)
    (any-either (among cell_cmp writes) (among cell_cmp reads) w ∙ ap₂ (λ a b. a || b) (any-flip writes w) (any-flip reads w))
    (any-either (among cell_cmp w) (among cell_cmp r) writes)
    ∙ by (list_any (among cell_cmp w) writes) (list_any (among cell_cmp w) reads) (list_any (among cell_cmp r) writes)
  where
    by : (a b c : Bool) → ((a || b) || (a || c)) ≡ (b || (a || c))
    by true true c = refl
    by true false c = refl
    by false b c = refl

pub whole-second : (f : Footprint Cell) → conflict cell_cmp f Whole ≡ true
whole-second Whole = refl
whole-second (Cells r w) = refl

-- what a set says that it has
pub set-has : (xs : List Cell) (c : Cell) → list_any (cell_eq c) xs ≡ among cell_cmp xs c
set-has xs c = ap (λ (e : Cell → Cell → Bool). list_any (e c) xs) cell_eq-is
