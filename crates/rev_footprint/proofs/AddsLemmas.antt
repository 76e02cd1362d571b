-- Sets of cells that grow.
use Rattle.std.proofs.Common.{◌≡◌, ℕ, ◌+◌, ◌<◌, Bool, true, false, cond, ◌||◌, List, [], ◌∷◌, ◌++◌, map, length, get_or, take, Option, refl, sym, ap, ◌∙◌}
use Rattle.std.specs.List.{list_any, filter_map, flat_map, cons_option}
use Rattle.std.specs.Ordering.{eq_by_cmp}
use Rattle.std.proofs.lemmas.List.{take_more, map-append}
use Rattle.std.proofs.lemmas.List.Elements.{filter_map-append}
use Rattle.std.proofs.lemmas.List.Folds.{list_any-append}
use Rattle.std.proofs.lemmas.Grind.{flat_map-append}
use Rattle.rev_cells.specs.declared.cell.Cell.{Cell}
use Rattle.rev_cells.specs.Keys.{cell_cmp}
use Rattle.rev_cells.proofs.EntryLemmas.{cell_eq, cell_eq-is, cell_eq_equiv}
use Rattle.rev_causal.specs.Store.{among}
use Rattle.rev_footprint.specs.Adds.{Adds}

or_none : (b : Bool) → b ≡ (b || false)
or_none true = refl
or_none false = refl

or_assoc : (a b c : Bool) → ((a || b) || c) ≡ (a || (b || c))
or_assoc true b c = refl
or_assoc false b c = refl

pub adds-nothing : (old : List Cell) → Adds old old []
adds-nothing old c = or_none (among cell_cmp old c)

pub adds-then : (a b d xs ys : List Cell) → Adds a b xs → Adds b d ys → Adds a d (xs ++ ys)
adds-then a b d xs ys f g c =
    g c ∙ ap (λ v. v || among cell_cmp ys c) (f c) ∙ or_assoc (among cell_cmp a c) (among cell_cmp xs c) (among cell_cmp ys c)
    ∙ ap (λ v. among cell_cmp a c || v) (sym (list_any-append (eq_by_cmp cell_cmp c) xs ys))

pub adds-as : (a b xs ys : List Cell) → xs ≡ ys → Adds a b xs → Adds a b ys
adds-as a b xs ys e f c = f c ∙ ap (λ ks. among cell_cmp a c || among cell_cmp ks c) e

one-more : (k old : Bool) → cond k true old ≡ (old || (k || false))
one-more true true = refl
one-more true false = refl
one-more false true = refl
one-more false false = refl

-- one cell that was inserted
pub adds-one : (old new : List Cell) (k : Cell) → ((q : Cell) → list_any (cell_eq q) new ≡ cond (cell_eq k q) true (list_any (cell_eq q) old)) → Adds old new (k ∷ [])
adds-one old new k h c =
    ap (λ (e : Cell → Cell → Bool). list_any (e c) new) (sym cell_eq-is)
    ∙ h c
    ∙ one-more (cell_eq k c) (list_any (cell_eq c) old)
    ∙ (λ i. list_any (cell_eq-is i c) old || (cell_eq_equiv.symm k c i || false))
    ∙ ap (λ (e : Cell → Cell → Bool). among cell_cmp old c || (e c k || false)) cell_eq-is

-- the elements of a list, one more of them
pub map-next : {X Y : Type 0} (f : X → Y) (xs : List X) (i : ℕ) (x d : X) → i < length xs → x ≡ get_or xs i d → map f (take i xs) ++ f x ∷ [] ≡ map f (take (i + 1) xs)
map-next f xs i x d within is =
    sym (ap (map f) (take_more xs i d within) ∙ map-append f (take i xs) (get_or xs i d ∷ []) ∙ ap (λ y. map f (take i xs) ++ f y ∷ []) (sym is))

pub flat-next : {X Y : Type 0} (f : X → List Y) (xs : List X) (i : ℕ) (x d : X) → i < length xs → x ≡ get_or xs i d → flat_map f (take i xs) ++ f x ≡ flat_map f (take (i + 1) xs)
flat-next f xs i x d within is =
    sym
    (ap (flat_map f) (take_more xs i d within) ∙ flat_map-append f (take i xs) (get_or xs i d ∷ []) ∙ ap (λ y. flat_map f (take i xs) ++ flat_map f (y ∷ [])) (sym is)
    ∙ ap (λ ys. flat_map f (take i xs) ++ ys) (no-more (f x)))
  where
    no-more : {Y : Type 0} (ys : List Y) → ys ++ [] ≡ ys
    no-more [] = refl
    no-more (y ∷ ys) = ap (λ zs. y ∷ zs) (no-more ys)

pub kept-next : {X Y : Type 0} (h : X → Option Y) (xs : List X) (i : ℕ) (x d : X) → i < length xs → x ≡ get_or xs i d → filter_map h (take i xs) ++ cons_option (h x) [] ≡ filter_map h (take (i + 1) xs)
kept-next h xs i x d within is =
    sym (ap (filter_map h) (take_more xs i d within) ∙ filter_map-append h (take i xs) (get_or xs i d ∷ []) ∙ ap (λ y. filter_map h (take i xs) ++ cons_option (h y) []) (sym is))

-- the step of a loop
pub adds-next : (a b e front more whole : List Cell) → Adds a b front → Adds b e more → front ++ more ≡ whole → Adds a e whole
adds-next a b e front more whole f g same = adds-as a e (front ++ more) whole same (adds-then a b e front more f g)

-- from a set that is empty
pub adds-from : (old none new cells : List Cell) → old ≡ none → Adds old new cells → Adds none new cells
adds-from old none new cells e f c = f c ∙ ap (λ ks. among cell_cmp ks c || among cell_cmp cells c) e
