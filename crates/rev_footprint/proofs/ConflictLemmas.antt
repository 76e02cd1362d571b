-- When footprints conflict, and cells that are looked for one by one.
use Rattle.std.proofs.Common.{◌≡◌, ℕ, ◌+◌, ◌<◌, Bool, true, false, ◌||◌, List, [], ◌∷◌, length, take, get_or, zero, suc, refl, sym, ap, ap₂, ◌∙◌, if◌then◌else◌}
use Rattle.std.specs.FinSet as cells
use Rattle.std.specs.List.{list_any}
use Rattle.std.specs.Ordering.{eq_by_cmp}
use Rattle.std.proofs.lemmas.List.Folds.{list_any_at, list_any_more}
use Rattle.rev_causal.specs.Store.{Footprint, Footprint.Whole, Footprint.Cells, among, conflict}
use Rattle.rev_cells.specs.declared.cell.Cell.{Cell}
use Rattle.rev_cells.specs.Keys.{cell_cmp}
use Rattle.rev_cells.proofs.EntryLemmas.{cells_total}
use Rattle.rev_footprint.specs.Value.{FootprintValue, names, print_of}

-- ONE BY ONE
module _ (p : Cell → Bool) (xs : List Cell) (i : ℕ) where
  pub some_here : (c : Cell) → i < length xs → c ≡ get_or xs i c → p c ≡ true → true ≡ list_any p xs
  some_here c lt is passes = sym (list_any_at p xs i c lt (ap p (sym is) ∙ passes))

  pub none_here : (c : Cell) → i < length xs → c ≡ get_or xs i c → p c ≡ false → list_any p (take i xs) ≡ false → list_any p (take (i + 1) xs) ≡ false
  none_here c lt is fails before = list_any_more p xs i c lt ∙ (λ j. before j || (ap p (sym is) ∙ fails) j)

-- CELLS THAT ARE READ OR WRITTEN
-- the cells of a list and of the set of them
read_there : (xs : List Cell) (s : cells.FinSet cell_cmp) → cells.from_list xs ≡ s → (c : Cell) → among cell_cmp xs c ≡ among cell_cmp (cells.items s) c
read_there xs s is c = sym (cells.contains-from_list cells_total xs c) ∙ ap (λ t. cells.contains t c) is ∙ cells.contains-items s c

-- what is among the first cells is among all
first_among : (n : ℕ) (xs : List Cell) (c : Cell) → (among cell_cmp (take n xs) c || among cell_cmp xs c) ≡ among cell_cmp xs c
first_among zero xs c = refl
first_among (suc n) [] c = refl
first_among (suc n) (x ∷ xs) c = by (eq_by_cmp cell_cmp c x) (first_among n xs c)
  where
    by : (b : Bool) → (among cell_cmp (take n xs) c || among cell_cmp xs c) ≡ among cell_cmp xs c
        → ((b || among cell_cmp (take n xs) c) || (b || among cell_cmp xs c)) ≡ (b || among cell_cmp xs c)
    by true rest = refl
    by false rest = rest

-- the written cells stand first among those that are read
pub accessed_read : (f : FootprintValue) (reads : List Cell) (c : Cell) → cells.from_list reads ≡ f.reads → take (length f.writes) reads ≡ f.writes
    → among cell_cmp reads c ≡ names f c
accessed_read f reads c same first =
    sym (first_among (length f.writes) reads c)
    ∙ ap₂ (λ a b. a || b) (ap (λ ws. among cell_cmp ws c) first) (read_there reads f.reads same c)

-- CONFLICTS
print_whole : (f : FootprintValue) → f.whole ≡ true → print_of f ≡ Whole
print_whole f h = ap (λ b. if b then Whole else Cells (cells.items f.reads) f.writes) h

print_cells : (f : FootprintValue) → f.whole ≡ false → print_of f ≡ Cells (cells.items f.reads) f.writes
print_cells f h = ap (λ b. if b then Whole else Cells (cells.items f.reads) f.writes) h

whole_right : (f : Footprint Cell) → true ≡ conflict cell_cmp f Whole
whole_right Whole = refl
whole_right (Cells reads writes) = refl

module _ (f g : FootprintValue) where
  pub first_whole : f.whole ≡ true → true ≡ conflict cell_cmp (print_of f) (print_of g)
  first_whole h = sym (ap (λ p. conflict cell_cmp p (print_of g)) (print_whole f h))

  pub second_whole : g.whole ≡ true → true ≡ conflict cell_cmp (print_of f) (print_of g)
  second_whole h = whole_right (print_of f) ∙ sym (ap (conflict cell_cmp (print_of f)) (print_whole g h))

  module _ (a : Bool) (part : f.whole ≡ false) (part' : g.whole ≡ false) (is : a ≡ list_any (names g) f.writes) where
    by_cells : (list_any (names g) f.writes || list_any (names f) g.writes) ≡ conflict cell_cmp (print_of f) (print_of g)
    by_cells = λ i. conflict cell_cmp (sym (print_cells f part) i) (sym (print_cells g part') i)

    pub first_writes : a ≡ true → true ≡ conflict cell_cmp (print_of f) (print_of g)
    first_writes h = sym (ap (λ x. x || list_any (names f) g.writes) (sym is ∙ h)) ∙ by_cells

    pub second_writes : (b : Bool) → a ≡ false → b ≡ list_any (names f) g.writes → b ≡ conflict cell_cmp (print_of f) (print_of g)
    second_writes b h found = found ∙ sym (ap (λ x. x || list_any (names f) g.writes) (sym is ∙ h)) ∙ by_cells
