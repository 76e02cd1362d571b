-- A footprint by the cells that a slice has, and by the set of them.
use Rattle.std.proofs.Common.{◌≡◌, ℕ, Bool, true, false, cond, ◌||◌, ◌&&◌, List, [], ◌∷◌, filter, refl, sym, ap, ap₂, ◌∙◌, true≢false}
use Rattle.std.specs.FinSet as cells
use Rattle.std.specs.List.{list_any}
use Rattle.std.specs.Ordering.{eq_by_cmp}
use Rattle.std.specs.Cmp.{Equal-is, eq_by_cmp_equiv}
use Rattle.rev_causal.specs.Store.{Footprint, Footprint.Whole, Footprint.Cells, among, conflict}
use Rattle.rev_cells.specs.declared.cell.Cell.{Cell}
use Rattle.rev_cells.specs.Keys.{cell_cmp}
use Rattle.rev_cells.specs.Same.{cells_exact, cells_total}
use Rattle.rev_footprint.specs.Value.{FootprintValue, print_of}
use Rattle.rev_marks.specs.declared.table.Table.{Table}
use Rattle.rev_marks.specs.Table.{IsNoted, counted, is_marked, is_met, print_by, viewed}
use Rattle.rev_marks.specs.Masks.{has_mark}
use Rattle.rev_held.proofs.CellLemmas.{any-same, filters-same, set-same}

-- what is tested of cells is the same in lists with the same cells
has-passing : (p : Cell → Bool) (xs : List Cell) (c : Cell) → among cell_cmp xs c ≡ true → p c ≡ true → list_any p xs ≡ true
has-passing p [] c there passes = absurd (true≢false (sym there))
has-passing p (x ∷ xs) c there passes = by (eq_by_cmp cell_cmp c x) refl there (λ later. has-passing p xs c later passes)
  where
    or-true : (a b : Bool) → b ≡ true → (a || b) ≡ true
    or-true true b e = refl
    or-true false b e = e

    by : (b : Bool) → eq_by_cmp cell_cmp c x ≡ b → (b || among cell_cmp xs c) ≡ true → (among cell_cmp xs c ≡ true → list_any p xs ≡ true) → (p x || list_any p xs) ≡ true
    by true e h more = ap (λ b. b || list_any p xs) (sym (ap p (cells_exact c x ((Equal-is (cell_cmp c x)).0 e))) ∙ passes)
    by false e h more = or-true (p x) (list_any p xs) (more h)

passing-too : (p : Cell → Bool) (xs ys : List Cell) → ((c : Cell) → among cell_cmp xs c ≡ true → among cell_cmp ys c ≡ true) → list_any p xs ≡ true → list_any p ys ≡ true
passing-too p [] ys sub h = absurd (true≢false (sym h))
passing-too p (x ∷ xs) ys sub h = by (p x) refl h (passing-too p xs ys (λ c there. sub c (or-true (eq_by_cmp cell_cmp c x) (among cell_cmp xs c) there)))
  where
    or-true : (a b : Bool) → b ≡ true → (a || b) ≡ true
    or-true true b e = refl
    or-true false b e = e

    by : (b : Bool) → p x ≡ b → (b || list_any p xs) ≡ true → (list_any p xs ≡ true → list_any p ys ≡ true) → list_any p ys ≡ true
    by true e h more = has-passing p ys x (sub x (ap (λ b. b || among cell_cmp xs x) ((eq_by_cmp_equiv cells_total).refl x))) e
    by false e h more = more h

any-of-same : (p : Cell → Bool) (xs ys : List Cell) → ((c : Cell) → among cell_cmp xs c ≡ among cell_cmp ys c) → list_any p xs ≡ list_any p ys
any-of-same p xs ys same = by (list_any p xs) (list_any p ys) refl refl
  where
    by : (a b : Bool) → list_any p xs ≡ a → list_any p ys ≡ b → a ≡ b
    by true true e f = refl
    by false false e f = refl
    by true false e f = sym (passing-too p xs ys (λ c there. sym (same c) ∙ there) e) ∙ f
    by false true e f = sym (sym (passing-too p ys xs (λ c there. same c ∙ there) f) ∙ e)

module _ (g : FootprintValue) (beside : Bool) (whole : Bool) (reads writes : List Cell) (whole-is : whole ≡ g.whole) (reads-are : cells.from_list reads ≡ g.reads) (writes-are : writes ≡ g.writes) where
  same-reads : (c : Cell) → among cell_cmp (filter (counted beside) reads) c ≡ among cell_cmp (filter (counted beside) (cells.items g.reads)) c
  same-reads = filters-same (counted beside) reads (cells.items g.reads) (set-same reads g.reads reads-are)

  pub met-same : (table : Table) (i : ℕ) → is_met table i (viewed beside (print_by whole reads writes)) ≡ is_met table i (viewed beside (print_of g))
  met-same table i = (λ j. is_met table i (viewed beside (print_by (whole-is j) reads (writes-are j)))) ∙ by g.whole
    where
      by : (b : Bool) → is_met table i (viewed beside (print_by b reads g.writes)) ≡ is_met table i (viewed beside (cond b Whole (Cells (cells.items g.reads) g.writes)))
      by true = refl
      by false =
          ap (λ b. has_mark i table.whole || (b || (list_any (is_marked table.written.entries i) (filter (counted beside) g.writes) || list_any (is_marked table.read.entries i) (filter (counted beside) g.writes))))
          (any-of-same (is_marked table.written.entries i) (filter (counted beside) reads) (filter (counted beside) (cells.items g.reads)) same-reads)

  conflict-same : (f : Footprint Cell) → conflict cell_cmp (viewed beside (print_by whole reads writes)) f ≡ conflict cell_cmp (viewed beside (print_of g)) f
  conflict-same f = (λ j. conflict cell_cmp (viewed beside (print_by (whole-is j) reads (writes-are j))) f) ∙ by g.whole f
    where
      by : (b : Bool) (f : Footprint Cell) → conflict cell_cmp (viewed beside (print_by b reads g.writes)) f ≡ conflict cell_cmp (viewed beside (cond b Whole (Cells (cells.items g.reads) g.writes))) f
      by true f = refl
      by false Whole = refl
      by false (Cells rs ws) = ap₂ (λ a b. a || b) refl
          (any-same _ _ ws (λ c. ap (λ b. among cell_cmp (filter (counted beside) g.writes) c || b) (same-reads c)))

  pub noted-same : (old new : Table) (mask : ℕ) → IsNoted old new (viewed beside (print_by whole reads writes)) mask → IsNoted old new (viewed beside (print_of g)) mask
  noted-same old new mask noted i f = noted i f ∙ ap (λ b. is_met old i f || (has_mark i mask && b)) (conflict-same f)
