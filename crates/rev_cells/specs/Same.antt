-- When two cells are one: the test of the code and the order of cells agree, and hold of equal cells alone.
use Rattle.std.proofs.Common.{◌≡◌, ℕ, ◌==◌, Bool, true, false, ◌&&◌, [], ◌∷◌, refl, sym, ap, ◌∙◌, subst}
use Rattle.std.specs.Ordering.{eq_by_cmp, nat_cmp}
use Rattle.std.specs.Cmp.{IsTotalOrder, on_total, IsEquivalence, Equal-is, eq_by_cmp_equiv}
use Rattle.std.specs.Cmp.Lexicographic.{slice_cmp, nat_list_cmp_total, texts_ties}
use Rattle.std.specs.FinMap.{IsAntisymmetric, slice_cmp-IsAntisymmetric, nat_cmp-IsAntisymmetric}
use Rattle.rev_cells.specs.declared.cell.Cell.{Cell}
use Rattle.rev_cells.specs.declared.cell.Cell.TheVariants as cell
use Rattle.rev_cells.specs.contracts.cell.CellPartialEq.TheImpl as same
use Rattle.rev_cells.specs.Keys.{cell_key, cell_of, cell_of-cell_key, cell_cmp}

pub cells_total : IsTotalOrder cell_cmp
cells_total = on_total cell_key nat_list_cmp_total

-- cells with one key are one
one_key : (a b : Cell) → cell_key a ≡ cell_key b → a ≡ b
one_key a b e = sym (cell_of-cell_key a) ∙ ap cell_of e ∙ cell_of-cell_key b

-- cells that compare alike are one
pub cells_exact : IsAntisymmetric cell_cmp
cells_exact a b h = one_key a b (slice_cmp-IsAntisymmetric nat_cmp-IsAntisymmetric _ _ h)

abbrev pub cell_eq : Cell → Cell → Bool
cell_eq = same.ghosts.eq

and_true : (b : Bool) → b ≡ (b && true)
and_true true = refl
and_true false = refl

-- numbers that are equal, and lists of them that tie
one_tie : (p q : ℕ) → (p == q) ≡ eq_by_cmp (slice_cmp nat_cmp) (p ∷ []) (q ∷ [])
one_tie p q = and_true (p == q) ∙ texts_ties (p ∷ []) (q ∷ [])

two_tie : (p i q j : ℕ) → ((p == q) && (i == j)) ≡ eq_by_cmp (slice_cmp nat_cmp) (p ∷ i ∷ []) (q ∷ j ∷ [])
two_tie p i q j = ap (λ b. (p == q) && b) (and_true (i == j)) ∙ texts_ties (p ∷ i ∷ []) (q ∷ j ∷ [])

-- `==` holds where the order ties
pub cell_eq-cmp : (a b : Cell) → cell_eq a b ≡ eq_by_cmp cell_cmp a b
cell_eq-cmp (cell.Stamp p) (cell.Stamp q) = texts_ties p q
cell_eq-cmp (cell.Mark p) (cell.Mark q) = one_tie p q
cell_eq-cmp (cell.Job p) (cell.Job q) = one_tie p q
cell_eq-cmp (cell.Slot p i) (cell.Slot q j) = two_tie p i q j
cell_eq-cmp (cell.Depth p) (cell.Depth q) = one_tie p q
cell_eq-cmp (cell.Built p) (cell.Built q) = texts_ties p q
cell_eq-cmp (cell.Deps p) (cell.Deps q) = texts_ties p q
cell_eq-cmp cell.Halted cell.Halted = refl
cell_eq-cmp _ _ = refl

-- the two tests are one
pub cell_eq-is : cell_eq ≡ eq_by_cmp cell_cmp
cell_eq-is i a b = cell_eq-cmp a b i

-- cells that `==` holds of are one
pub cell_eq-exact : (a b : Cell) → cell_eq a b ≡ true → a ≡ b
cell_eq-exact a b h = cells_exact a b ((Equal-is (cell_cmp a b)).0 (sym (cell_eq-cmp a b) ∙ h))

pub cell_eq_equiv : IsEquivalence cell_eq
cell_eq_equiv = subst IsEquivalence (sym cell_eq-is) (eq_by_cmp_equiv cells_total)
