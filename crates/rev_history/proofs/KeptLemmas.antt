-- The cells of a kept footprint, one by one.
use Rattle.std.proofs.Common.{◌≡◌, ℕ, ◌<◌, ◌≤◌, Bool, List, [], ◌∷◌, None, Some, length, take, slice_get, get_or, zero, suc, arith, refl, sym, ap, ◌∙◌}
use Rattle.std.specs.FinSet as cells
use Rattle.std.proofs.lemmas.Option.{get_or_from_slice_get}
use Rattle.rev_cells.specs.declared.cell.Cell.{Cell}
use Rattle.rev_cells.specs.Places.{AreWithin, cells_at}
use Rattle.rev_cells.proofs.PlacesLemmas.{length_cells, some_within}
use Rattle.rev_footprint.specs.Value.{FootprintValue}

-- AT A PLACE
pub none_within : (cells : List Cell) (p : ℕ) → p < length cells → None ≡ slice_get cells p → ⊥
none_within cells p lt none = let some = some_within cells p lt in absent some.0 (none ∙ some.1)
  where
    absent : (c : Cell) → None ≡ Some c → ⊥
    absent c h = cc

pub within_places : (cells : List Cell) (ps : List ℕ) (xs : List Cell) (i : ℕ) → AreWithin cells ps → cells_at cells ps ≡ xs → i < length xs → i < length ps
within_places cells ps xs i within view lt =
    let many : length xs ≡ length ps = ap (λ (ys : List Cell). length ys) (sym view) ∙ length_cells cells ps within in
    omega (arith, lt, many)

-- a cell that was looked up
pub cell_read : (xs : List Cell) (i : ℕ) (c : Cell) → Some c ≡ slice_get xs i → c ≡ get_or xs i c
cell_read xs i c is = sym (get_or_from_slice_get xs i c c (sym is))

-- A COPY
taken_all : (xs : List Cell) → take (length xs) xs ≡ xs
taken_all [] = refl
taken_all (x ∷ xs) = ap (λ ys. x ∷ ys) (taken_all xs)

pub copied_all : (xs : List Cell) (i : ℕ) (copied : List Cell) → copied ≡ take i xs → length xs ≡ i → copied ≡ xs
copied_all xs i copied is done = is ∙ ap (λ n. take n xs) (sym done) ∙ taken_all xs

fewer : (n : ℕ) (xs : List Cell) → length (take n xs) ≤ length xs
fewer zero xs = omega arith
fewer (suc n) [] = omega arith
fewer (suc n) (x ∷ xs) = omega (arith, fewer n xs)

-- of what is read the first cells are written
module _ (f : FootprintValue) (reads copied : List Cell) (n : ℕ) (copied_is : copied ≡ reads) (first : take (length f.writes) reads ≡ f.writes) (many : n ≡ length f.writes) where
  pub copied_within : n ≤ length copied
  copied_within =
      let same : length copied ≡ length reads = ap (λ (xs : List Cell). length xs) copied_is in
      let written : length (take (length f.writes) reads) ≡ length f.writes = ap (λ (xs : List Cell). length xs) first in
      let less : length (take (length f.writes) reads) ≤ length reads = fewer (length f.writes) reads in
      omega arith

  pub copied_print : (whole : Bool) → cells.from_list reads ≡ f.reads → whole ≡ f.whole
      → (let g : FootprintValue = record { reads = cells.from_list copied; writes = take n copied; whole = whole } in g ≡ f)
  copied_print whole same whole_is = λ i.
      record {
        reads = (ap (λ (xs : List Cell). cells.from_list xs) copied_is ∙ same) i;
        writes = (ap (take n) copied_is ∙ ap (λ m. take m reads) many ∙ first) i;
        whole = whole_is i;
      }
