-- What the masks hold of one of the asked events.
use Rattle.std.specs.Prelude.{◌≡◌, ℕ, ◌<◌, Bool, true, false, List, [], Option, Some, drop, is_some}
use Rattle.std.specs.List.{AllByRecursion}
use Rattle.rev_causal.specs.Chosen.{is_among}
use Rattle.rev_causal.specs.Order.{any_conflict}
use Rattle.rev_causal.specs.Store.{Footprint, conflict}
use Rattle.rev_cells.specs.declared.cell.Cell.{Cell}
use Rattle.rev_cells.specs.Keys.{cell_cmp}
use Rattle.rev_marks.specs.declared.table.Table.{Table}
use Rattle.rev_marks.specs.Masks.{has_mark, mask_under}
use Rattle.rev_marks.specs.Table.{is_met}
use Rattle.rev_marks.specs.Walk.{taken, walk}

-- where both are there, they conflict
abbrev pub do_conflict : Option (Footprint Cell) → Option (Footprint Cell) → Bool
do_conflict (Some f) (Some g) = conflict cell_cmp f g
do_conflict _ _ = false

module _ (prints : ℕ → Option (Footprint Cell)) where
  -- the footprints under two numbers conflict
  abbrev pub clash : ℕ → ℕ → Bool
  clash a b = do_conflict (prints a) (prints b)

  -- whether there is a footprint under a number
  abbrev pub has_print : ℕ → Bool
  has_print k = is_some (prints k)

  -- AS THEY ARE FOUND
  -- the events with mark i are those of some numbers
  pub record IsLane (i : ℕ) (held : List ℕ) (table : Table) (marks : List (ℕ × ℕ)) : Type 0 where
    pub meets : (k : ℕ) (f : Footprint Cell) → prints k ≡ Some f → is_met table i f ≡ any_conflict clash held k
    pub marked : (k : ℕ) → has_mark i (mask_under marks k) ≡ is_among held k

  -- so it is when one more number was gone through
  abbrev pub AreTaken : (ℕ → Option ℕ) → ℕ → Table → Table → List (ℕ × ℕ) → List (ℕ × ℕ) → Type 0
  AreTaken asked k old new before after =
      (i : ℕ) (held : List ℕ) → is_among held k ≡ false → IsLane i held old before
      → IsLane i (taken clash has_print (asked i) held k) new after

  -- the same in the midst of the kept numbers, of which those before a place were gone through
  pub record IsWalked (kept : List ℕ) (asked : Option ℕ) (i place : ℕ) (table : Table) (marks : List (ℕ × ℕ))
      : Type 0 where
    pub held : List ℕ
    pub lane : IsLane i held table marks
    pub rest : walk clash has_print asked held (drop place kept) ≡ walk clash has_print asked [] kept
    pub later : (h : ℕ) → is_among held h ≡ true → AllByRecursion (λ k. h < k) (drop place kept)

  abbrev pub AreWalked : List ℕ → (ℕ → Option ℕ) → ℕ → Table → List (ℕ × ℕ) → Type 0
  AreWalked kept asked place table marks = (i : ℕ) → IsWalked kept (asked i) i place table marks
