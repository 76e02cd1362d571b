-- One more event that is noted, and those on which one depends.
use Rattle.std.proofs.Common.{◌≡◌, ℕ, Bool, true, false, ◌||◌, ◌&&◌, List, [], ◌∷◌, refl, sym, ap, ap₂, ◌∙◌}
use Rattle.std.specs.Prelude.{bit_or, filter}
use Rattle.std.specs.List.{list_any}
use Rattle.rev_causal.specs.Store.{Footprint, Footprint.Whole, Footprint.Cells, among, conflict}
use Rattle.rev_cells.specs.declared.cell.Cell.{Cell}
use Rattle.rev_cells.specs.Keys.{cell_cmp}
use Rattle.rev_marks.specs.declared.table.Table.{Table}
use Rattle.rev_marks.specs.Masks.{has_mark}
use Rattle.rev_marks.specs.Table.{IsNoted, Marks, Masks, counted, is_marked, is_met, print_by, viewed}
use Rattle.rev_held.proofs.CellLemmas.{any-filter, conflict-seen}
use Rattle.rev_marks.proofs.MaskLemmas.{mark-none, mark-or}

pub view-whole : (beside whole : Bool) (reads writes : List Cell) → whole ≡ true → viewed beside (print_by whole reads writes) ≡ Whole
view-whole beside whole reads writes h = ap (λ b. viewed beside (print_by b reads writes)) h

pub view-cells : (beside whole : Bool) (reads writes : List Cell) → whole ≡ false
    → viewed beside (print_by whole reads writes) ≡ Cells (filter (counted beside) reads) (filter (counted beside) writes)
view-cells beside whole reads writes h = ap (λ b. viewed beside (print_by b reads writes)) h

-- THOSE ON WHICH ONE DEPENDS
pub met-whole : (table : Table) (i : ℕ) (beside whole : Bool) (reads writes : List Cell) → whole ≡ true → has_mark i table.all ≡ is_met table i (viewed beside (print_by whole reads writes))
met-whole table i beside whole reads writes h = sym (ap (is_met table i) (view-whole beside whole reads writes h))

pub met-cells : (table : Table) (i : ℕ) (beside whole : Bool) (reads writes : List Cell) (a b d : ℕ) → whole ≡ false
    → has_mark i a ≡ list_any (λ c. counted beside c && is_marked table.written.entries i c) reads
    → has_mark i b ≡ list_any (λ c. counted beside c && is_marked table.written.entries i c) writes
    → has_mark i d ≡ list_any (λ c. counted beside c && is_marked table.read.entries i c) writes
    → has_mark i (bit_or table.whole (bit_or a (bit_or b d))) ≡ is_met table i (viewed beside (print_by whole reads writes))
met-cells table i beside whole reads writes a b d h first second third =
    mark-or i table.whole (bit_or a (bit_or b d))
    ∙ ap (λ x. has_mark i table.whole || x)
    (mark-or i a (bit_or b d)
    ∙ ap₂ (λ x y. x || y) (first ∙ any-filter (counted beside) (is_marked table.written.entries i) reads)
    (mark-or i b d
    ∙ ap₂ (λ x y. x || y) (second ∙ any-filter (counted beside) (is_marked table.written.entries i) writes)
    (third ∙ any-filter (counted beside) (is_marked table.read.entries i) writes)))
    ∙ sym (ap (is_met table i) (view-cells beside whole reads writes h))

-- ONE MORE
or-true : (a : Bool) → (a || true) ≡ true
or-true true = refl
or-true false = refl

one-all : (old new mask i : ℕ) → new ≡ bit_or old mask → has_mark i new ≡ (has_mark i old || (has_mark i mask && true))
one-all old new mask i is = ap (has_mark i) is ∙ mark-or i old mask ∙ ap (λ b. has_mark i old || b) (by (has_mark i mask))
  where
    by : (b : Bool) → b ≡ (b && true)
    by true = refl
    by false = refl

or-last : (a m x : Bool) → ((a || m) || x) ≡ ((a || x) || m)
or-last true m x = refl
or-last false true true = refl
or-last false true false = refl
or-last false false true = refl
or-last false false false = refl

pub noted-whole : (old new : Table) (mask : ℕ) (beside whole : Bool) (reads writes : List Cell) → whole ≡ true → new.all ≡ bit_or old.all mask → new.whole ≡ bit_or old.whole mask
    → new.read ≡ old.read → new.written ≡ old.written → IsNoted old new (viewed beside (print_by whole reads writes)) mask
noted-whole old new mask beside whole reads writes h all wholes read written i f =
    by f ∙ ap (λ g. is_met old i f || (has_mark i mask && conflict cell_cmp g f)) (sym (view-whole beside whole reads writes h))
  where
    by : (f : Footprint Cell) → is_met new i f ≡ (is_met old i f || (has_mark i mask && true))
    by Whole = one-all old.all new.all mask i all
    by (Cells rs ws) =
        (λ j. one-all old.whole new.whole mask i wholes j || (list_any (is_marked (written j).entries i) rs || (list_any (is_marked (written j).entries i) ws || list_any (is_marked (read j).entries i) ws)))
        ∙ or-last (has_mark i old.whole) (has_mark i mask && true) (list_any (is_marked old.written.entries i) rs || (list_any (is_marked old.written.entries i) ws || list_any (is_marked old.read.entries i) ws))

any-grown : (old new : Masks) (cells : List Cell) (mask i : ℕ) → Marks old new cells mask → (xs : List Cell)
    → list_any (is_marked new i) xs ≡ (list_any (is_marked old i) xs || (has_mark i mask && list_any (among cell_cmp cells) xs))
any-grown old new cells mask i marks [] = by (has_mark i mask)
  where
    by : (m : Bool) → false ≡ (m && false)
    by true = refl
    by false = refl
any-grown old new cells mask i marks (x ∷ xs) =
    ap₂ (λ a b. a || b) (marks i x) (any-grown old new cells mask i marks xs)
    ∙ by (is_marked old i x) (has_mark i mask) (among cell_cmp cells x) (list_any (is_marked old i) xs) (list_any (among cell_cmp cells) xs)
  where
    by : (a m c p q : Bool) → ((a || (m && c)) || (p || (m && q))) ≡ ((a || p) || (m && (c || q)))
    by true m c p q = refl
    by false false c p q = refl
    by false true true true q = refl
    by false true true false q = refl
    by false true false p q = refl

or-eight : (w a b c m a' b' c' : Bool) → (w || ((a || (m && a')) || ((b || (m && b')) || (c || (m && c'))))) ≡ ((w || (a || (b || c))) || (m && (a' || (b' || c'))))
or-eight true a b c m a' b' c' = refl
or-eight false true b c m a' b' c' = refl
or-eight false false true c false a' b' c' = refl
or-eight false false false true false a' b' c' = refl
or-eight false false false false false a' b' c' = refl
or-eight false false true c true true b' c' = refl
or-eight false false true c true false b' c' = refl
or-eight false false false true true true b' c' = refl
or-eight false false false true true false true c' = refl
or-eight false false false true true false false c' = refl
or-eight false false false false true a' b' c' = refl

pub noted-cells : (old new : Table) (mask : ℕ) (beside whole : Bool) (reads writes : List Cell) → whole ≡ false → new.all ≡ bit_or old.all mask → new.whole ≡ old.whole
    → Marks old.read.entries new.read.entries (filter (counted beside) reads) mask → Marks old.written.entries new.written.entries (filter (counted beside) writes) mask
    → IsNoted old new (viewed beside (print_by whole reads writes)) mask
noted-cells old new mask beside whole reads writes h all wholes read written i f =
    by f ∙ ap (λ g. is_met old i f || (has_mark i mask && conflict cell_cmp g f)) (sym (view-cells beside whole reads writes h))
  where
    rs : List Cell
    rs = filter (counted beside) reads

    ws : List Cell
    ws = filter (counted beside) writes

    by : (f : Footprint Cell) → is_met new i f ≡ (is_met old i f || (has_mark i mask && conflict cell_cmp (Cells rs ws) f))
    by Whole = one-all old.all new.all mask i all
    by (Cells xs ys) =
        (λ j. has_mark i (wholes j) || (any-grown old.written.entries new.written.entries ws mask i written xs j
        || (any-grown old.written.entries new.written.entries ws mask i written ys j || any-grown old.read.entries new.read.entries rs mask i read ys j)))
        ∙ or-eight (has_mark i old.whole) (list_any (is_marked old.written.entries i) xs) (list_any (is_marked old.written.entries i) ys) (list_any (is_marked old.read.entries i) ys)
        (has_mark i mask) (list_any (among cell_cmp ws) xs) (list_any (among cell_cmp ws) ys) (list_any (among cell_cmp rs) ys)
        ∙ ap (λ x. is_met old i (Cells xs ys) || (has_mark i mask && x)) (sym (conflict-seen rs ws xs ys))

-- NOTHING YET
any-none : (masks : Masks) (i : ℕ) → masks ≡ [] → (xs : List Cell) → list_any (is_marked masks i) xs ≡ false
any-none masks i none [] = refl
any-none masks i none (x ∷ xs) = ap₂ (λ a b. a || b) (ap (λ (ms : Masks). is_marked ms i x) none ∙ mark-none i) (any-none masks i none xs)

pub none-met : (table : Table) → table.all ≡ 0 → table.whole ≡ 0 → table.read.entries ≡ [] → table.written.entries ≡ [] → (i : ℕ) (f : Footprint Cell) → is_met table i f ≡ false
none-met table all whole read written i Whole = ap (has_mark i) all ∙ mark-none i
none-met table all whole read written i (Cells xs ys) =
    (λ j. (ap (has_mark i) whole ∙ mark-none i) j
    || (any-none table.written.entries i written xs j || (any-none table.written.entries i written ys j || any-none table.read.entries i read ys j)))
