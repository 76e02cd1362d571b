-- Cells that are named, and dependence as a relation.
use Rattle.std.proofs.Common.{◌≡◌, ℕ, zero, suc, ◌+◌, ◌<◌, ◌≤◌, length, get_or, drop, arith, Bool, true, false, ◌||◌, ◌&&◌, List, [], ◌∷◌, Option, Some, None, is_some, refl, sym, ap, ◌∙◌, inl, inr, ◌⊎◌, true≢false, if◌then◌else◌}
use Rattle.std.specs.Prelude.{find, nat_lt, cond}
use Rattle.std.specs.FinSet as cells
use Rattle.std.specs.List.{list_any}
use Rattle.std.specs.Option.{option_or}
use Rattle.std.proofs.Math.Seq.{drop-cons}
use Rattle.std.proofs.lemmas.Bool.{lt-ltb, ltb-true}
use Rattle.rev_causal.specs.Store.{Footprint.Whole, Footprint.Cells, conflict}
use Rattle.rev_causal.proofs.Runs.{either}
use Rattle.rev_cells.specs.declared.cell.Cell.{Cell}
use Rattle.rev_cells.specs.Keys.{cell_cmp}
use Rattle.rev_footprint.specs.Value.{FootprintValue, print_of}
use Rattle.rev_history.specs.Timeline.{Timeline, kept_footprint}
use Rattle.rev_held.specs.Dependence.{cell_between, dependence_of, depends_on, first_cell, holds_between, is_accessed_by}
use Rattle.rev_held.specs.Laws.{CellsAreNamed, IsWhole}
use Rattle.rev_held.proofs.CellLemmas.{whole-second}

-- what is found passes, and where none does none is found
found-any : (p : Cell → Bool) (cs : List Cell) (c : Cell) → find p cs ≡ Some c → list_any p cs ≡ true
found-any p [] c h = absurd (true≢false cc)
found-any p (x ∷ cs) c h = by (p x) h (found-any p cs c)
  where
    by : (b : Bool) → cond b (Some x) (find p cs) ≡ Some c → (find p cs ≡ Some c → list_any p cs ≡ true) → (b || list_any p cs) ≡ true
    by true h rest = refl
    by false h rest = rest h

none-any : (p : Cell → Bool) (cs : List Cell) → find p cs ≡ None → list_any p cs ≡ false
none-any p [] h = refl
none-any p (x ∷ cs) h = by (p x) h (none-any p cs)
  where
    by : (b : Bool) → cond b (Some x) (find p cs) ≡ None → (find p cs ≡ None → list_any p cs ≡ false) → (b || list_any p cs) ≡ false
    by true h rest = absurd (true≢false cc)
    by false h rest = rest h

print-whole : (f : FootprintValue) → f.whole ≡ true → print_of f ≡ Whole
print-whole f h = ap (λ b. if b then Whole else Cells (cells.items f.reads) f.writes) h

print-cells : (f : FootprintValue) → f.whole ≡ false → print_of f ≡ Cells (cells.items f.reads) f.writes
print-cells f h = ap (λ b. if b then Whole else Cells (cells.items f.reads) f.writes) h

any-named : (f g : FootprintValue) (o q : Option Cell) → find (is_accessed_by g) f.writes ≡ o → find (is_accessed_by f) g.writes ≡ q → (c : Cell) → option_or o q ≡ Some c
    → (list_any (is_accessed_by g) f.writes || list_any (is_accessed_by f) g.writes) ≡ true
any-named f g (Some a) q one other c h = ap (λ b. b || list_any (is_accessed_by f) g.writes) (found-any (is_accessed_by g) f.writes a one)
any-named f g None (Some a) one other c h =
    ap (λ b. list_any (is_accessed_by g) f.writes || b) (found-any (is_accessed_by f) g.writes a other) ∙ or-true (list_any (is_accessed_by g) f.writes)
  where
    or-true : (b : Bool) → (b || true) ≡ true
    or-true true = refl
    or-true false = refl
any-named f g None None one other c h = absurd (true≢false cc)

none-named : (f g : FootprintValue) (o q : Option Cell) → find (is_accessed_by g) f.writes ≡ o → find (is_accessed_by f) g.writes ≡ q → option_or o q ≡ None
    → (list_any (is_accessed_by g) f.writes || list_any (is_accessed_by f) g.writes) ≡ false
none-named f g (Some a) q one other h = absurd (true≢false cc)
none-named f g None (Some a) one other h = absurd (true≢false cc)
none-named f g None None one other h = λ i. none-any (is_accessed_by g) f.writes one i || none-any (is_accessed_by f) g.writes other i

pub by-cells : (f g : FootprintValue) → f.whole ≡ false → g.whole ≡ false
    → conflict cell_cmp (print_of f) (print_of g) ≡ (list_any (is_accessed_by g) f.writes || list_any (is_accessed_by f) g.writes)
by-cells f g a b = λ i. conflict cell_cmp (print-cells f a i) (print-cells g b i)

-- a cell that is named makes a conflict
cell-conflicts : (f g : FootprintValue) (c : Cell) → first_cell f g ≡ Some c → conflict cell_cmp (print_of f) (print_of g) ≡ true
cell-conflicts f g c h = elim (either f.whole) [
  | inl whole ↦ ap (λ p. conflict cell_cmp p (print_of g)) (print-whole f whole)
  | inr part ↦ elim (either g.whole) [
    | inl whole ↦ ap (conflict cell_cmp (print_of f)) (print-whole g whole) ∙ whole-second (print_of f)
    | inr other ↦ by-cells f g part other ∙ any-named f g (find (is_accessed_by g) f.writes) (find (is_accessed_by f) g.writes) refl refl c h
  ]
]

-- where there is a conflict and no cell is named, one is whole
conflict-names : (f g : FootprintValue) → conflict cell_cmp (print_of f) (print_of g) ≡ true → first_cell f g ≡ None → (f.whole ≡ true) ⊎ (g.whole ≡ true)
conflict-names f g clash none = elim (either f.whole) [
  | inl whole ↦ inl whole
  | inr part ↦ elim (either g.whole) [
    | inl whole ↦ inr whole
    | inr other ↦
        absurd (true≢false (sym clash ∙ by-cells f g part other ∙ none-named f g (find (is_accessed_by g) f.writes) (find (is_accessed_by f) g.writes) refl refl none))
  ]
]

-- whether two events of which none is whole conflict, by the cell that is found
pub clash-by-cell : (f g : FootprintValue) (a : Bool) (o : Option Cell) → a ≡ is_some o → o ≡ first_cell f g → f.whole ≡ false → g.whole ≡ false
    → a ≡ conflict cell_cmp (print_of f) (print_of g)
clash-by-cell f g a (Some c) told found one other = told ∙ sym (cell-conflicts f g c (sym found))
clash-by-cell f g a None told found one other =
    told ∙ sym (by-cells f g one other ∙ none-named f g (find (is_accessed_by g) f.writes) (find (is_accessed_by f) g.writes) refl refl (sym found))

-- one that is whole conflicts with each
pub first-whole : (f g : FootprintValue) → f.whole ≡ true → true ≡ conflict cell_cmp (print_of f) (print_of g)
first-whole f g whole = sym (ap (λ p. conflict cell_cmp p (print_of g)) (print-whole f whole))

pub second-whole : (f g : FootprintValue) → g.whole ≡ true → true ≡ conflict cell_cmp (print_of f) (print_of g)
second-whole f g whole = sym (ap (conflict cell_cmp (print_of f)) (print-whole g whole) ∙ whole-second (print_of f))

-- and a conflict is one whichever comes first
or-turned : (a b : Bool) → (a || b) ≡ (b || a)
or-turned true true = refl
or-turned true false = refl
or-turned false true = refl
or-turned false false = refl

pub conflict-turned : (f g : FootprintValue) → conflict cell_cmp (print_of f) (print_of g) ≡ conflict cell_cmp (print_of g) (print_of f)
conflict-turned f g = elim (either f.whole) [
  | inl whole ↦ sym (first-whole f g whole) ∙ second-whole g f whole
  | inr part ↦ elim (either g.whole) [
    | inl whole ↦ sym (second-whole f g whole) ∙ first-whole g f whole
    | inr other ↦
        by-cells f g part other ∙ or-turned (list_any (is_accessed_by g) f.writes) (list_any (is_accessed_by f) g.writes) ∙ sym (by-cells g f other part)
  ]
]

pub cells-are-named : CellsAreNamed
cells-are-named t one other = record {
  sound = λ c h. sound (nat_lt one other) (kept_footprint t one) (kept_footprint t other) c h;
  complete = λ h none. complete (nat_lt one other) (kept_footprint t one) (kept_footprint t other) refl refl h none;
}
  where
    clashes : FootprintValue → FootprintValue → Bool
    clashes f g = conflict cell_cmp (print_of f) (print_of g)

    sound : (b : Bool) (o q : Option FootprintValue) (c : Cell) → (if b then cell_between o q else None) ≡ Some c
        → (b && holds_between (λ f g. conflict cell_cmp (print_of f) (print_of g)) o q) ≡ true
    sound false o q c h = absurd (true≢false cc)
    sound true None q c h = absurd (true≢false cc)
    sound true (Some f) None c h = absurd (true≢false cc)
    sound true (Some f) (Some g) c h = cell-conflicts f g c h

    complete : (b : Bool) (o q : Option FootprintValue) → kept_footprint t one ≡ o → kept_footprint t other ≡ q
        → (b && holds_between (λ f g. conflict cell_cmp (print_of f) (print_of g)) o q) ≡ true → (if b then cell_between o q else None) ≡ None → IsWhole t one ⊎ IsWhole t other
    complete false o q is is' h none = absurd (true≢false (sym h))
    complete true None q is is' h none = absurd (true≢false (sym h))
    complete true (Some f) None is is' h none = absurd (true≢false (sym h))
    complete true (Some f) (Some g) is is' h none = elim (conflict-names f g h none) [
      | inl whole ↦ inl (record { footprint = f; has = is; whole = whole })
      | inr whole ↦ inr (record { footprint = g; has = is'; whole = whole })
    ]

-- AS THE CODE LOOKS
-- the first that passes
found-next : (p : Cell → Bool) (cs : List Cell) (i : ℕ) (x : Cell) → i < length cs → x ≡ get_or cs i x → find p (drop i cs) ≡ cond (p x) (Some x) (find p (drop (i + 1) cs))
found-next p cs i x within is =
    ap (find p) (drop-cons cs i x within ∙ ap (λ y. y ∷ drop (suc i) cs) (sym is) ∙ ap (λ j. x ∷ drop j cs) (let e : suc i ≡ i + 1 = omega arith in e))

pub found-later : (p : Cell → Bool) (cs : List Cell) (i : ℕ) (x : Cell) → i < length cs → x ≡ get_or cs i x → p x ≡ false → find p cs ≡ find p (drop i cs) → find p cs ≡ find p (drop (i + 1) cs)
found-later p cs i x within is fails before = before ∙ found-next p cs i x within is ∙ ap (λ b. cond b (Some x) (find p (drop (i + 1) cs))) fails

pub found-here : (p : Cell → Bool) (cs : List Cell) (i : ℕ) (x : Cell) → i < length cs → x ≡ get_or cs i x → p x ≡ true → find p cs ≡ find p (drop i cs) → Some x ≡ find p cs
found-here p cs i x within is passes before = sym (before ∙ found-next p cs i x within is ∙ ap (λ b. cond b (Some x) (find p (drop (i + 1) cs))) passes)

abbrev no-cell : Option Cell
no-cell = None

pub found-nowhere : (p : Cell → Bool) (cs : List Cell) (i : ℕ) → length cs ≤ i → find p cs ≡ find p (drop i cs) → no-cell ≡ find p cs
found-nowhere p cs i past before = sym (before ∙ ap (find p) (drop-past cs i past))
  where
    drop-past : (xs : List Cell) (j : ℕ) → length xs ≤ j → drop j xs ≡ []
    drop-past [] zero h = refl
    drop-past [] (suc j) h = refl
    drop-past (x ∷ xs) zero h = absurd (omega (arith, h))
    drop-past (x ∷ xs) (suc j) h = drop-past xs j (omega (arith, h))

-- two kept numbers, or fewer
not-less : (one other : ℕ) → other ≤ one → nat_lt one other ≡ false
not-less one other h = by (nat_lt one other) refl
  where
    by : (b : Bool) → nat_lt one other ≡ b → nat_lt one other ≡ false
    by true e = let less = ltb-true one other e in absurd (omega (arith, less, h))
    by false e = e

abbrev clashes-named : FootprintValue → FootprintValue → Bool
clashes-named f g = conflict cell_cmp (print_of f) (print_of g)

pub depends-not : (t : Timeline) (one other : ℕ) → other ≤ one → false ≡ depends_on t one other
depends-not t one other h = sym (ap (λ b. b && holds_between clashes-named (kept_footprint t one) (kept_footprint t other)) (not-less one other h))

and-false : (b : Bool) → false ≡ (b && false)
and-false true = refl
and-false false = refl

pub depends-none : (t : Timeline) (one other : ℕ) → None ≡ kept_footprint t one → false ≡ depends_on t one other
depends-none t one other none =
    and-false (nat_lt one other) ∙ ap (λ (o : Option FootprintValue). nat_lt one other && holds_between clashes-named o (kept_footprint t other)) none

pub depends-nothing : (t : Timeline) (one other : ℕ) (f : FootprintValue) → Some f ≡ kept_footprint t one → None ≡ kept_footprint t other → false ≡ depends_on t one other
depends-nothing t one other f first none =
    and-false (nat_lt one other) ∙ (λ i. nat_lt one other && holds_between clashes-named (first i) (none i))

pub depends-by : (t : Timeline) (one other : ℕ) (f g : FootprintValue) → one < other → Some f ≡ kept_footprint t one → Some g ≡ kept_footprint t other
    → conflict cell_cmp (print_of f) (print_of g) ≡ depends_on t one other
depends-by t one other f g less first second =
    (λ i. sym (lt-ltb one other less) i && holds_between clashes-named (first i) (second i))

pub cell-not : (t : Timeline) (one other : ℕ) → other ≤ one → no-cell ≡ dependence_of t one other
cell-not t one other h = sym (ap (λ b. if b then cell_between (kept_footprint t one) (kept_footprint t other) else None) (not-less one other h))

none-either : (b : Bool) → no-cell ≡ (if b then None else None)
none-either true = refl
none-either false = refl

pub cell-none : (t : Timeline) (one other : ℕ) → None ≡ kept_footprint t one → no-cell ≡ dependence_of t one other
cell-none t one other none =
    none-either (nat_lt one other) ∙ ap (λ (o : Option FootprintValue). if nat_lt one other then cell_between o (kept_footprint t other) else None) none

pub cell-nothing : (t : Timeline) (one other : ℕ) (f : FootprintValue) → Some f ≡ kept_footprint t one → None ≡ kept_footprint t other → no-cell ≡ dependence_of t one other
cell-nothing t one other f first none =
    none-either (nat_lt one other) ∙ (λ i. if nat_lt one other then cell_between (first i) (none i) else None)

pub cell-by : (t : Timeline) (one other : ℕ) (f g : FootprintValue) → one < other → Some f ≡ kept_footprint t one → Some g ≡ kept_footprint t other
    → first_cell f g ≡ dependence_of t one other
cell-by t one other f g less first second =
    (λ i. if sym (lt-ltb one other less) i then cell_between (first i) (second i) else None)

pub first-by : (f g : FootprintValue) (c : Cell) → Some c ≡ find (is_accessed_by g) f.writes → Some c ≡ first_cell f g
first-by f g c is = ap (λ o. option_or o (find (is_accessed_by f) g.writes)) is

pub second-by : (f g : FootprintValue) (o : Option Cell) → None ≡ find (is_accessed_by g) f.writes → o ≡ find (is_accessed_by f) g.writes → o ≡ first_cell f g
second-by f g o none is = is ∙ ap (λ q. option_or q (find (is_accessed_by f) g.writes)) none
