-- Masks under cells, one cell after another.
use Rattle.std.proofs.Common.{◌≡◌, ℕ, ◌+◌, ◌<◌, Bool, true, false, cond, ◌||◌, ◌&&◌, List, [], ◌∷◌, ◌++◌, length, get_or, take, Some, refl, sym, ap, ap₂, ◌∙◌}
use Rattle.std.specs.Prelude.{bit_or, filter}
use Rattle.std.specs.List.{list_any}
use Rattle.std.specs.Map.{lookup}
use Rattle.std.specs.Ordering.{eq_by_cmp}
use Rattle.std.proofs.lemmas.List.{take_more}
use Rattle.std.proofs.lemmas.List.Elements.{filter-append}
use Rattle.std.proofs.lemmas.List.Folds.{list_any-append}
use Rattle.rev_causal.specs.Store.{among}
use Rattle.rev_cells.specs.declared.cell.Cell.{Cell}
use Rattle.rev_cells.specs.Keys.{cell_cmp}
use Rattle.rev_cells.specs.Same.{cell_eq, cell_eq-cmp, cell_eq_equiv, cells_exact}
use Rattle.std.specs.Cmp.{Equal-is}
use Rattle.rev_marks.specs.Masks.{has_mark, or_none}
use Rattle.rev_marks.specs.Table.{Marks, Masks, counted, is_marked, mask_of}
use Rattle.rev_marks.proofs.MaskLemmas.{mark-had, mark-none, mark-or}

or-false : (b : Bool) → (b || false) ≡ b
or-false true = refl
or-false false = refl

or-assoc : (a b c : Bool) → ((a || b) || c) ≡ (a || (b || c))
or-assoc true b c = refl
or-assoc false b c = refl

and-or : (m a b : Bool) → (m && (a || b)) ≡ ((m && a) || (m && b))
and-or true a b = refl
and-or false a b = refl

and-false : (m : Bool) → (m && false) ≡ false
and-false true = refl
and-false false = refl

and-true : (m : Bool) → (m && true) ≡ m
and-true true = refl
and-true false = refl

-- ONE CELL
pub counted-mark : (i : ℕ) (b : Bool) (mask here : ℕ) → b ≡ true → mask ≡ here → has_mark i mask ≡ (b && has_mark i here)
counted-mark i b mask here counts is = ap (has_mark i) is ∙ ap (λ x. x && has_mark i here) (sym counts)

pub uncounted-mark : (i : ℕ) (b : Bool) (here : ℕ) → b ≡ false → has_mark i 0 ≡ (b && has_mark i here)
uncounted-mark i b here counts = mark-none i ∙ ap (λ x. x && has_mark i here) (sym counts)

same-cell : (q c : Cell) → eq_by_cmp cell_cmp q c ≡ true → q ≡ c
same-cell q c e = cells_exact q c ((Equal-is (cell_cmp q c)).0 e)

-- under another cell nothing is added, and under the cell itself the marks
one-cell : (q c : Cell) (i mask : ℕ) (was is : Bool) → (eq_by_cmp cell_cmp q c ≡ false → is ≡ was) → (q ≡ c → is ≡ (was || has_mark i mask))
    → is ≡ (was || (has_mark i mask && (eq_by_cmp cell_cmp q c || false)))
one-cell q c i mask was is others same = by (eq_by_cmp cell_cmp q c) refl
  where
    by : (b : Bool) → eq_by_cmp cell_cmp q c ≡ b → is ≡ (was || (has_mark i mask && (b || false)))
    by false e = others e ∙ sym (or-false was) ∙ ap (λ x. was || x) (sym (and-false (has_mark i mask)))
    by true e = same (same-cell q c e) ∙ ap (λ x. was || x) (sym (and-true (has_mark i mask)))

-- the marks were there
pub marks-had : (masks : Masks) (c : Cell) (old new mask : ℕ) → old ≡ mask_of masks c → new ≡ bit_or old mask → new ≡ old → Marks masks masks (c ∷ []) mask
marks-had masks c old new mask at is same i q = one-cell q c i mask (is_marked masks i q) (is_marked masks i q) (λ e. refl) (λ e.
    let here : mask_of masks q ≡ old = ap (mask_of masks) e ∙ sym at in
    ap (has_mark i) here ∙ mark-had i old new mask is same ∙ ap (λ m. has_mark i m || has_mark i mask) (sym here))

-- they were joined to those that were there
pub marks-added : (before after : Masks) (c copy : Cell) (old new mask : ℕ) → old ≡ mask_of before c → new ≡ bit_or old mask → copy ≡ c
    → ((q : Cell) → lookup (cell_eq q) after ≡ cond (cell_eq copy q) (Some new) (lookup (cell_eq q) before)) → Marks before after (c ∷ []) mask
marks-added before after c copy old new mask at is copied updates i q = one-cell q c i mask (is_marked before i q) (is_marked after i q)
    (λ e. ap (λ o. has_mark i (or_none o)) (updates q ∙ ap (λ k. cond (cell_eq k q) (Some new) (lookup (cell_eq q) before)) copied
    ∙ ap (λ b. cond b (Some new) (lookup (cell_eq q) before)) (cell_eq_equiv.symm c q ∙ cell_eq-cmp q c ∙ e)))
    (λ e. ap (λ o. has_mark i (or_none o)) (updates q ∙ ap₂ (λ k r. cond (cell_eq k r) (Some new) (lookup (cell_eq q) before)) copied e
    ∙ ap (λ b. cond b (Some new) (lookup (cell_eq q) before)) (cell_eq_equiv.refl c))
    ∙ ap (has_mark i) is ∙ mark-or i old mask ∙ ap (λ m. has_mark i m || has_mark i mask) (at ∙ ap (mask_of before) (sym e)))

-- SEVERAL
pub marks-none : (masks : Masks) (mask : ℕ) → Marks masks masks [] mask
marks-none masks mask i q = sym (ap (λ x. is_marked masks i q || x) (and-false (has_mark i mask)) ∙ or-false (is_marked masks i q))

pub marks-then : (a b d : Masks) (xs ys : List Cell) (mask : ℕ) → Marks a b xs mask → Marks b d ys mask → Marks a d (xs ++ ys) mask
marks-then a b d xs ys mask f g i q =
    g i q ∙ ap (λ x. x || (has_mark i mask && among cell_cmp ys q)) (f i q)
    ∙ or-assoc (is_marked a i q) (has_mark i mask && among cell_cmp xs q) (has_mark i mask && among cell_cmp ys q)
    ∙ ap (λ x. is_marked a i q || x) (sym (and-or (has_mark i mask) (among cell_cmp xs q) (among cell_cmp ys q)))
    ∙ ap (λ x. is_marked a i q || (has_mark i mask && x)) (sym (list_any-append (eq_by_cmp cell_cmp q) xs ys))

filter-next : (p : Cell → Bool) (xs : List Cell) (i : ℕ) (x : Cell) → i < length xs → x ≡ get_or xs i x → filter p (take i xs) ++ filter p (x ∷ []) ≡ filter p (take (i + 1) xs)
filter-next p xs i x within is =
    sym (ap (filter p) (take_more xs i x within ∙ ap (λ y. take i xs ++ y ∷ []) (sym is)) ∙ filter-append p (take i xs) (x ∷ []))

pub marks-next : (a b d : Masks) (beside : Bool) (xs : List Cell) (n : ℕ) (x : Cell) (mask : ℕ) → n < length xs → x ≡ get_or xs n x → Marks a b (filter (counted beside) (take n xs)) mask
    → Marks b d (filter (counted beside) (x ∷ [])) mask → Marks a d (filter (counted beside) (take (n + 1) xs)) mask
marks-next a b d beside xs n x mask within is f g i q =
    marks-then a b d (filter (counted beside) (take n xs)) (filter (counted beside) (x ∷ [])) mask f g i q
    ∙ ap (λ (zs : List Cell). is_marked a i q || (has_mark i mask && among cell_cmp zs q)) (filter-next (counted beside) xs n x within is)

-- a cell that counts, and one that does not
pub marks-counted : (a b : Masks) (beside : Bool) (c : Cell) (mask : ℕ) → counted beside c ≡ true → Marks a b (c ∷ []) mask → Marks a b (filter (counted beside) (c ∷ [])) mask
marks-counted a b beside c mask counts f i q = f i q ∙ ap (λ x. is_marked a i q || (has_mark i mask && among cell_cmp (cond x (c ∷ []) []) q)) (sym counts)

pub marks-uncounted : (a : Masks) (beside : Bool) (c : Cell) (mask : ℕ) → counted beside c ≡ false → Marks a a (filter (counted beside) (c ∷ [])) mask
marks-uncounted a beside c mask counts i q = marks-none a mask i q ∙ ap (λ x. is_marked a i q || (has_mark i mask && among cell_cmp (cond x (c ∷ []) []) q)) (sym counts)

-- MARKS OF SEVERAL CELLS
pub any-next : (p : Cell → Bool) (xs : List Cell) (n : ℕ) (x : Cell) → n < length xs → x ≡ get_or xs n x → list_any p (take (n + 1) xs) ≡ (list_any p (take n xs) || p x)
any-next p xs n x within is =
    ap (list_any p) (take_more xs n x within ∙ ap (λ y. take n xs ++ y ∷ []) (sym is)) ∙ list_any-append p (take n xs) (x ∷ []) ∙ ap (λ b. list_any p (take n xs) || b) (or-false (p x))

pub seen-next : (p : Cell → Bool) (xs : List Cell) (n i marks here : ℕ) (x : Cell) → n < length xs → x ≡ get_or xs n x → has_mark i marks ≡ list_any p (take n xs) → has_mark i here ≡ p x
    → has_mark i (bit_or marks here) ≡ list_any p (take (n + 1) xs)
seen-next p xs n i marks here x within is so one = mark-or i marks here ∙ ap₂ (λ a b. a || b) so one ∙ sym (any-next p xs n x within is)
