-- The first of some events that passes one of several tests, and how it is noted.
use Rattle.std.proofs.Common.{◌≡◌, ℕ, zero, suc, ◌+◌, ◌<◌, ◌≤◌, Bool, true, false, cond, ◌||◌, List, [], ◌∷◌, ◌++◌, length, get_or, take, Option, Some, None, is_some, refl, sym, ap, ◌∙◌, arith, true≢false}
use Rattle.std.specs.Prelude.{find, if◌then◌else◌}
use Rattle.std.specs.FinSet as cells
use Rattle.std.specs.List.{list_any}
use Rattle.std.specs.Map.{lookup}
use Rattle.std.specs.Option.{option_or}
use Rattle.std.proofs.lemmas.Bool.{le-ltb, lt-ltb}
use Rattle.std.proofs.lemmas.List.{take_more}
use Rattle.rev_causal.specs.Store.{among, conflict}
use Rattle.rev_cells.specs.declared.cell.Cell.{Cell}
use Rattle.rev_cells.specs.Keys.{cell_cmp}
use Rattle.rev_cells.specs.Same.{cell_eq, cell_eq-exact}
use Rattle.rev_footprint.specs.Value.{FootprintValue, print_of}
use Rattle.rev_footprint.proofs.ConflictLemmas.{accessed_read}
use Rattle.rev_history.specs.Timeline.{Timeline, kept_footprint}
use Rattle.rev_held.specs.Dependence.{is_accessed_by}
use Rattle.rev_held.specs.Firsts.{AreFirsts, first_where, later_of, passes}
use Rattle.rev_held.specs.Laws.{IsFalling}
use Rattle.rev_held.specs.declared.firsts.Firsts.{Firsts}
use Rattle.rev_held.proofs.CellLemmas.{any-flip, any-none, any-same}
use Rattle.rev_held.proofs.FindLemmas.{find-append, find-same}
use Rattle.rev_held.proofs.NameLemmas.{by-cells, first-whole, second-whole}
use Rattle.rev_held.proofs.SeveralLemmas.{among-next, any-append, or-assoc, or-none}
use Rattle.rev_held.proofs.WayLemmas.{all-at, find-is}

-- UNDER ONE CELL
some-or : (o p : Option ℕ) → is_some o ≡ true → o ≡ option_or o p
some-or (Some x) p h = refl
some-or None p h = absurd (true≢false (sym h))

or-nothing : (o : Option ℕ) → o ≡ option_or o None
or-nothing (Some x) = refl
or-nothing None = refl

none-or : (o p : Option ℕ) → is_some o ≡ false → p ≡ option_or o p
none-or (Some x) p h = absurd (true≢false h)
none-or None p h = refl

-- where a number stands under the cell, nothing changes
pub put-there : (es : List (Cell × ℕ)) (cell c : Cell) (n : ℕ) → is_some (lookup (cell_eq cell) es) ≡ true
    → lookup (cell_eq c) es ≡ option_or (lookup (cell_eq c) es) (if cell_eq cell c then Some n else None)
put-there es cell c n there = by (cell_eq cell c) refl
  where
    by : (b : Bool) → cell_eq cell c ≡ b → lookup (cell_eq c) es ≡ option_or (lookup (cell_eq c) es) (cond b (Some n) None)
    by true e = some-or (lookup (cell_eq c) es) (Some n) (ap (λ k. is_some (lookup (cell_eq k) es)) (sym (cell_eq-exact cell c e)) ∙ there)
    by false e = or-nothing (lookup (cell_eq c) es)

-- else the number stands there
pub put-new : (es : List (Cell × ℕ)) (cell copy c : Cell) (n : ℕ) (after : Option ℕ) → is_some (lookup (cell_eq cell) es) ≡ false → copy ≡ cell
    → after ≡ cond (cell_eq copy c) (Some n) (lookup (cell_eq c) es) → after ≡ option_or (lookup (cell_eq c) es) (if cell_eq cell c then Some n else None)
put-new es cell copy c n after none is put = put ∙ ap (λ k. cond (cell_eq k c) (Some n) (lookup (cell_eq c) es)) is ∙ by (cell_eq cell c) refl
  where
    by : (b : Bool) → cell_eq cell c ≡ b → cond b (Some n) (lookup (cell_eq c) es) ≡ option_or (lookup (cell_eq c) es) (cond b (Some n) None)
    by true e = none-or (lookup (cell_eq c) es) (Some n) (ap (λ k. is_some (lookup (cell_eq k) es)) (sym (cell_eq-exact cell c e)) ∙ none)
    by false e = or-nothing (lookup (cell_eq c) es)

-- UNDER SEVERAL CELLS
-- under none of them
pub put-none : (cs : List Cell) (c : Cell) (n : ℕ) (o : Option ℕ) → o ≡ option_or o (if among cell_cmp (take 0 cs) c then Some n else None)
put-none cs c n o = or-nothing o

-- under one more
pub put-next : (cs : List Cell) (i : ℕ) (cell c : Cell) (n : ℕ) (before during after : Option ℕ) → i < length cs → cell ≡ get_or cs i cell
    → during ≡ option_or before (if among cell_cmp (take i cs) c then Some n else None) → after ≡ option_or during (if cell_eq cell c then Some n else None)
    → after ≡ option_or before (if among cell_cmp (take (i + 1) cs) c then Some n else None)
put-next cs i cell c n before during after within is first next =
    next
    ∙ ap (λ o. option_or o (if cell_eq cell c then Some n else None)) first
    ∙ both before (among cell_cmp (take i cs) c) (cell_eq cell c)
    ∙ ap (λ b. option_or before (if b then Some n else None)) (sym (among-next cs i cell c within is))
  where
    both : (o : Option ℕ) (a b : Bool) → option_or (option_or o (cond a (Some n) None)) (cond b (Some n) None) ≡ option_or o (cond (a || b) (Some n) None)
    both (Some x) a b = refl
    both None true b = refl
    both None false b = refl

-- ONE MORE EVENT
pub first-more : (t : Timeline) (test : FootprintValue → Bool) (others : List ℕ) (n : ℕ) (f : FootprintValue) (b : Bool) (before after : Option ℕ) → Some f ≡ kept_footprint t n → b ≡ test f
    → before ≡ first_where t test others → after ≡ option_or before (if b then Some n else None) → after ≡ first_where t test (others ++ n ∷ [])
first-more t test others n f b before after kept is was added =
    added
    ∙ (λ i. option_or (was i) (if is i then Some n else None))
    ∙ ap (λ o. option_or (first_where t test others) (cond (passes test o) (Some n) None)) kept
    ∙ sym (find-append (λ other. passes test (kept_footprint t other)) others (n ∷ []))

-- what is put under the cells that it reads or writes, and under those that it writes
pub firsts-more : (t : Timeline) (others : List ℕ) (n : ℕ) (f : FootprintValue) (reads writes : List Cell) (old new : Firsts) → Some f ≡ kept_footprint t n
    → writes ≡ f.writes → cells.from_list reads ≡ f.reads → take (length f.writes) reads ≡ f.writes → AreFirsts t others old
    → ((c : Cell) → lookup (cell_eq c) new.named.entries ≡ option_or (lookup (cell_eq c) old.named.entries) (if among cell_cmp reads c then Some n else None))
    → ((c : Cell) → lookup (cell_eq c) new.written.entries ≡ option_or (lookup (cell_eq c) old.written.entries) (if among cell_cmp writes c then Some n else None))
    → new.plan ≡ option_or old.plan (if f.whole then Some n else None) → new.kept ≡ option_or old.kept (Some n) → AreFirsts t (others ++ n ∷ []) new
firsts-more t others n f reads writes old new kept are same first noted named written plan more = record {
  named = λ c.
      first-more t (λ g. is_accessed_by g c) others n f (among cell_cmp reads c) (lookup (cell_eq c) old.named.entries) (lookup (cell_eq c) new.named.entries) kept
      (accessed_read f reads c same first) (noted.named c) (named c);
  written = λ c.
      first-more t (λ g. among cell_cmp g.writes c) others n f (among cell_cmp writes c) (lookup (cell_eq c) old.written.entries) (lookup (cell_eq c) new.written.entries) kept
      (ap (λ cs. among cell_cmp cs c) are) (noted.written c) (written c);
  plan = first-more t (λ g. g.whole) others n f f.whole old.plan new.plan kept refl noted.plan plan;
  kept = first-more t (λ g. true) others n f true old.kept new.kept kept refl noted.kept more;
}

-- a number that is not kept
pub firsts-same : (t : Timeline) (n : ℕ) (firsts : Firsts) → kept_footprint t n ≡ None → AreFirsts t [] firsts → AreFirsts t (n ∷ []) firsts
firsts-same t n firsts none noted = record {
  named = λ c. noted.named c ∙ skip (λ f. is_accessed_by f c);
  written = λ c. noted.written c ∙ skip (λ f. among cell_cmp f.writes c);
  plan = noted.plan ∙ skip (λ f. f.whole);
  kept = noted.kept ∙ skip (λ f. true);
}
  where
    skip : (test : FootprintValue → Bool) → first_where t test [] ≡ first_where t test (n ∷ [])
    skip test = sym (ap (λ o. cond (passes test o) (Some n) None) none)

-- THE LATER OF TWO
-- of numbers that fall the first that passes one of two tests is the later of the first of each
pub later-find : (p q : ℕ → Bool) (xs : List ℕ) → IsFalling xs → later_of (find p xs) (find q xs) ≡ find (λ x. p x || q x) xs
later-find p q [] falls = refl
later-find p q (x ∷ xs) falls = by (p x) (q x) (find p xs) (find q xs) (below p) (below q) (later-find p q xs falls.1)
  where
    below : (r : ℕ → Bool) (y : ℕ) → find r xs ≡ Some y → y < x
    below r y h = all-at (λ z. z < x) xs y falls.0 (find-is r xs y h).0

    by : (a b : Bool) (o r : Option ℕ) → ((y : ℕ) → o ≡ Some y → y < x) → ((y : ℕ) → r ≡ Some y → y < x) → later_of o r ≡ find (λ y. p y || q y) xs
        → later_of (cond a (Some x) o) (cond b (Some x) r) ≡ cond (a || b) (Some x) (find (λ y. p y || q y) xs)
    by true true o r one other rest = ap (λ c. cond c (Some x) (Some x)) (le-ltb x x (omega arith))
    by true false o None one other rest = refl
    by true false o (Some y) one other rest = let less = other y refl in ap (λ c. cond c (Some y) (Some x)) (le-ltb x y (omega (arith, less)))
    by false true None r one other rest = refl
    by false true (Some y) r one other rest = let less = one y refl in ap (λ c. cond c (Some x) (Some y)) (lt-ltb y x less)
    by false false o r one other rest = rest

-- among none of some cells
pub latest-none : (p : ℕ → Bool) (q : Cell → ℕ → Bool) (others : List ℕ) (cs : List Cell) (found : Option ℕ) → found ≡ find p others
    → found ≡ find (λ other. p other || list_any (λ c. q c other) (take 0 cs)) others
latest-none p q others cs found is = is ∙ find-same p (λ other. p other || false) others (λ other. sym (or-none (p other)))

-- and among one more
pub latest-next : (p : ℕ → Bool) (q : Cell → ℕ → Bool) (others : List ℕ) (cs : List Cell) (i : ℕ) (c : Cell) (latest at after : Option ℕ) → IsFalling others → i < length cs → c ≡ get_or cs i c
    → after ≡ later_of latest at → at ≡ find (q c) others → latest ≡ find (λ other. p other || list_any (λ d. q d other) (take i cs)) others
    → after ≡ find (λ other. p other || list_any (λ d. q d other) (take (i + 1) cs)) others
latest-next p q others cs i c latest at after falls within is later at-is latest-is =
    later
    ∙ (λ j. later_of (latest-is j) (at-is j))
    ∙ later-find (λ other. p other || list_any (λ d. q d other) (take i cs)) (q c) others falls
    ∙ find-same (λ other. (p other || list_any (λ d. q d other) (take i cs)) || q c other) (λ other. p other || list_any (λ d. q d other) (take (i + 1) cs)) others
    (λ other. sym (or-assoc (p other) (list_any (λ d. q d other) (take i cs)) (q c other)) ∙ ap (λ b. p other || b) (sym (more other)))
  where
    more : (other : ℕ) → list_any (λ d. q d other) (take (i + 1) cs) ≡ (list_any (λ d. q d other) (take i cs) || q c other)
    more other =
        ap (list_any (λ d. q d other)) (take_more cs i c within ∙ ap (λ z. take i cs ++ z ∷ []) (sym is))
        ∙ any-append (λ d. q d other) (take i cs) (c ∷ [])
        ∙ ap (λ b. list_any (λ d. q d other) (take i cs) || b) (or-none (q c other))

-- and among all
pub latest-all : (p : ℕ → Bool) (q : Cell → ℕ → Bool) (others : List ℕ) (cs : List Cell) (i : ℕ) (latest : Option ℕ) → length cs ≤ i
    → latest ≡ find (λ other. p other || list_any (λ c. q c other) (take i cs)) others → latest ≡ find (λ other. p other || list_any (λ c. q c other) cs) others
latest-all p q others cs i latest past is = is ∙ ap (λ ds. find (λ other. p other || list_any (λ c. q c other) ds) others) (all cs i past)
  where
    all : (xs : List Cell) (j : ℕ) → length xs ≤ j → take j xs ≡ xs
    all [] zero h = refl
    all [] (suc j) h = refl
    all (x ∷ xs) zero h = absurd (omega (arith, h))
    all (x ∷ xs) (suc j) h = ap (λ ys. x ∷ ys) (all xs j (omega (arith, h)))

-- CONFLICTS BY CELLS
abbrev clash : FootprintValue → FootprintValue → Bool
clash f g = conflict cell_cmp (print_of f) (print_of g)

-- each kept one conflicts with one that is whole
pub with-whole : (t : Timeline) (others : List ℕ) (f : FootprintValue) → f.whole ≡ true → first_where t (λ g. true) others ≡ first_where t (λ g. conflict cell_cmp (print_of f) (print_of g)) others
with-whole t others f whole = find-same (λ other. passes (λ g. true) (kept_footprint t other)) (λ other. passes (clash f) (kept_footprint t other)) others (λ other. by (kept_footprint t other))
  where
    by : (o : Option FootprintValue) → passes (λ g. true) o ≡ passes (clash f) o
    by None = refl
    by (Some g) = first-whole f g whole

-- else with a plan, with one that names a cell which it writes, and with one that writes a cell which it names
pub with-cells : (t : Timeline) (others : List ℕ) (f : FootprintValue) (reads writes : List Cell) (found : Option ℕ) → f.whole ≡ false
    → writes ≡ f.writes → cells.from_list reads ≡ f.reads → take (length f.writes) reads ≡ f.writes
    → found
    ≡ find (λ other. (passes (λ g. g.whole) (kept_footprint t other) || list_any (λ c. passes (λ g. is_accessed_by g c) (kept_footprint t other)) writes)
    || list_any (λ c. passes (λ g. among cell_cmp g.writes c) (kept_footprint t other)) reads) others
    → found ≡ first_where t (λ g. conflict cell_cmp (print_of f) (print_of g)) others
with-cells t others f reads writes found part are same first is =
    is
    ∙ find-same (λ other. test (kept_footprint t other)) (λ other. passes (clash f) (kept_footprint t other)) others (λ other. by (kept_footprint t other))
  where
    test : Option FootprintValue → Bool
    test o = (passes (λ g. g.whole) o || list_any (λ c. passes (λ g. is_accessed_by g c) o) writes) || list_any (λ c. passes (λ g. among cell_cmp g.writes c) o) reads

    named : (g : FootprintValue) → list_any (among cell_cmp g.writes) reads ≡ list_any (is_accessed_by f) g.writes
    named g = any-flip g.writes reads ∙ any-same (among cell_cmp reads) (is_accessed_by f) g.writes (λ c. accessed_read f reads c same first)

    one : (g : FootprintValue) (b : Bool) → g.whole ≡ b → ((b || list_any (is_accessed_by g) writes) || list_any (among cell_cmp g.writes) reads) ≡ clash f g
    one g true whole = second-whole f g whole
    one g false other = (λ i. list_any (is_accessed_by g) (are i) || named g i) ∙ sym (by-cells f g part other)

    by : (o : Option FootprintValue) → test o ≡ passes (clash f) o
    by None = (λ i. any-none writes i || any-none reads i)
    by (Some g) = one g g.whole refl
