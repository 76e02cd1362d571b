-- Cells that are noted once, and what is found of them.
use Rattle.std.proofs.Common.{◌≡◌, ℕ, ◌+◌, ◌<◌, ◌≤◌, Bool, true, false, cond, ◌&&◌, ◌||◌, List, [], ◌∷◌, ◌++◌, length, get_or, take, map, Option, Some, None, refl, sym, ap, ◌∙◌, arith, append_assoc, slice_get, position, nat_lt, true≢false}
use Rattle.std.specs.Prelude.{find, filter, if◌then◌else◌}
use Rattle.std.specs.FinSet as cells
use Rattle.std.specs.List.{list_any, position_or_len}
use Rattle.std.specs.Cmp.{eq_by_cmp_equiv}
use Rattle.std.specs.Ordering.{eq_by_cmp}
use Rattle.std.proofs.lemmas.Bool.{ltb-false, ltb-true}
use Rattle.std.proofs.lemmas.List.{take_more}
use Rattle.std.proofs.lemmas.List.Elements.{filter-append}
use Rattle.std.proofs.lemmas.List.Folds.{find_at}
use Rattle.indexmap.specs.IndexSet.{insert_key}
use Rattle.rev_causal.specs.Store.{among, conflict}
use Rattle.rev_cells.specs.declared.cell.Cell.{Cell}
use Rattle.rev_cells.specs.Keys.{cell_cmp}
use Rattle.rev_cells.proofs.EntryLemmas.{cell_eq, cell_eq-is, cells_total}
use Rattle.rev_footprint.specs.Value.{FootprintValue, print_of}
use Rattle.rev_history.specs.Timeline.{Timeline, kept_footprint}
use Rattle.rev_held.specs.Dependence.{dependence_of, depends_on, holds_between, is_accessed_by}
use Rattle.rev_held.specs.Several.{FindsAs, IsNamed, earlier_of}
use Rattle.rev_held.proofs.CellLemmas.{same-cell, set-same}
use Rattle.rev_held.proofs.NameLemmas.{cell-by, first-by, second-by}
use Rattle.rev_held.proofs.FindLemmas.{find-any, find-next, find-same, place-earlier, place-later, place-none, place-same, place-within}

-- KEYS
equal-cells : (c k : Cell) → cell_eq c k ≡ true → c ≡ k
equal-cells c k h = same-cell c k (ap (λ (e : Cell → Cell → Bool). e c k) (sym cell_eq-is) ∙ h)

pub finds-next : (keys before : List Cell) (c : Cell) → FindsAs keys before → FindsAs (insert_key cell_eq keys c) (before ++ c ∷ [])
finds-next keys before c same = find-next (cell_eq c) c keys before (equal-cells c) same

pub finds-nothing : (keys before cs : List Cell) → FindsAs keys before → FindsAs keys (before ++ take 0 cs)
finds-nothing keys before cs same p = same p ∙ ap (find p) (nothing before)
  where
    nothing : (xs : List Cell) → xs ≡ xs ++ []
    nothing [] = refl
    nothing (x ∷ xs) = ap (λ ys. x ∷ ys) (nothing xs)

pub finds-more : (keys after before cs : List Cell) (i : ℕ) (c d : Cell) → i < length cs → c ≡ get_or cs i c → d ≡ c → after ≡ insert_key cell_eq keys d
    → FindsAs keys (before ++ take i cs) → FindsAs after (before ++ take (i + 1) cs)
finds-more keys after before cs i c d within is copy added same p =
    ap (find p) (added ∙ ap (insert_key cell_eq keys) copy)
    ∙ finds-next keys (before ++ take i cs) c same p
    ∙ ap (find p) (append_assoc before (take i cs) (c ∷ []) ∙ ap (λ ys. before ++ ys) (sym (take_more cs i c within ∙ ap (λ z. take i cs ++ z ∷ []) (sym is))))

pub any-append : (p : Cell → Bool) (xs ys : List Cell) → list_any p (xs ++ ys) ≡ (list_any p xs || list_any p ys)
any-append p [] ys = refl
any-append p (x ∷ xs) ys = by (p x) (any-append p xs ys)
  where
    by : (b : Bool) → list_any p (xs ++ ys) ≡ (list_any p xs || list_any p ys) → (b || list_any p (xs ++ ys)) ≡ ((b || list_any p xs) || list_any p ys)
    by true rest = refl
    by false rest = rest

pub named-is : (f : FootprintValue) (writes reads keys : List Cell) → writes ≡ f.writes → cells.from_list reads ≡ f.reads → FindsAs keys (writes ++ reads) → IsNamed f keys
named-is f writes reads keys are reads-are same c =
    find-any (eq_by_cmp cell_cmp c) keys (writes ++ reads) (same (eq_by_cmp cell_cmp c))
    ∙ any-append (eq_by_cmp cell_cmp c) writes reads
    ∙ (λ i. among cell_cmp (are i) c || set-same reads f.reads reads-are c i)

-- PLACES
not-below : (a b : ℕ) → nat_lt a b ≡ false → b ≤ a
not-below a b h = let more = ltb-false a b h in omega (arith, more)

place-step : (p q : Cell → Bool) (ks : List Cell) (place : ℕ) → place ≡ position_or_len p ks → earlier_of place (position q ks) ≡ position_or_len (λ w. p w || q w) ks
place-step p q ks place is = by (nat_lt (position_or_len q ks) (length ks)) refl
  where
    here : (b : Bool) → nat_lt (position_or_len q ks) place ≡ b → cond b (position_or_len q ks) place ≡ position_or_len (λ w. p w || q w) ks
    here true less = let l : position_or_len q ks < position_or_len p ks = omega (arith, ltb-true (position_or_len q ks) place less, is) in sym (place-earlier p q ks l)
    here false more = let l : position_or_len p ks ≤ position_or_len q ks = omega (arith, not-below (position_or_len q ks) place more, is) in is ∙ sym (place-later p q ks l)

    by : (b : Bool) → nat_lt (position_or_len q ks) (length ks) ≡ b → earlier_of place (cond b (Some (position_or_len q ks)) None) ≡ position_or_len (λ w. p w || q w) ks
    by true less = here (nat_lt (position_or_len q ks) place) refl
    by false more =
        let l : position_or_len p ks ≤ position_or_len q ks = omega (arith, not-below (position_or_len q ks) (length ks) more, place-within p ks) in
        is ∙ sym (place-later p q ks l)

pub or-assoc : (a b c : Bool) → (a || (b || c)) ≡ ((a || b) || c)
or-assoc true b c = refl
or-assoc false b c = refl

pub or-none : (a : Bool) → (a || false) ≡ a
or-none true = refl
or-none false = refl

turned : (w c : Cell) → eq_by_cmp cell_cmp w c ≡ cell_eq c w
turned w c = (eq_by_cmp_equiv cells_total).symm w c ∙ ap (λ (e : Cell → Cell → Bool). e c w) (sym cell_eq-is)

-- one more of some cells
pub among-next : (cs : List Cell) (i : ℕ) (c w : Cell) → i < length cs → c ≡ get_or cs i c → among cell_cmp (take (i + 1) cs) w ≡ (among cell_cmp (take i cs) w || cell_eq c w)
among-next cs i c w within is =
    ap (λ xs. among cell_cmp xs w) (take_more cs i c within ∙ ap (λ z. take i cs ++ z ∷ []) (sym is))
    ∙ any-append (eq_by_cmp cell_cmp w) (take i cs) (c ∷ [])
    ∙ ap (λ b. among cell_cmp (take i cs) w || b) (or-none (eq_by_cmp cell_cmp w c) ∙ turned w c)

pub place-first : (p : Cell → Bool) (ks cs : List Cell) (place : ℕ) → place ≡ position_or_len p ks → place ≡ position_or_len (λ w. p w || among cell_cmp (take 0 cs) w) ks
place-first p ks cs place is = is ∙ place-same p (λ w. p w || false) ks (λ w. sym (or-none (p w)))

pub place-next : (p : Cell → Bool) (ks cs : List Cell) (i place next : ℕ) (c : Cell) → i < length cs → c ≡ get_or cs i c → next ≡ earlier_of place (position (cell_eq c) ks)
    → place ≡ position_or_len (λ w. p w || among cell_cmp (take i cs) w) ks → next ≡ position_or_len (λ w. p w || among cell_cmp (take (i + 1) cs) w) ks
place-next p ks cs i place next c within is next-is place-is =
    next-is
    ∙ place-step (λ w. p w || among cell_cmp (take i cs) w) (cell_eq c) ks place place-is
    ∙ place-same (λ w. (p w || among cell_cmp (take i cs) w) || cell_eq c w) (λ w. p w || among cell_cmp (take (i + 1) cs) w) ks
    (λ w. sym (or-assoc (p w) (among cell_cmp (take i cs) w) (cell_eq c w)) ∙ ap (λ b. p w || b) (sym (among-next cs i c w within is)))

pub found-at-place : (g : FootprintValue) (keys writes reads : List Cell) (place : ℕ) → writes ≡ g.writes → cells.from_list reads ≡ g.reads
    → place ≡ position_or_len (λ w. (false || among cell_cmp writes w) || among cell_cmp reads w) keys → slice_get keys place ≡ find (is_accessed_by g) keys
found-at-place g keys writes reads place are reads-are is =
    ap (slice_get keys) (is ∙ place-same (λ w. among cell_cmp writes w || among cell_cmp reads w) (is_accessed_by g) keys (λ w i. among cell_cmp (are i) w || set-same reads g.reads reads-are w i))
    ∙ sym (find_at (is_accessed_by g) keys)

pub length-place : (keys : List Cell) → length keys ≡ position_or_len (λ (w : Cell). false) keys
length-place keys = sym (place-none keys)

-- THE CELL BETWEEN TWO
-- where the earlier one writes a cell that the later one names
pub cell-of : (t : Timeline) (one other : ℕ) (f g : FootprintValue) (keys writes : List Cell) (a : Cell) (copy : Option Cell) → one < other → Some f ≡ kept_footprint t one
    → Some g ≡ kept_footprint t other → IsNamed g keys → writes ≡ f.writes → Some a ≡ find (among cell_cmp keys) writes → copy ≡ Some a → copy ≡ dependence_of t one other
cell-of t one other f g keys writes a copy less first second names are found is =
    is
    ∙ first-by f g a (found ∙ find-same (among cell_cmp keys) (is_accessed_by g) writes names ∙ ap (find (is_accessed_by g)) are)
    ∙ cell-by t one other f g less first second

-- where it writes none
pub cell-back : (t : Timeline) (one other : ℕ) (f g : FootprintValue) (keys writes back : List Cell) (o copy : Option Cell) → one < other → Some f ≡ kept_footprint t one
    → Some g ≡ kept_footprint t other → IsNamed g keys → writes ≡ f.writes → None ≡ find (among cell_cmp keys) writes → back ≡ g.writes → o ≡ find (is_accessed_by f) back → copy ≡ o
    → copy ≡ dependence_of t one other
cell-back t one other f g keys writes back o copy less first second names are none are' found is =
    is
    ∙ second-by f g o (none ∙ find-same (among cell_cmp keys) (is_accessed_by g) writes names ∙ ap (find (is_accessed_by g)) are) (found ∙ ap (find (is_accessed_by f)) are')
    ∙ cell-by t one other f g less first second

-- LISTS OF ANSWERS
pub map-same : {A B : Type 0} (f g : A → B) (xs : List A) → ((x : A) → f x ≡ g x) → map f xs ≡ map g xs
map-same f g [] h = refl
map-same f g (x ∷ xs) h = λ i. h x i ∷ map-same f g xs h i

pub map-next : {A B : Type 0} (f : A → B) (xs : List A) (i : ℕ) (x : A) (done after : List B) (y : B) → i < length xs → x ≡ get_or xs i x → done ≡ map f (take i xs) → y ≡ f x → after ≡ done ++ y ∷ []
    → after ≡ map f (take (i + 1) xs)
map-next f xs i x done after y within is before same pushed =
    pushed ∙ (λ j. before j ++ same j ∷ []) ∙ sym (map-append f (take i xs) (x ∷ [])) ∙ ap (map f) (sym (take_more xs i x within ∙ ap (λ z. take i xs ++ z ∷ []) (sym is)))
  where
    map-append : {A B : Type 0} (f : A → B) (xs ys : List A) → map f (xs ++ ys) ≡ map f xs ++ map f ys
    map-append f [] ys = refl
    map-append f (x ∷ xs) ys = ap (λ r. f x ∷ r) (map-append f xs ys)

pub filter-next : (p : ℕ → Bool) (xs : List ℕ) (i x : ℕ) (done after : List ℕ) (b : Bool) → i < length xs → x ≡ get_or xs i x → done ≡ filter p (take i xs) → b ≡ p x
    → after ≡ done ++ (if b then x ∷ [] else []) → after ≡ filter p (take (i + 1) xs)
filter-next p xs i x done after b within is before passes pushed =
    pushed
    ∙ (λ j. before j ++ (if passes j then x ∷ [] else []))
    ∙ sym (filter-append p (take i xs) (x ∷ []))
    ∙ ap (filter p) (sym (take_more xs i x within ∙ ap (λ y. take i xs ++ y ∷ []) (sym is)))

-- KEPT NUMBERS
filter-nothing : (p : ℕ → Bool) (ks : List ℕ) → ((k : ℕ) → p k ≡ false) → filter p ks ≡ []
filter-nothing p [] never = refl
filter-nothing p (k ∷ ks) never = ap (λ b. cond b (k ∷ filter p ks) (filter p ks)) (never k) ∙ filter-nothing p ks never

pub never-on : (t : Timeline) (one k : ℕ) → kept_footprint t one ≡ None → depends_on t one k ≡ false
never-on t one k none = by (nat_lt one k) (kept_footprint t one) (kept_footprint t k) none
  where
    by : (b : Bool) (o q : Option FootprintValue) → o ≡ None → (b && holds_between (λ f g. conflict cell_cmp (print_of f) (print_of g)) o q) ≡ false
    by b (Some f) q h = absurd (true≢false cc)
    by true None q h = refl
    by false None q h = refl

never-of : (t : Timeline) (k other : ℕ) → kept_footprint t other ≡ None → depends_on t k other ≡ false
never-of t k other none = by (nat_lt k other) (kept_footprint t k) (kept_footprint t other) none
  where
    by : (b : Bool) (o q : Option FootprintValue) → q ≡ None → (b && holds_between (λ f g. conflict cell_cmp (print_of f) (print_of g)) o q) ≡ false
    by b o (Some g) h = absurd (true≢false cc)
    by true None None h = refl
    by true (Some f) None h = refl
    by false o None h = refl

-- where a number is not kept, none depends on it, and it on none
pub none-on : (t : Timeline) (one : ℕ) → kept_footprint t one ≡ None → [] ≡ filter (λ k. depends_on t one k) t.kept
none-on t one none = sym (filter-nothing (λ k. depends_on t one k) t.kept (λ k. never-on t one k none))

pub none-of : (t : Timeline) (other : ℕ) → kept_footprint t other ≡ None → [] ≡ filter (λ k. depends_on t k other) t.kept
none-of t other none = sym (filter-nothing (λ k. depends_on t k other) t.kept (λ k. never-of t k other none))
