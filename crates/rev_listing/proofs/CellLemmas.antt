-- The cells that are not at their default, in order.
use Rattle.std.proofs.Common.{◌≡◌, ℕ, zero, suc, ◌<◌, ◌≤◌, ◌+◌, Bool, true, false, cond, not, ◌||◌, ◌&&◌, List, [], ◌∷◌, ◌++◌, Option, Some, None, IsSome, Contains, map, filter, length, take, slice_get, get_or, refl, sym, ap, subst, ◌∙◌, arith, ◌⊎◌, inl, inr}
use Rattle.std.proofs.lemmas.List.{take_more, take_all}
use Rattle.std.proofs.lemmas.Option.{slice_get_within, get_or_from_slice_get, slice_get_cases}
use lib.Dec.{T}
use Rattle.std.specs.declared.cmp.Ordering.{Ordering}
use Rattle.std.specs.declared.cmp.Ordering.TheVariants.{Less, Equal, Greater}
use Rattle.std.specs.Option.{option_map}
use Rattle.std.specs.Ordering.{eq_by_cmp, is_eq, is_lt, match_ordering, nat_cmp, ordering_then}
use Rattle.std.specs.Cmp.{tied_itself}
use Rattle.std.specs.FinMap.{find, put, is_sorted}
use Rattle.std.specs.FinMap as map
use Rattle.std.specs.FinMap.Entries.{by_order, is_sorted-put, find-put, same_entries, below_all, where_key, is_sorted-where_key, find-where_key}
use Rattle.std.specs.BTreeMap.{insert_entry}
use Rattle.std.specs.List.{list_any}
use Rattle.rev_cells.specs.declared.cell.Cell.{Cell}
use Rattle.rev_cells.specs.declared.cell.Cell.TheVariants as cell
use Rattle.rev_cells.specs.declared.value.Value.{Value}
use Rattle.rev_cells.specs.contracts.cell.CellOrd.TheImpl as order
use Rattle.rev_cells.specs.Keys.{cell_cmp}
use Rattle.rev_cells.specs.Values.{default_of, is_default}
use Rattle.rev_cells.specs.State.{State, default_or}
use Rattle.rev_cells.proofs.EntryLemmas.{cells_exact, cells_total}
use Rattle.rev_listing.specs.Listing.{is_there, is_told}
use Rattle.rev_listing.specs.declared.nondefault_cells.Kinds.{Kinds}
use Rattle.rev_listing.proofs.LineLemmas.{cells_of}

abbrev pub cell_ord : Cell → Cell → Ordering
cell_ord = order.ghosts.cmp

abbrev pub unit : Unit {0}
unit = tt

then_equal : (r : Ordering) → r ≡ ordering_then r Equal
then_equal Less = refl
then_equal Equal = refl
then_equal Greater = refl

-- the derived order is that of the cells' numbers
cell_ord-cmp : (a b : Cell) → cell_ord a b ≡ cell_cmp a b
cell_ord-cmp (cell.Stamp p) (cell.Stamp q) = refl
cell_ord-cmp (cell.Mark p) (cell.Mark q) = then_equal (nat_cmp p q)
cell_ord-cmp (cell.Job p) (cell.Job q) = then_equal (nat_cmp p q)
cell_ord-cmp (cell.Slot p i) (cell.Slot q j) = ap (ordering_then (nat_cmp p q)) (then_equal (nat_cmp i j))
cell_ord-cmp (cell.Depth p) (cell.Depth q) = then_equal (nat_cmp p q)
cell_ord-cmp (cell.Built p) (cell.Built q) = refl
cell_ord-cmp (cell.Deps p) (cell.Deps q) = refl
cell_ord-cmp cell.Halted cell.Halted = refl
cell_ord-cmp _ _ = refl

pub cell_ord-is : cell_ord ≡ cell_cmp
cell_ord-is i a b = cell_ord-cmp a b i

abbrev Entry : Type 0
Entry = Cell × Unit {0}

insert-put : (es : List Entry) (k : Cell) → insert_entry cell_cmp es k tt ≡ put cell_cmp k tt es
insert-put [] k = refl
insert-put (e ∷ es) k =
    elim (cell_cmp k e.0) as (λ r. match_ordering r ((k, tt) ∷ e ∷ es) ((e.0, tt) ∷ es) (e ∷ insert_entry cell_cmp es k tt) ≡ by_order r ((k, tt) ∷ e ∷ es) ((e.0, tt) ∷ es) (e ∷ put cell_cmp k tt es)) [
      | Less ↦ refl
      | Equal ↦ refl
      | Greater ↦ ap (λ l. e ∷ l) (insert-put es k)
    ]

same_cell : (p q : Cell) → eq_by_cmp cell_cmp p q ≡ true → p ≡ q
same_cell p q e = cells_exact p q (equal (cell_cmp p q) e)
  where
    equal : (r : Ordering) → is_eq r ≡ true → r ≡ Equal
    equal Less e = let no : false ≡ true = e in cc
    equal Equal e = refl
    equal Greater e = let no : false ≡ true = e in cc

-- something where a test holds
abbrev pub given : Bool → Option (Unit {0})
given b = cond b (Some unit) None

-- whether a cell is among these and a test holds of it
abbrev pub among : (Cell → Bool) → List Cell → Cell → Option (Unit {0})
among p cells q = cond (p q) (cond (list_any (eq_by_cmp cell_cmp q) cells) (Some unit) None) None

-- entries in order, with the cells of which a test holds and no others
pub record AreThere (p : Cell → Bool) (cells : List Cell) (es : List (Cell × Unit {0})) : Type 0 where
  pub sorted : T (is_sorted cell_cmp es)
  pub found : (q : Cell) → find cell_cmp q es ≡ among p cells q

-- what is among no cells
abbrev among-none : Bool → Option (Unit {0})
among-none b = cond b (cond false (Some unit) None) None

pub none_there : (p : Cell → Bool) (es : List (Cell × Unit {0})) → es ≡ [] → AreThere p [] es
none_there p es e = subst (AreThere p []) (sym e) (record { sorted = tt; found = λ q. sym (nothing (p q)) })
  where
    nothing : (b : Bool) → among-none b ≡ None
    nothing true = refl
    nothing false = refl

any_pushed : (f : Cell → Bool) (xs : List Cell) (y : Cell) → list_any f (xs ++ y ∷ []) ≡ (list_any f xs || f y)
any_pushed f [] y = or_false (f y)
  where
    or_false : (b : Bool) → (b || false) ≡ b
    or_false true = refl
    or_false false = refl
any_pushed f (x ∷ xs) y = ap (λ b. f x || b) (any_pushed f xs y) ∙ or_assoc (f x) (list_any f xs) (f y)
  where
    or_assoc : (a b c : Bool) → (a || (b || c)) ≡ ((a || b) || c)
    or_assoc true b c = refl
    or_assoc false b c = refl

among-pushed : (p : Cell → Bool) (cells : List Cell) (c q : Cell) → among p (cells ++ c ∷ []) q ≡ cond (p q) (cond (list_any (eq_by_cmp cell_cmp q) cells || eq_by_cmp cell_cmp q c) (Some unit) None) None
among-pushed p cells c q = ap (λ b. cond (p q) (cond b (Some unit) None) None) (any_pushed (eq_by_cmp cell_cmp q) cells c)

-- a cell of which it does not hold
skipped : (p : Cell → Bool) (cells : List Cell) (c q : Cell) → p c ≡ false → among p cells q ≡ among p (cells ++ c ∷ []) q
skipped p cells c q default = at (eq_by_cmp cell_cmp q c) refl ∙ sym (among-pushed p cells c q)
  where
    or_false : (a : Bool) → given a ≡ given (a || false)
    or_false true = refl
    or_false false = refl

    at : (b : Bool) → eq_by_cmp cell_cmp q c ≡ b → among p cells q ≡ cond (p q) (cond (list_any (eq_by_cmp cell_cmp q) cells || eq_by_cmp cell_cmp q c) (Some unit) None) None
    at true same =
        let none : p q ≡ false = ap p (same_cell q c same) ∙ default in
        ap (λ b. cond b (cond (list_any (eq_by_cmp cell_cmp q) cells) (Some unit) None) None) none ∙ sym (ap (λ b. cond b (cond (list_any (eq_by_cmp cell_cmp q) cells || eq_by_cmp cell_cmp q c) (Some unit) None) None) none)
    at false other =
        ap (λ o. cond (p q) o None) (or_false (list_any (eq_by_cmp cell_cmp q) cells))
        ∙ sym (ap (λ b. cond (p q) (cond (list_any (eq_by_cmp cell_cmp q) cells || b) (Some unit) None) None) other)

-- a cell of which it holds
added : (p : Cell → Bool) (cells : List Cell) (c q : Cell) → p c ≡ true → cond (eq_by_cmp cell_cmp q c) (Some unit) (among p cells q) ≡ among p (cells ++ c ∷ []) q
added p cells c q there = at (eq_by_cmp cell_cmp q c) refl ∙ sym (among-pushed p cells c q)
  where
    or_true : (a : Bool) → given true ≡ given (a || true)
    or_true true = refl
    or_true false = refl

    or_false : (a : Bool) → given a ≡ given (a || false)
    or_false true = refl
    or_false false = refl

    at : (b : Bool) → eq_by_cmp cell_cmp q c ≡ b → cond (eq_by_cmp cell_cmp q c) (Some unit) (among p cells q) ≡ cond (p q) (cond (list_any (eq_by_cmp cell_cmp q) cells || eq_by_cmp cell_cmp q c) (Some unit) None) None
    at true same =
        let some : p q ≡ true = ap p (same_cell q c same) ∙ there in
        ap (λ b. cond b (Some unit) (among p cells q)) same ∙ or_true (list_any (eq_by_cmp cell_cmp q) cells)
        ∙ sym (ap (λ b. cond b (cond (list_any (eq_by_cmp cell_cmp q) cells || eq_by_cmp cell_cmp q c) (Some unit) None) None) some
        ∙ ap (λ b. cond (list_any (eq_by_cmp cell_cmp q) cells || b) (Some unit) None) same)
    at false other =
        ap (λ b. cond b (Some unit) (among p cells q)) other ∙ ap (λ o. cond (p q) o None) (or_false (list_any (eq_by_cmp cell_cmp q) cells))
        ∙ sym (ap (λ b. cond (p q) (cond (list_any (eq_by_cmp cell_cmp q) cells || b) (Some unit) None) None) other)

next_place : (places : List Cell) (i : ℕ) (c : Cell) → Some c ≡ slice_get places i → take (i + 1) places ≡ take i places ++ c ∷ []
next_place places i c here =
    take_more places i c (slice_get_within places i c (sym here)) ∙ ap (λ x. take i places ++ x ∷ []) (get_or_from_slice_get places i c c (sym here))

pub place_within : (places : List Cell) (i : ℕ) (c : Cell) → Some c ≡ slice_get places i → i < length places
place_within places i c here = slice_get_within places i c (sym here)

pub skips_default : (p : Cell → Bool) (places : List Cell) (i : ℕ) (c : Cell) (es : List (Cell × Unit {0})) → Some c ≡ slice_get places i → p c ≡ false → AreThere p (take i places) es → AreThere p (take (i + 1) places) es
skips_default p places i c es here default l =
    subst (λ cs. AreThere p cs es) (sym (next_place places i c here)) (record { sorted = l.sorted; found = λ q. l.found q ∙ skipped p (take i places) c q default })

pub puts_cell : (p : Cell → Bool) (places : List Cell) (i : ℕ) (c k : Cell) (es new : List (Cell × Unit {0})) → Some c ≡ slice_get places i → p c ≡ true → k ≡ c → new ≡ insert_entry cell_ord es k tt → AreThere p (take i places) es → AreThere p (take (i + 1) places) new
puts_cell p places i c k es new here there copied put_in l =
    let entries : new ≡ put cell_cmp c tt es = put_in ∙ ap (λ o. insert_entry o es k tt) cell_ord-is ∙ ap (λ x. insert_entry cell_cmp es x tt) copied ∙ insert-put es c in
    let whole : AreThere p (take i places ++ c ∷ []) (put cell_cmp c tt es) = record {
      sorted = is_sorted-put cell_cmp cells_total c tt es l.sorted;
      found = λ q. find-put cell_cmp cells_total q c tt es ∙ ap (λ o. cond (eq_by_cmp cell_cmp q c) (Some unit) o) (l.found q) ∙ added p (take i places) c q there;
    } in
    subst (λ cs. AreThere p cs new) (sym (next_place places i c here)) (subst (AreThere p (take i places ++ c ∷ [])) (sym entries) whole)

-- entries without their values
abbrev forget : List (Cell × Value) → List Entry
forget es = map (λ e. (e.0, tt)) es

below-forget : (k : Cell) (es : List (Cell × Value)) → below_all cell_cmp k (forget es) ≡ below_all cell_cmp k es
below-forget k [] = refl
below-forget k (e ∷ es) = ap (λ b. is_lt (cell_cmp k e.0) && b) (below-forget k es)

sorted-forget : (es : List (Cell × Value)) → is_sorted cell_cmp (forget es) ≡ is_sorted cell_cmp es
sorted-forget [] = refl
sorted-forget (e ∷ es) = ap (λ b. b && is_sorted cell_cmp (forget es)) (below-forget e.0 es) ∙ ap (λ b. below_all cell_cmp e.0 es && b) (sorted-forget es)

find-forget : (q : Cell) (es : List (Cell × Value)) → find cell_cmp q (forget es) ≡ option_map (λ _. unit) (find cell_cmp q es)
find-forget q [] = refl
find-forget q (e ∷ es) = elim (eq_by_cmp cell_cmp q e.0) as (λ b. cond b (Some unit) (find cell_cmp q (forget es)) ≡ option_map (λ _. unit) (cond b (Some e.1) (find cell_cmp q es))) [ true ↦ refl | false ↦ find-forget q es ]

cells-forget : (es : List (Cell × Value)) → cells_of (forget es) ≡ map (λ e. e.0) es
cells-forget [] = refl
cells-forget (e ∷ es) = ap (λ l. e.0 ∷ l) (cells-forget es)

keys-where : (p : Cell → Bool) (es : List (Cell × Value)) → map (λ (e : Cell × Value). e.0) (where_key cell_cmp p es) ≡ filter p (map (λ (e : Cell × Value). e.0) es)
keys-where p [] = refl
keys-where p (e ∷ es) = elim (p e.0) as (λ b. map (λ (e : Cell × Value). e.0) (cond b (e ∷ where_key cell_cmp p es) (where_key cell_cmp p es)) ≡ cond b (e.0 ∷ filter p (map (λ (e : Cell × Value). e.0) es)) (filter p (map (λ (e : Cell × Value). e.0) es))) [ true ↦ ap (λ l. e.0 ∷ l) (keys-where p es) | false ↦ keys-where p es ]

-- an option without its value
abbrev forgotten : Option Value → Option (Unit {0})
forgotten o = option_map (λ _. unit) o

-- a default is no record
default-default : (c : Cell) → is_default (default_of c) ≡ true
default-default (cell.Stamp path) = refl
default-default (cell.Mark edge) = refl
default-default (cell.Job job) = refl
default-default (cell.Slot pool place) = refl
default-default (cell.Depth pool) = refl
default-default (cell.Built path) = refl
default-default (cell.Deps path) = refl
default-default cell.Halted = refl

there-some : (c : Cell) (o : Option Value) → not (is_default (default_or c o)) ≡ true → (forgotten o ≡ Some unit) × IsSome o
there-some c None h = let no : false ≡ true = sym (ap not (default-default c)) ∙ h in absurd (cc)
there-some c (Some v) h = (refl, refl)

any_at : (q : Cell) (cs : List Cell) (i : ℕ) → i < length cs → get_or cs i q ≡ q → list_any (eq_by_cmp cell_cmp q) cs ≡ true
any_at q [] i h at = absurd (omega arith)
any_at q (c ∷ cs) zero h at = ap (λ x. eq_by_cmp cell_cmp q x || list_any (eq_by_cmp cell_cmp q) cs) at ∙ ap (λ r. is_eq r || list_any (eq_by_cmp cell_cmp q) cs) (tied_itself cells_total q)
any_at q (c ∷ cs) (suc i) h at = or_true (eq_by_cmp cell_cmp q c) (list_any (eq_by_cmp cell_cmp q) cs) (any_at q cs i (omega arith) at)
  where
    or_true : (a b : Bool) → b ≡ true → (a || b) ≡ true
    or_true true b e = refl
    or_true false b e = e

-- entries of all places are those of the cells of which a test holds that holds of no default
pub all_there : (s : State) (p : Cell → Bool) → ((q : Cell) → p q ≡ true → is_there s q ≡ true) → (places : List Cell) (i : ℕ) (es : List (Cell × Unit {0})) → None ≡ slice_get places i → ((c : Cell) → IsSome (map.get s c) → Contains places c) → AreThere p (take i places) es → cells_of es ≡ filter p (map.keys s)
all_there s p only places i es none all l =
    ap cells_of (same_entries cell_cmp cells_total cells_exact es (forget kept) l.sorted sorted (λ q. l.found q ∙ ap (λ cs. among p cs q) (take_all i places past) ∙ same q (p q) refl ∙ sym (found q)))
    ∙ cells-forget kept ∙ keys-where p (map.entries s)
  where
    kept : List (Cell × Value)
    kept = where_key cell_cmp p (map.entries s)

    past : length places ≤ i
    past = by (slice_get_cases places i).1
      where
        by : ((x : Cell) × (i < length places) × (slice_get places i ≡ Some x) × (get_or places i x ≡ x)) ⊎ ((length places ≤ i) × (slice_get places i ≡ None)) → length places ≤ i
        by (inl h) = let some : slice_get places i ≡ Some h.0 = h.2 in cc
        by (inr h) = h.0

    sorted : T (is_sorted cell_cmp (forget kept))
    sorted = subst T (sym (sorted-forget kept)) (is_sorted-where_key cell_cmp p (map.entries s) (map.entries_sorted s))

    found : (q : Cell) → find cell_cmp q (forget kept) ≡ cond (p q) (forgotten (map.get s q)) None
    found q =
        find-forget q kept ∙ ap forgotten (find-where_key cell_cmp p q (λ x tie. ap p (sym (cells_exact q x tie))) (map.entries s))
        ∙ inside (p q) ∙ ap (λ o. cond (p q) (forgotten o) None) (sym (map.get-entries s q))
      where
        inside : (b : Bool) → forgotten (cond b (find cell_cmp q (map.entries s)) None) ≡ cond b (forgotten (find cell_cmp q (map.entries s))) None
        inside true = refl
        inside false = refl

    same : (q : Cell) (b : Bool) → p q ≡ b → among p places q ≡ cond (p q) (forgotten (map.get s q)) None
    same q true there =
        let h = there-some q (map.get s q) (only q there) in
        let at : Contains places q = all q h.1 in
        ap (λ o. cond (p q) o None) (ap (λ b. cond b (Some unit) None) (any_at q places at.0 at.1 at.2) ∙ sym h.0)
    same q false default =
        ap (λ b. cond b (cond (list_any (eq_by_cmp cell_cmp q) places) (Some unit) None) None) default ∙ sym (ap (λ b. cond b (forgotten (map.get s q)) None) default)

second : (a b : Bool) → (a && b) ≡ true → b ≡ true
second true b h = h
second false b h = let no : false ≡ true = h in cc

-- a cell that is told is there
pub told_there : (k : Kinds) (s : State) (q : Cell) → is_told k s q ≡ true → is_there s q ≡ true
told_there k s q h = second _ (is_there s q) h
