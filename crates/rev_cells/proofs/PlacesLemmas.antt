-- Cells at places, and what a write at a place does.
use Rattle.std.proofs.Common.{◌≡◌, ℕ, ◌<◌, ◌≤◌, cond, List, [], ◌∷◌, ◌++◌, Option, None, Some, option_map, Contains, length, take, get_or, set, slice_get, refl, sym, ap, ap₂, subst, ◌∙◌, zero, suc, arith}
use Rattle.std.specs.List.{AllByRecursion, cons_option}
use Rattle.std.specs.Map.{lookup, keys_of, values_of}
use Rattle.std.specs.Prelude.{position}
use Rattle.std.proofs.lemmas.List.Quantifiers.{position-Some}
use Rattle.std.proofs.lemmas.Option.{get_or_from_slice_get, slice_get-get_or, slice_get_within}
use Rattle.indexmap.specs.IndexMap.{IndexMap, IsUnique, values, set_value_at}
use Rattle.indexmap.proofs.CallerLemmas.{updates-with_value_at}
use Rattle.rev_cells.specs.declared.cell.Cell.{Cell}
use Rattle.rev_cells.specs.declared.value.Value.{Value}
use Rattle.rev_cells.specs.Effects.{cells_of}
use Rattle.rev_cells.specs.Same.{cell_eq, cell_eq-exact, cell_eq_equiv}
use Rattle.rev_cells.specs.Table.{Table}
use Rattle.rev_cells.specs.Places.{AreWithin, IsGrown, cells_at, with_values}

-- MORE PLACES
cons_before : (o : Option Cell) (xs ys : List Cell) → cons_option o (xs ++ ys) ≡ cons_option o xs ++ ys
cons_before None xs ys = refl
cons_before (Some c) xs ys = refl

pub cells_append : (cells : List Cell) (ps qs : List ℕ) → cells_at cells (ps ++ qs) ≡ cells_at cells ps ++ cells_at cells qs
cells_append cells [] qs = refl
cells_append cells (p ∷ ps) qs =
    ap (cons_option (slice_get cells p)) (cells_append cells ps qs) ∙ cons_before (slice_get cells p) (cells_at cells ps) (cells_at cells qs)

pub within_end : (cells : List Cell) (ps : List ℕ) (p : ℕ) → AreWithin cells ps → p < length cells → AreWithin cells (ps ++ p ∷ [])
within_end cells [] p within lt = (lt, tt)
within_end cells (q ∷ ps) p within lt = (within.0, within_end cells ps p within.1 lt)

-- MORE CELLS
get_more : (cells more : List Cell) (p : ℕ) → p < length cells → slice_get (cells ++ more) p ≡ slice_get cells p
get_more [] more p lt = absurd (omega arith)
get_more (c ∷ cells) more zero lt = refl
get_more (c ∷ cells) more (suc p) lt = get_more cells more p (omega arith)

-- cells keep their places
pub cells_kept : (cells more : List Cell) (ps : List ℕ) → AreWithin cells ps → cells_at (cells ++ more) ps ≡ cells_at cells ps
cells_kept cells more [] within = refl
cells_kept cells more (p ∷ ps) within = ap₂ cons_option (get_more cells more p within.0) (cells_kept cells more ps within.1)

pub cells_grown : (old new : List Cell) (ps : List ℕ) → IsGrown old new → AreWithin old ps → cells_at new ps ≡ cells_at old ps
cells_grown old new ps grown within = ap (λ cs. cells_at cs ps) grown.is ∙ cells_kept old grown.more ps within

length_more : (cells more : List Cell) → length cells ≤ length (cells ++ more)
length_more [] more = omega arith
length_more (c ∷ cells) more = let rest : length cells ≤ length (cells ++ more) = length_more cells more in omega arith

pub within_grown : (old new : List Cell) (ps : List ℕ) → IsGrown old new → AreWithin old ps → AreWithin new ps
within_grown old new [] grown within = tt
within_grown old new (p ∷ ps) grown within =
    let more : length old ≤ length new = subst (λ cs. length old ≤ length cs) (sym grown.is) (length_more old grown.more) in
    let here : p < length old = within.0 in
    (omega arith, within_grown old new ps grown within.1)

append_none : (xs : List Cell) → xs ++ [] ≡ xs
append_none [] = refl
append_none (x ∷ xs) = ap (λ ys. x ∷ ys) (append_none xs)

append_assoc : (xs ys zs : List Cell) → (xs ++ ys) ++ zs ≡ xs ++ (ys ++ zs)
append_assoc [] ys zs = refl
append_assoc (x ∷ xs) ys zs = ap (λ vs. x ∷ vs) (append_assoc xs ys zs)

pub grown_not : (old new : List Cell) → new ≡ old → IsGrown old new
grown_not old new same = record { more = []; is = same ∙ sym (append_none old) }

pub grown_then : (a b c : List Cell) → IsGrown a b → IsGrown b c → IsGrown a c
grown_then a b c f g = record { more = f.more ++ g.more; is = g.is ∙ ap (λ cs. cs ++ g.more) f.is ∙ append_assoc a f.more g.more }

-- EACH PLACE HAS ITS CELL
pub some_within : (cells : List Cell) (p : ℕ) → p < length cells → (c : Cell) × (slice_get cells p ≡ Some c)
some_within [] p lt = absurd (omega arith)
some_within (c ∷ cells) zero lt = (c, refl)
some_within (c ∷ cells) (suc p) lt = some_within cells p (omega arith)

pub length_cells : (cells : List Cell) (ps : List ℕ) → AreWithin cells ps → length (cells_at cells ps) ≡ length ps
length_cells cells [] within = refl
length_cells cells (p ∷ ps) within =
    let some = some_within cells p within.0 in
    let rest : length (cells_at cells ps) ≡ length ps = length_cells cells ps within.1 in
    let more : length (some.0 ∷ cells_at cells ps) ≡ length (p ∷ ps) = omega (arith, rest) in
    ap (λ o. length (cons_option o (cells_at cells ps))) some.1 ∙ more

pub place_within : (cells : List Cell) (ps : List ℕ) (i : ℕ) → AreWithin cells ps → i < length ps → get_or ps i 0 < length cells
place_within cells [] i within lt = absurd (omega (arith, lt))
place_within cells (q ∷ ps) zero within lt = within.0
place_within cells (q ∷ ps) (suc i) within lt = place_within cells ps i within.1 (omega (arith, lt))

pub cell_there : (cells : List Cell) (ps : List ℕ) (i : ℕ) → AreWithin cells ps → i < length ps → slice_get cells (get_or ps i 0) ≡ slice_get (cells_at cells ps) i
cell_there cells [] i within lt = absurd (omega (arith, lt))
cell_there cells (q ∷ ps) zero within lt =
    let some = some_within cells q within.0 in some.1 ∙ sym (ap (λ o. slice_get (cons_option o (cells_at cells ps)) zero) some.1)
cell_there cells (q ∷ ps) (suc i) within lt =
    let some = some_within cells q within.0 in
    cell_there cells ps i within.1 (omega (arith, lt)) ∙ sym (ap (λ o. slice_get (cons_option o (cells_at cells ps)) (suc i)) some.1)

-- the first places are those of the first cells
pub cells_first : (cells : List Cell) (w : ℕ) (ps : List ℕ) → AreWithin cells ps → cells_at cells (take w ps) ≡ take w (cells_at cells ps)
cells_first cells zero ps within = refl
cells_first cells (suc w) [] within = refl
cells_first cells (suc w) (p ∷ ps) within =
    let some = some_within cells p within.0 in
    ap (λ o. cons_option o (cells_at cells (take w ps))) some.1 ∙ ap (λ cs. some.0 ∷ cs) (cells_first cells w ps within.1)
    ∙ sym (ap (λ o. take (suc w) (cons_option o (cells_at cells ps))) some.1)

-- a cell that is found stands at its place
pub found_at : (c : Cell) (cells : List Cell) (i : ℕ) → Some i ≡ position (cell_eq c) cells → slice_get cells i ≡ Some c
found_at c cells i e =
    let found = position-Some (cell_eq c) cells i c (sym e) in
    slice_get-get_or cells i c found.0 ∙ ap Some (sym (cell_eq-exact c (get_or cells i c) found.1))

-- and one that comes behind the others at the last
pub last_there : (cells : List Cell) (c : Cell) → slice_get (cells ++ c ∷ []) (length cells) ≡ Some c
last_there [] c = refl
last_there (e ∷ cells) c = last_there cells c

-- A WRITE AT A PLACE
-- the value at a place, its cell, and what a write of it changes
pub record IsPlaced (es : List (Cell × Value)) (i : ℕ) (v : Value) : Type 0 where
  pub cell : Cell
  pub key : slice_get (keys_of es) i ≡ Some cell
  pub found : lookup (cell_eq cell) es ≡ Some v
  pub keys : (w : Value) → keys_of (set_value_at es i w) ≡ keys_of es
  pub written : (w : Value) (q : Cell) → lookup (cell_eq q) (set_value_at es i w) ≡ cond (cell_eq cell q) (Some w) (lookup (cell_eq q) es)

key_at : (es : List (Cell × Value)) (i : ℕ) (c : Cell) (v : Value) → slice_get es i ≡ Some (c, v) → slice_get (keys_of es) i ≡ Some c
key_at [] i c v at = cc
key_at (e ∷ es) zero c v at = ap (option_map (λ (x : Cell × Value). x.0)) at
key_at (e ∷ es) (suc i) c v at = key_at es i c v at

entry_at : (es : List (Cell × Value)) (i : ℕ) (v : Value) → Some v ≡ slice_get (values_of es) i → (c : Cell) × (slice_get es i ≡ Some (c, v))
entry_at [] i v at = cc
entry_at (e ∷ es) zero v at = let same : v ≡ e.1 = cc in (e.0, ap (λ x. Some (e.0, x)) (sym same))
entry_at (e ∷ es) (suc i) v at = entry_at es i v at

set_same : (es : List (Cell × Value)) (i : ℕ) (c : Cell) (v : Value) → slice_get es i ≡ Some (c, v) → set_value_at es i v ≡ es
set_same [] i c v at = refl
set_same (e ∷ es) zero c v at = let same : e ≡ (c, v) = cc in ap (λ (x : Cell × Value). (x.0, v) ∷ es) same ∙ ap (λ x. x ∷ es) (sym same)
set_same (e ∷ es) (suc i) c v at = ap (λ xs. e ∷ xs) (set_same es i c v at)

same_keys : (es : List (Cell × Value)) (i : ℕ) (w : Value) → keys_of (set_value_at es i w) ≡ keys_of es
same_keys [] i w = refl
same_keys (e ∷ es) zero w = refl
same_keys (e ∷ es) (suc i) w = ap (λ ks. e.0 ∷ ks) (same_keys es i w)

pub is_placed : {S : Type 0} (m : IndexMap Cell Value S) (i : ℕ) (v : Value) → IsUnique cell_eq m → Some v ≡ slice_get (values m) i → IsPlaced m.entries i v
is_placed m i v unique at =
    let entry = entry_at m.entries i v at in record {
      cell = entry.0;
      key = key_at m.entries i entry.0 v entry.1;
      found = ap (λ (es : List (Cell × Value)). lookup (cell_eq entry.0) es) (sym (set_same m.entries i entry.0 v entry.1)) ∙ (updates-with_value_at m i v cell_eq_equiv unique entry.0 v entry.1).1;
      keys = same_keys m.entries i;
      written = λ w. (updates-with_value_at m i w cell_eq_equiv unique entry.0 v entry.1).0;
    }

-- no value stands behind the last place
pub value_within : (es : List (Cell × Value)) (i : ℕ) → i < length (keys_of es) → None ≡ slice_get (values_of es) i → ⊥
value_within [] i lt none = absurd (omega arith)
value_within (e ∷ es) zero lt none = cc
value_within (e ∷ es) (suc i) lt none = value_within es i (omega arith) none

pub one_cell : (cells : List Cell) (i : ℕ) (c d : Cell) → slice_get cells i ≡ Some c → slice_get cells i ≡ Some d → c ≡ d
one_cell cells i c d at there = let both : Some c ≡ Some d = sym at ∙ there in cc

pub contains_at : (cells : List Cell) (q : ℕ) (d : Cell) → slice_get cells q ≡ Some d → Contains cells d
contains_at cells q d at = (q, slice_get_within cells q d at, get_or_from_slice_get cells q d d at)

-- CELLS WITH VALUES
pub has_places : (t : Table) (ps : List ℕ) (vs : List Value) → AreWithin t.places ps → AllByRecursion (λ (w : Cell × Value). Contains t.places w.0) (with_values (cells_at t.places ps) vs)
has_places t [] vs within = tt
has_places t (p ∷ ps) [] within =
    let some = some_within t.places p within.0 in
    subst (λ o. AllByRecursion (λ (w : Cell × Value). Contains t.places w.0) (with_values (cons_option o (cells_at t.places ps)) [])) (sym some.1) tt
has_places t (p ∷ ps) (v ∷ vs) within =
    let some = some_within t.places p within.0 in
    subst (λ o. AllByRecursion (λ (w : Cell × Value). Contains t.places w.0) (with_values (cons_option o (cells_at t.places ps)) (v ∷ vs))) (sym some.1)
    (contains_at t.places p some.0 some.1, has_places t ps vs within.1)

pub length_with : (cs : List Cell) (vs : List Value) → length vs ≡ length cs → length (with_values cs vs) ≡ length cs
length_with [] vs many = refl
length_with (c ∷ cs) [] many = absurd (omega arith)
length_with (c ∷ cs) (v ∷ vs) many = let rest : length (with_values cs vs) ≡ length cs = length_with cs vs (omega arith) in omega arith

pub cells_with : (cs : List Cell) (vs : List Value) → length vs ≡ length cs → cells_of (with_values cs vs) ≡ cs
cells_with [] vs many = refl
cells_with (c ∷ cs) [] many = absurd (omega arith)
cells_with (c ∷ cs) (v ∷ vs) many = ap (λ xs. c ∷ xs) (cells_with cs vs (omega arith))

-- the pair at a place
pub get_with : (cs : List Cell) (vs : List Value) (i : ℕ) (c : Cell) (v : Value) → length vs ≡ length cs → slice_get cs i ≡ Some c → v ≡ get_or vs i v → (c, v) ≡ get_or (with_values cs vs) i (c, v)
get_with [] vs i c v many at is = cc
get_with (d ∷ cs) [] i c v many at is = absurd (omega arith)
get_with (d ∷ cs) (w ∷ vs) zero c v many at is = let same : d ≡ c = cc in (λ j. (sym same j, is j))
get_with (d ∷ cs) (w ∷ vs) (suc i) c v many at is = get_with cs vs i c v (omega arith) at is

pub set_with : (cs : List Cell) (vs : List Value) (i : ℕ) (c : Cell) (v : Value) → slice_get cs i ≡ Some c → with_values cs (set vs i v) ≡ set (with_values cs vs) i (c, v)
set_with [] vs i c v at = refl
set_with (d ∷ cs) [] i c v at = refl
set_with (d ∷ cs) (w ∷ vs) zero c v at = let same : d ≡ c = cc in ap (λ k. (k, v) ∷ with_values cs vs) same
set_with (d ∷ cs) (w ∷ vs) (suc i) c v at = ap (λ xs. (d, w) ∷ xs) (set_with cs vs i c v at)
