-- Steps by the cells at their places.
use Rattle.std.proofs.Common.{◌≡◌, ℕ, ◌<◌, Bool, true, false, cond, List, [], ◌∷◌, ◌++◌, Option, None, Some, IsSome, is_some, option_map, map, get_or, set, length, take, refl, sym, ap, ap₂, subst, ◌∙◌, zero, suc, nat_eq, arith}
use Rattle.std.specs.Prelude.{IfSome}
use Rattle.std.specs.FinSet as finset
use Rattle.std.specs.List.{IsDistinct}
use Rattle.std.specs.Ordering.{eq_by_cmp}
use Rattle.std.proofs.lemmas.List.{map-set, length-map}
use Rattle.rev_accesses.specs.Places as access_places
use Rattle.rev_accesses.specs.Places.{PlacesValue}
use Rattle.rev_accesses.specs.Value.{Prints}
use Rattle.rev_causal.specs.History.{event_at, numbered_by}
use Rattle.rev_causal.proofs.Chosen.{AllAccepted, some_is}
use Rattle.rev_cells.proofs.EntryLemmas.{cells_total}
use Rattle.rev_cells.specs.declared.cell.Cell.{Cell}
use Rattle.rev_cells.specs.declared.value.Value.{Value}
use Rattle.rev_cells.specs.Keys.{cell_cmp}
use Rattle.rev_cells.specs.Places.{AreWithin, IsGrown, cells_at, with_values}
use Rattle.rev_cells.proofs.PlacesLemmas.{cells_first, cells_grown, within_grown}
use Rattle.rev_events.specs.declared.event.Event.{Event}
use Rattle.rev_footprint.specs.Value as footprints
use Rattle.rev_footprint.specs.Value.{FootprintValue}
use Rattle.rev_history.specs.declared.history.History.TheInside.{Inside}
use Rattle.rev_history.specs.declared.steps.Step.{Step}
use Rattle.rev_history.specs.Sound.{ArePlacedIn, IsPlacedIn, beside_of}
use Rattle.rev_history.specs.Steps.{Beside, HasFootprints, HaveSteps, IsPrintAt, Placed, footprint_at, footprint_beside, footprint_by_places, footprint_in, named, place_prints, placed_print, print_of, prints_of, replaced_at, step_beside, step_in, step_value}
use Rattle.rev_history.specs.Named.{ArePaired, IsNamed}
use Rattle.rev_history.proofs.BesideKept.{mapped_beside}
use Rattle.rev_history.proofs.Fields.{map_end}
use Rattle.rev_history.proofs.Listed.{print_cells, print_whole}

-- the footprint beside a number is that of the step there
named_is : (cells : List Cell) (n : ℕ) (es : List (ℕ × Event)) (steps : List Placed) → footprint_beside n es (named cells steps) ≡ option_map (footprint_at cells) (step_beside n es steps)
named_is cells n es steps =
    ap footprint_in (mapped_beside (option_map (step_value cells)) n es steps) ∙ by (event_at n (numbered_by es steps))
  where
    by : (o : Option Placed) → footprint_in (option_map (option_map (step_value cells)) o) ≡ option_map (footprint_at cells) (step_in o)
    by None = refl
    by (Some None) = refl
    by (Some (Some s)) = refl

pub some_named : (cells : List Cell) (n : ℕ) (es : List (ℕ × Event)) (steps : List Placed) (s : Step) → Some s ≡ step_beside n es steps → Some (footprint_at cells s) ≡ footprint_beside n es (named cells steps)
some_named cells n es steps s is = ap (option_map (footprint_at cells)) is ∙ sym (named_is cells n es steps)

pub none_named : (cells : List Cell) (n : ℕ) (es : List (ℕ × Event)) (steps : List Placed) → None ≡ step_beside n es steps → None ≡ footprint_beside n es (named cells steps)
none_named cells n es steps is = ap (option_map (footprint_at cells)) is ∙ sym (named_is cells n es steps)

pub length_named : (cells : List Cell) (steps : List Placed) → length (named cells steps) ≡ length steps
length_named cells steps = length-map steps (option_map (step_value cells))

-- what stands at a place
pub get_named : (cells : List Cell) (steps : List Placed) (i : ℕ) (o : Placed) → o ≡ get_or steps i o
    → option_map (step_value cells) o ≡ get_or (map (option_map (step_value cells)) steps) i (option_map (step_value cells) o)
get_named cells [] i o is = refl
get_named cells (s ∷ steps) zero o is = ap (option_map (step_value cells)) is
get_named cells (s ∷ steps) (suc i) o is = get_named cells steps i o is

-- a step came or went
pub set_named : (a b : Inside) (i : ℕ) (o : Placed) → b.cells.places ≡ a.cells.places → b.steps.items ≡ set a.steps.items i o
    → beside_of b ≡ set (beside_of a) i (option_map (step_value a.cells.places) o)
set_named a b i o same is =
    (λ j. map (option_map (step_value (same j))) (is j)) ∙ map-set (option_map (step_value a.cells.places)) a.steps.items i o

pub same_named : (a b : Inside) → b.cells.places ≡ a.cells.places → b.steps.items ≡ a.steps.items → beside_of b ≡ beside_of a
same_named a b same is = λ j. map (option_map (step_value (same j))) (is j)

-- among more cells each has its place
footprint_grown : (old new : List Cell) (s : Step) → IsGrown old new → IsPlacedIn old s → footprint_at new s ≡ footprint_at old s
footprint_grown old new s grown placed =
    λ j. record {
      reads = finset.from_list (cells_grown old new s.places.read grown placed.read j);
      writes = cells_grown old new s.places.written grown placed.written j;
      whole = s.places.whole;
    }

replaced_grown : (old new : List Cell) (s : Step) → IsGrown old new → IsPlacedIn old s → replaced_at new s ≡ replaced_at old s
replaced_grown old new s grown placed = ap (λ (cs : List Cell). with_values cs s.replaced.items) (cells_grown old new s.places.written grown placed.written)

pub named_grown : (old new : List Cell) (steps : List Placed) → IsGrown old new → ArePlacedIn old steps → named new steps ≡ named old steps
named_grown old new [] grown placed = refl
named_grown old new (None ∷ steps) grown placed = ap (λ (xs : List Beside). None ∷ xs) (named_grown old new steps grown placed.1)
named_grown old new (Some s ∷ steps) grown placed =
    λ j. Some (record { footprint = footprint_grown old new s grown placed.0 j; replaced = replaced_grown old new s grown placed.0 j }) ∷ named_grown old new steps grown placed.1 j

module _ (old new : List Cell) (steps : List Placed) (s : Step) (grown : IsGrown old new) (placed : ArePlacedIn old steps) where
  pub end_grown : named new (steps ++ Some s ∷ []) ≡ named old steps ++ Some (step_value new s) ∷ []
  end_grown = map_end (option_map (step_value new)) steps (Some s) ∙ ap (λ (xs : List Beside). xs ++ Some (step_value new s) ∷ []) (named_grown old new steps grown placed)

  pub set_grown : (i : ℕ) → named new (set steps i (Some s)) ≡ set (named old steps) i (Some (step_value new s))
  set_grown i = map-set (option_map (step_value new)) steps i (Some s) ∙ ap (λ (xs : List Beside). set xs i (Some (step_value new s))) (named_grown old new steps grown placed)

pub placed_grown : (old new : List Cell) (steps : List Placed) → IsGrown old new → ArePlacedIn old steps → ArePlacedIn new steps
placed_grown old new [] grown placed = tt
placed_grown old new (None ∷ steps) grown placed = (tt, placed_grown old new steps grown placed.1)
placed_grown old new (Some s ∷ steps) grown placed =
    let read : cells_at new s.places.read ≡ cells_at old s.places.read = cells_grown old new s.places.read grown placed.0.read in
    let written : cells_at new s.places.written ≡ cells_at old s.places.written = cells_grown old new s.places.written grown placed.0.written in (
      record {
        read = within_grown old new s.places.read grown placed.0.read;
        written = within_grown old new s.places.written grown placed.0.written;
        distinct = subst (IsDistinct (eq_by_cmp cell_cmp)) (sym read) placed.0.distinct;
        first = ap₂ (λ (ws rs : List Cell). take (length ws) rs) written read ∙ placed.0.first ∙ sym written;
        many = placed.0.many;
      },
      placed_grown old new steps grown placed.1,
    )

pub placed_end : (cells : List Cell) (steps : List Placed) (s : Step) → ArePlacedIn cells steps → IsPlacedIn cells s → ArePlacedIn cells (steps ++ Some s ∷ [])
placed_end cells [] s placed own = (own, tt)
placed_end cells (x ∷ steps) s placed own = (placed.0, placed_end cells steps s placed.1 own)

pub placed_set : (cells : List Cell) (steps : List Placed) (i : ℕ) (o : Placed) → ArePlacedIn cells steps → IfSome o (IsPlacedIn cells) → ArePlacedIn cells (set steps i o)
placed_set cells [] i o placed own = tt
placed_set cells (x ∷ steps) zero o placed own = (own, placed.1)
placed_set cells (x ∷ steps) (suc i) o placed own = (placed.0, placed_set cells steps i o placed.1 own)

-- of a step that stands beside a number
pub placed_beside : (cells : List Cell) (n : ℕ) (es : List (ℕ × Event)) (steps : List Placed) (s : Step) → ArePlacedIn cells steps → Some s ≡ step_beside n es steps → IsPlacedIn cells s
placed_beside cells n [] steps s placed is = cc
placed_beside cells n (e ∷ es) [] s placed is = cc
placed_beside cells n (e ∷ es) (x ∷ steps) s placed is = by (nat_eq e.0 n) x placed.0 (placed_beside cells n es steps s placed.1) is
  where
    by : (b : Bool) (y : Placed) → IfSome y (IsPlacedIn cells) → (Some s ≡ step_beside n es steps → IsPlacedIn cells s)
        → Some s ≡ step_in (cond b (Some y) (event_at n (numbered_by es steps))) → IsPlacedIn cells s
    by true None own rest h = cc
    by true (Some z) own rest h = let same : s ≡ z = cc in subst (IsPlacedIn cells) (sym same) own
    by false y own rest h = rest h

-- a step at a place of a list
pub placed_at : (cells : List Cell) (steps : List Placed) (i : ℕ) (s : Step) → ArePlacedIn cells steps → i < length steps → Some s ≡ get_or steps i (Some s) → IsPlacedIn cells s
placed_at cells [] i s placed lt is = absurd (omega arith)
placed_at cells (x ∷ steps) zero s placed lt is = subst (λ (o : Placed). IfSome o (IsPlacedIn cells)) (sym is) placed.0
placed_at cells (x ∷ steps) (suc i) s placed lt is = placed_at cells steps i s placed.1 (omega arith) is

-- what the theory of undo sees of the footprint of places, and what the lists see of it
print_named : (cells : List Cell) (p : PlacesValue) → AreWithin cells p.read → AreWithin cells p.written → (b : Bool) → p.whole ≡ b
    → IsNamed cells (access_places.print_by b p.read p.written) (footprints.print_of (footprint_by_places cells p))
print_named cells p read written true whole = print_whole (footprint_by_places cells p) whole
print_named cells p read written false whole = record {
  listed = finset.items (finset.from_list {R = cell_cmp} (cells_at cells p.read));
  is = print_cells (footprint_by_places cells p) whole;
  same = λ c. sym (finset.contains-items (finset.from_list {R = cell_cmp} (cells_at cells p.read)) c) ∙ finset.contains-from_list cells_total (cells_at cells p.read) c;
  read = read;
  written = written;
}

step_named : (cells : List Cell) (s : Placed) → IfSome s (IsPlacedIn cells) → IsNamed cells (placed_print s) (print_of (option_map (step_value cells) s))
step_named cells None placed = record { listed = []; is = refl; same = λ c. refl; read = tt; written = tt }
step_named cells (Some s) placed = print_named cells s.places placed.read placed.written s.places.whole refl

-- the two of each number
pub steps_paired : (cells : List Cell) (es : List (ℕ × Event)) (steps : List Placed) → ArePlacedIn cells steps → ArePaired cells (place_prints es steps) (prints_of es (named cells steps))
steps_paired cells [] steps placed = tt
steps_paired cells (e ∷ es) [] placed = tt
steps_paired cells (e ∷ es) (s ∷ steps) placed = (refl, (step_named cells s placed.0, steps_paired cells es steps placed.1))

pub step_is_named : (cells : List Cell) (s : Step) → IsPlacedIn cells s → IsNamed cells (access_places.print_of s.places) (footprints.print_of (footprint_at cells s))
step_is_named cells s placed = step_named cells (Some s) placed

-- what the lists see beside a number
pub print_placed : (n : ℕ) (es : List (ℕ × Event)) (steps : List Placed) (s : Step) → Some s ≡ step_beside n es steps → event_at n (place_prints es steps) ≡ Some (access_places.print_of s.places)
print_placed n es steps s is = mapped_beside placed_print n es steps ∙ by (event_at n (numbered_by es steps)) is
  where
    by : (o : Option Placed) → Some s ≡ step_in o → option_map placed_print o ≡ Some (access_places.print_of s.places)
    by None h = cc
    by (Some None) h = cc
    by (Some (Some z)) h = let same : s ≡ z = cc in ap (λ x. Some (access_places.print_of x.places)) (sym same)

-- numbers with steps have footprints by places
pub steps_accepted : (es : List (ℕ × Event)) (steps : List Placed) (ks : List ℕ) → HaveSteps es steps ks → AllAccepted (place_prints es steps) ks
steps_accepted es steps [] all = tt
steps_accepted es steps (k ∷ ks) all =
    let s = some_is (step_beside k es steps) all.0 in
    (ap is_some (print_placed k es steps s.0 (sym s.1)), steps_accepted es steps ks all.1)

-- where footprints stand by cells, steps stand
pub steps_of_footprints : (cells : List Cell) (es : List (ℕ × Event)) (steps : List Placed) (ks : List ℕ) → HasFootprints es (named cells steps) ks → HaveSteps es steps ks
steps_of_footprints cells es steps [] all = tt
steps_of_footprints cells es steps (k ∷ ks) all =
    (some_behind (step_beside k es steps) (subst (λ o. IsSome o) (named_is cells k es steps) all.0), steps_of_footprints cells es steps ks all.1)
  where
    some_behind : (o : Option Step) → IsSome (option_map (footprint_at cells) o) → IsSome o
    some_behind None h = h
    some_behind (Some s) h = refl

-- places of a footprint's cells
within_take : (cells : List Cell) (w : ℕ) (ps : List ℕ) → AreWithin cells ps → AreWithin cells (take w ps)
within_take cells zero ps within = tt
within_take cells (suc w) [] within = tt
within_take cells (suc w) (p ∷ ps) within = (within.0, within_take cells w ps within.1)

pub print_at : (cells given : List Cell) (w : ℕ) (ps : List ℕ) (f : FootprintValue) → cells_at cells ps ≡ given → AreWithin cells ps → finset.from_list given ≡ f.reads → take w given ≡ f.writes
    → IsDistinct (eq_by_cmp cell_cmp) given → take (length f.writes) given ≡ f.writes → IsPrintAt cells f (record { read = ps; written = take w ps; whole = f.whole })
print_at cells given w ps f are within reads writes distinct first =
    let read : finset.from_list (cells_at cells ps) ≡ f.reads = ap finset.from_list are ∙ reads in
    let written : cells_at cells (take w ps) ≡ f.writes = cells_first cells w ps within ∙ ap (take w) are ∙ writes in
    record {
      is = λ j. record { reads = read j; writes = written j; whole = f.whole };
      read = within;
      written = within_take cells w ps within;
      distinct = subst (IsDistinct (eq_by_cmp cell_cmp)) (sym are) distinct;
      first = ap₂ (λ (ws rs : List Cell). take (length ws) rs) written are ∙ first ∙ sym written;
    }
