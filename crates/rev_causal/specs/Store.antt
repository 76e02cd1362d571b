-- A machine over a finite map from cells to values, made from a table of its events. A cell at its default is absent.
use Rattle.std.specs.Prelude.{◌≡◌, ℕ, Bool, true, false, List, [], ◌∷◌, ◌||◌}
use Rattle.std.specs.List.{list_any}
use Rattle.std.specs.Ordering.{eq_by_cmp}
use Rattle.std.specs.declared.cmp.Ordering.{Ordering}
use Rattle.std.specs.declared.option.Option.{Option}
use Rattle.std.specs.declared.option.Option.TheVariants.{None, Some}
use Rattle.std.specs.FinMap.{FinMap, get, insert, remove}
use Rattle.rev_causal.specs.Machine.{Machine}
use Rattle.rev_causal.specs.History.{numbered_by}

-- the cells that an event reads and writes: all, or those that it names
pub data Footprint (K : Type 0) : Type 0 where
  Whole : Footprint K
  -- those that are read, and those that are written, which are read too
  Cells : (reads writes : List K) → Footprint K

module _ {K : Type 0} (R : K → K → Ordering) where
  -- the cell is in the list, by the order of cells
  abbrev pub among : List K → K → Bool
  among ks k = list_any (eq_by_cmp R k) ks

  -- the cell is written
  abbrev pub is_written : Footprint K → K → Bool
  is_written Whole k = true
  is_written (Cells reads writes) k = among writes k

  -- it is read or written
  abbrev pub is_accessed : Footprint K → K → Bool
  is_accessed Whole k = true
  is_accessed (Cells reads writes) k = among writes k || among reads k

  -- one is whole, or a cell that one writes is read or written by the other
  abbrev pub conflict : Footprint K → Footprint K → Bool
  conflict Whole g = true
  conflict (Cells reads writes) Whole = true
  conflict (Cells reads writes) (Cells reads' writes') =
      list_any (is_accessed (Cells reads' writes')) writes || list_any (is_accessed (Cells reads writes)) writes'

  module _ {V : Type 0} where
    -- the state with another value in a cell, None being the default
    abbrev pub set_cell : FinMap R V → K → Option V → FinMap R V
    set_cell s k None = remove s k
    set_cell s k (Some v) = insert s k v

    -- and with several, in their order
    abbrev pub set_cells : FinMap R V → List (K × Option V) → FinMap R V
    set_cells s [] = s
    set_cells s (w ∷ ws) = set_cells (set_cell s w.0 w.1) ws

-- What a table says of each event in a state: its refusal, its effect, which is the cells that it writes with what they
-- then hold, and its footprint.
pub record Table (K V E F : Type 0) (R : K → K → Ordering) : Type 0 where
  pub refusal : FinMap R V → E → Option F
  pub effect : FinMap R V → E → List (K × Option V)
  pub footprint : FinMap R V → E → Footprint K

-- the machine that a table makes
abbrev pub machine_of : {K V E F : Type 0} {R : K → K → Ordering} → Table K V E F R → Machine
machine_of {K} {V} {E} {F} {R} t = record {
  State = FinMap R V;
  Cell = K;
  Value = Option V;
  Event = E;
  Refusal = F;
  Footprint = Footprint K;
  look = get;
  refusal = t.refusal;
  after = λ s e. set_cells R s (t.effect s e);
  footprint = t.footprint;
  writes = is_written R;
  accesses = is_accessed R;
  conflict = conflict R;
}

-- the cells of an effect
abbrev pub keys_of : {K V : Type 0} → List (K × Option V) → List K
keys_of [] = []
keys_of (w ∷ ws) = w.0 ∷ keys_of ws

-- the footprint says that these cells are written
abbrev pub WritesAre : {K : Type 0} → Footprint K → List K → Type 0
WritesAre Whole ks = Unit {0}
WritesAre (Cells reads writes) ks = ks ≡ writes

-- what an effect replaces in s: its cells, with what they hold there
abbrev pub replaced : {K V : Type 0} {R : K → K → Ordering} → FinMap R V → List (K × Option V) → List (K × Option V)
replaced s [] = []
replaced s (w ∷ ws) = (w.0, get s w.0) ∷ replaced s ws

-- Locality of a table. Where a state agrees with the event's on what it accesses, it accepts the event too, which then
-- has the same effect and the same footprint; and the effect writes what the footprint says.
pub record IsLocalTable {K V E F : Type 0} {R : K → K → Ordering} (t : Table K V E F R) : Type 0 where
  pub accepted : (s u : FinMap R V) (e : E) → t.refusal s e ≡ None
      → ((k : K) → is_accessed R (t.footprint s e) k ≡ true → get u k ≡ get s k) → t.refusal u e ≡ None
  pub same_effect : (s u : FinMap R V) (e : E) → t.refusal s e ≡ None
      → ((k : K) → is_accessed R (t.footprint s e) k ≡ true → get u k ≡ get s k) → t.effect u e ≡ t.effect s e
  pub same_footprint : (s u : FinMap R V) (e : E) → t.refusal s e ≡ None
      → ((k : K) → is_accessed R (t.footprint s e) k ≡ true → get u k ≡ get s k) → t.footprint u e ≡ t.footprint s e
  pub writes : (s : FinMap R V) (e : E) → t.refusal s e ≡ None → WritesAre (t.footprint s e) (keys_of (t.effect s e))

-- whether all cells are read and written
abbrev pub is_whole : {K : Type 0} → Footprint K → Bool
is_whole Whole = true
is_whole (Cells reads writes) = false

-- What one event owes, where its footprint names its cells. Where it is whole it owes nothing: states that agree on
-- all cells are one state.
pub record IsLocalEvent {K V E F : Type 0} {R : K → K → Ordering} (t : Table K V E F R) (e : E) : Type 0 where
  pub accepted : (s u : FinMap R V) → t.refusal s e ≡ None → is_whole (t.footprint s e) ≡ false
      → ((k : K) → is_accessed R (t.footprint s e) k ≡ true → get u k ≡ get s k) → t.refusal u e ≡ None
  pub same_effect : (s u : FinMap R V) → t.refusal s e ≡ None → is_whole (t.footprint s e) ≡ false
      → ((k : K) → is_accessed R (t.footprint s e) k ≡ true → get u k ≡ get s k) → t.effect u e ≡ t.effect s e
  pub same_footprint : (s u : FinMap R V) → t.refusal s e ≡ None → is_whole (t.footprint s e) ≡ false
      → ((k : K) → is_accessed R (t.footprint s e) k ≡ true → get u k ≡ get s k) → t.footprint u e ≡ t.footprint s e
  pub writes : (s : FinMap R V) → t.refusal s e ≡ None → is_whole (t.footprint s e) ≡ false
      → WritesAre (t.footprint s e) (keys_of (t.effect s e))

-- what each event of a list replaces, at its place
abbrev pub all_replaced : {K V E F : Type 0} {R : K → K → Ordering} → Table K V E F R → FinMap R V → List (ℕ × E)
    → List (List (K × Option V))
all_replaced t s [] = []
all_replaced {R = R} t s (e ∷ es) = replaced s (t.effect s e.1) ∷ all_replaced t (set_cells R s (t.effect s e.1)) es

-- the same under their numbers
abbrev pub replaced_by_number : {K V E F : Type 0} {R : K → K → Ordering} → Table K V E F R → FinMap R V → List (ℕ × E)
    → List (ℕ × List (K × Option V))
replaced_by_number t s es = numbered_by es (all_replaced t s es)
