-- The machine of registers and a lock, as a table of its four kinds of events.
use Rattle.std.specs.Prelude.{◌≡◌, ℕ, zero, suc, Bool, true, false, List, [], ◌∷◌, ◌++◌, refl}
use Rattle.std.specs.Ordering.{nat_cmp, eq_by_cmp}
use Rattle.std.specs.Cmp.Lexicographic.{slice_cmp}
use Rattle.std.specs.Coded.{Coded, code_by, coded_list, coded_ℕ, coded_bool, coded×}
use Rattle.std.specs.declared.cmp.Ordering.{Ordering}
use Rattle.std.specs.declared.option.Option.{Option}
use Rattle.std.specs.declared.option.Option.TheVariants.{None, Some}
use Rattle.std.specs.FinMap.{FinMap, get, empty}
use Rattle.std.specs.FinMap as finmap
use Rattle.rev_causal.specs.Machine.{Machine}
use Rattle.rev_causal.specs.Store.{Footprint, Footprint.Whole, Footprint.Cells, Table, machine_of, set_cell}
use Rattle.rev_causal.specs.declared.registers.Cell.{Cell}
use Rattle.rev_causal.specs.declared.registers.Cell.TheVariants.{Register, Lock}
use Rattle.rev_causal.specs.declared.registers.Event.{Event}
use Rattle.rev_causal.specs.declared.registers.Event.TheVariants.{Set, Load, Close, Shift}
use Rattle.rev_causal.specs.declared.registers.Refusal.{Refusal}
use Rattle.rev_causal.specs.declared.registers.Refusal.TheVariants.{Closed}

-- CELLS AND STATES
-- a cell as a list of numbers
abbrev pub numbers_of : Cell → List ℕ
numbers_of Lock = []
numbers_of (Register n) = n ∷ []

abbrev pub cell_of : List ℕ → Cell
cell_of (n ∷ []) = Register n
cell_of _ = Lock

pub cell_of-numbers_of : (c : Cell) → cell_of (numbers_of c) ≡ c
cell_of-numbers_of Lock = refl
cell_of-numbers_of (Register n) = refl

abbrev pub cell_cmp : Cell → Cell → Ordering
cell_cmp a b = slice_cmp nat_cmp (numbers_of a) (numbers_of b)

abbrev pub coded_cell : Coded Cell
coded_cell = code_by (List ℕ) (coded_list coded_ℕ) numbers_of cell_of cell_of-numbers_of

-- what the cells hold; one that is absent is at its default: a register at 0, the lock open
abbrev pub State : Type 0
State = FinMap cell_cmp ℕ

-- the state that writes lead to from the empty one, the last write first
abbrev pub cells_of : List (Cell × Option ℕ) → State
cells_of [] = empty
cells_of (w ∷ ws) = set_cell cell_cmp (cells_of ws) w.0 w.1

abbrev pub coded_state : Coded State
coded_state = finmap.code coded_cell coded_ℕ

-- THE TABLE
-- the number that is held, 0 at the default
abbrev pub or_zero : Option ℕ → ℕ
or_zero None = 0
or_zero (Some n) = n

-- what is held for a number, 0 being the default
abbrev pub unless_zero : ℕ → Option ℕ
unless_zero zero = None
unless_zero (suc n) = Some (suc n)

-- the register whose number the register `pointer` holds
abbrev pub pointed : State → ℕ → Cell
pointed s pointer = Register (or_zero (get s (Register pointer)))

-- each register below a number gets what the next one holds
abbrev pub shifted : State → ℕ → List (Cell × Option ℕ)
shifted s zero = []
shifted s (suc n) = shifted s n ++ (Register n, get s (Register (suc n))) ∷ []

-- refused where the lock is closed
abbrev pub refused_by : Option ℕ → Option Refusal
refused_by None = None
refused_by (Some closed) = Some Closed

-- when each event is refused
unfoldable pub refusal : State → Event → Option Refusal
refusal s (Set register value) = None
refusal s (Load register pointer) = refused_by (get s Lock)
refusal s Close = refused_by (get s Lock)
refusal s (Shift count) = None

-- what it writes
unfoldable pub effect : State → Event → List (Cell × Option ℕ)
effect s (Set register value) = (Register register, unless_zero value) ∷ []
effect s (Load register pointer) = (Register register, get s (pointed s pointer)) ∷ []
effect s Close = (Lock, Some 1) ∷ []
effect s (Shift count) = shifted s count

-- and its footprint; that of a load depends on what the pointer holds
unfoldable pub footprint : State → Event → Footprint Cell
footprint s (Set register value) = Cells [] (Register register ∷ [])
footprint s (Load register pointer) = Cells (Lock ∷ Register pointer ∷ pointed s pointer ∷ []) (Register register ∷ [])
footprint s Close = Cells [] (Lock ∷ [])
footprint s (Shift count) = Whole

abbrev pub registers : Table Cell ℕ Event Refusal cell_cmp
registers = record { refusal = refusal; effect = effect; footprint = footprint }

abbrev pub register_machine : Machine
register_machine = machine_of registers

-- whether two events are equal, by their numbers
abbrev pub event_numbers : Event → List ℕ
event_numbers (Set register value) = 0 ∷ register ∷ value ∷ []
event_numbers (Load register pointer) = 1 ∷ register ∷ pointer ∷ []
event_numbers Close = 2 ∷ []
event_numbers (Shift count) = 3 ∷ count ∷ []

abbrev pub same_event : Event → Event → Bool
same_event a b = eq_by_cmp (slice_cmp nat_cmp) (event_numbers a) (event_numbers b)

-- FOOTPRINTS AS THE CODE KEEPS THEM
-- what reads and writes all that either does
abbrev pub joined : Footprint Cell → Footprint Cell → Footprint Cell
joined Whole g = Whole
joined (Cells reads writes) Whole = Whole
joined (Cells reads writes) (Cells reads' writes') = Cells (reads ++ reads') (writes ++ writes')

abbrev pub print_of : Bool → List Cell → List Cell → Footprint Cell
print_of true reads writes = Whole
print_of false reads writes = Cells reads writes

abbrev pub parts_of : Footprint Cell → Bool × (List Cell × List Cell)
parts_of Whole = (true, ([], []))
parts_of (Cells reads writes) = (false, (reads, writes))

pub print_of-parts_of : (f : Footprint Cell) → print_of (parts_of f).0 (parts_of f).1.0 (parts_of f).1.1 ≡ f
print_of-parts_of Whole = refl
print_of-parts_of (Cells reads writes) = refl

abbrev pub coded_print : Coded (Footprint Cell)
coded_print =
    code_by (Bool × (List Cell × List Cell)) (coded× coded_bool (coded× (coded_list coded_cell) (coded_list coded_cell)))
    parts_of (λ p. print_of p.0 p.1.0 p.1.1) print_of-parts_of
