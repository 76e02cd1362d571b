-- The machine of registers is local: each kind of event reads and writes what its footprint says.
use Rattle.std.proofs.Common.{◌≡◌, ℕ, zero, suc, ◌+◌, ◌<◌, ◌≤◌, length, drop, get_or, drop-cons, add-one, cond, List, [], ◌∷◌, sym, refl, ap, ◌∙◌, inl, inr, true, false}
use Rattle.std.specs.Cmp.{IsTotalOrder, eq_by_cmp_equiv}
use Rattle.std.specs.Ordering.{eq_by_cmp}
use Rattle.std.specs.declared.option.Option.{Option}
use Rattle.std.specs.declared.option.Option.TheVariants.{None}
use Rattle.std.specs.FinMap.{get, get-empty, IsAntisymmetric, nat_cmp-IsAntisymmetric, slice_cmp-IsAntisymmetric}
use Rattle.std.proofs.lemmas.Cmp.{on_total, nat_list_cmp_total}
use Rattle.std.proofs.lemmas.List.{drop_all}
use Rattle.std.proofs.lemmas.Map.Views.{tells_apart}
use Rattle.rev_causal.specs.declared.registers.Cell.{Cell}
use Rattle.rev_causal.specs.declared.registers.Cell.TheVariants.{Register, Lock}
use Rattle.rev_causal.specs.declared.registers.Event.{Event}
use Rattle.rev_causal.specs.declared.registers.Event.TheVariants.{Set, Load, Close, Shift}
use Rattle.rev_causal.specs.Machine.{IsLocal}
use Rattle.rev_causal.specs.Order.{Has}
use Rattle.rev_causal.specs.Store.{Footprint.Cells, is_written, is_accessed, IsLocalEvent, IsLocalTable}
use Rattle.rev_causal.specs.OrderCheck.{IsEquality, EqualEventsConflict, AlwaysWrites}
use Rattle.rev_causal.specs.Registers.{State, numbers_of, cell_of, cell_of-numbers_of, cell_cmp, registers, register_machine, refusal, effect, footprint, refused_by, pointed, or_zero, event_numbers, same_event, cells_of}
use Rattle.rev_causal.proofs.Store as store
use Rattle.rev_causal.proofs.Occurrence as occurrence

pub cell_total : IsTotalOrder cell_cmp
cell_total = on_total numbers_of nat_list_cmp_total

pub cell_exact : IsAntisymmetric cell_cmp
cell_exact a b h = sym (cell_of-numbers_of a) ∙ ap cell_of (slice_cmp-IsAntisymmetric nat_cmp-IsAntisymmetric (numbers_of a) (numbers_of b) h) ∙ cell_of-numbers_of b

-- the states hold the same in what the event accesses
abbrev Agree : State → State → Event → Type 0
Agree s u e = (k : Cell) → is_accessed cell_cmp (footprint s e) k ≡ true → get u k ≡ get s k

-- a cell that a footprint reads, and one that it writes
read_by : (reads writes : List Cell) (k : Cell) → Has reads k → is_accessed cell_cmp (Cells reads writes) k ≡ true
read_by = store.of_read cell_total cell_exact

written_by : (reads writes : List Cell) (k : Cell) → Has writes k → is_accessed cell_cmp (Cells reads writes) k ≡ true
written_by = store.of_write cell_total cell_exact

set_is_local : (register value : ℕ) → IsLocalEvent registers (Set register value)
unfolding refusal effect footprint
set_is_local register value = record {
  accepted = λ s u acc named on. refl;
  same_effect = λ s u acc named on. refl;
  same_footprint = λ s u acc named on. refl;
  writes = λ s acc named. refl;
}

-- both states point at the same register
same_pointed : (s u : State) (register pointer : ℕ) → Agree s u (Load register pointer) → pointed u pointer ≡ pointed s pointer
unfolding refusal effect footprint
same_pointed s u register pointer on =
    ap (λ v. Register (or_zero v)) (on (Register pointer) (read_by (Lock ∷ Register pointer ∷ pointed s pointer ∷ []) (Register register ∷ []) (Register pointer) (inr (inl refl))))

load_is_local : (register pointer : ℕ) → IsLocalEvent registers (Load register pointer)
unfolding refusal effect footprint
load_is_local register pointer = record {
  accepted = λ s u acc named on. ap refused_by (on Lock (read_by (Lock ∷ Register pointer ∷ pointed s pointer ∷ []) (Register register ∷ []) Lock (inl refl))) ∙ acc;
  same_effect = λ s u acc named on.
      ap (λ v. (Register register, v) ∷ []) (ap (get u) (same_pointed s u register pointer on)
      ∙ on (pointed s pointer) (read_by (Lock ∷ Register pointer ∷ pointed s pointer ∷ []) (Register register ∷ []) (pointed s pointer) (inr (inr (inl refl)))));
  same_footprint = λ s u acc named on. ap (λ p. Cells (Lock ∷ Register pointer ∷ p ∷ []) (Register register ∷ [])) (same_pointed s u register pointer on);
  writes = λ s acc named. refl;
}

close_is_local : IsLocalEvent registers Close
unfolding refusal effect footprint
close_is_local = record {
  accepted = λ s u acc named on. ap refused_by (on Lock (written_by [] (Lock ∷ []) Lock (inl refl))) ∙ acc;
  same_effect = λ s u acc named on. refl;
  same_footprint = λ s u acc named on. refl;
  writes = λ s acc named. refl;
}

-- a shift is whole, and owes nothing
shift_is_local : (count : ℕ) → IsLocalEvent registers (Shift count)
unfolding refusal effect footprint
shift_is_local count = store.whole_event cell_total cell_exact registers (Shift count) (λ s. refl)

each_is_local : (e : Event) → IsLocalEvent registers e
each_is_local (Set register value) = set_is_local register value
each_is_local (Load register pointer) = load_is_local register pointer
each_is_local Close = close_is_local
each_is_local (Shift count) = shift_is_local count

pub registers_are_local : IsLocalTable registers
registers_are_local = store.table_of_events cell_total cell_exact registers each_is_local

pub registers_local : IsLocal register_machine
registers_local = store.local_of cell_total cell_exact registers registers_are_local

-- EQUAL EVENTS
event_of : List ℕ → Event
event_of (zero ∷ register ∷ value ∷ []) = Set register value
event_of (suc zero ∷ register ∷ pointer ∷ []) = Load register pointer
event_of (suc (suc (suc zero)) ∷ count ∷ []) = Shift count
event_of _ = Close

event_of-event_numbers : (e : Event) → event_of (event_numbers e) ≡ e
unfolding event_of
event_of-event_numbers (Set register value) = refl
event_of-event_numbers (Load register pointer) = refl
event_of-event_numbers Close = refl
event_of-event_numbers (Shift count) = refl

pub same_event_is : IsEquality same_event
same_event_is = record {
  itself = λ a. (eq_by_cmp_equiv nat_list_cmp_total).refl (event_numbers a);
  equal = λ a b h. sym (event_of-event_numbers a) ∙ ap event_of (tells_apart (slice_cmp-IsAntisymmetric nat_cmp-IsAntisymmetric) (event_numbers a) (event_numbers b) h) ∙ event_of-event_numbers b;
}

-- the one cell that is written
one_write : (reads : List Cell) (k : Cell) → is_written cell_cmp (Cells reads (k ∷ [])) k ≡ true
one_write reads k = store.among_has cell_total cell_exact (k ∷ []) k (inl refl)

-- each event that is not whole always writes one cell
always_writes : (e : Event) → AlwaysWrites registers e
unfolding refusal effect footprint
always_writes (Set register value) = inr (Register register, λ s acc. one_write [] (Register register))
always_writes (Load register pointer) = inr (Register register, λ s acc. one_write (Lock ∷ Register pointer ∷ pointed s pointer ∷ []) (Register register))
always_writes Close = inr (Lock, λ s acc. one_write [] Lock)
always_writes (Shift count) = inl (λ s acc. refl)

pub equal_events_conflict : EqualEventsConflict register_machine
equal_events_conflict = occurrence.equal_events_conflict_of cell_total cell_exact registers always_writes

-- WHAT THE CODE KEEPS
-- the cells after one more write
pub get-written : (k : Cell) (v : Option ℕ) (ws : List (Cell × Option ℕ)) (q : Cell) → get (cells_of ((k, v) ∷ ws)) q ≡ cond (eq_by_cmp cell_cmp q k) v (get (cells_of ws) q)
get-written k v ws q = store.get-set_cell cell_total cell_exact (cells_of ws) k v q

-- a scan of the writes from one of them on
pub get-drop : (table : List (Cell × Option ℕ)) (i : ℕ) (d : Cell × Option ℕ) (q : Cell) → i < length table →
    get (cells_of (drop i table)) q ≡ cond (eq_by_cmp cell_cmp q (get_or table i d).0) (get_or table i d).1 (get (cells_of (drop (i + 1) table)) q)
get-drop table i d q h =
    ap (λ ws. get (cells_of ws) q) (drop-cons table i d h)
    ∙ get-written (get_or table i d).0 (get_or table i d).1 (drop (suc i) table) q
    ∙ ap (λ k. cond (eq_by_cmp cell_cmp q (get_or table i d).0) (get_or table i d).1 (get (cells_of (drop k table)) q)) (sym (add-one i))

pub found-at : (table : List (Cell × Option ℕ)) (i : ℕ) (d : Cell × Option ℕ) (q : Cell) → i < length table → eq_by_cmp cell_cmp q (get_or table i d).0 ≡ true → get (cells_of (drop i table)) q ≡ (get_or table i d).1
found-at table i d q h e = get-drop table i d q h ∙ ap (λ b. cond b (get_or table i d).1 (get (cells_of (drop (i + 1) table)) q)) e

pub missed-at : (table : List (Cell × Option ℕ)) (i : ℕ) (d : Cell × Option ℕ) (q : Cell) → i < length table → eq_by_cmp cell_cmp q (get_or table i d).0 ≡ false → get (cells_of (drop i table)) q ≡ get (cells_of (drop (i + 1) table)) q
missed-at table i d q h e = get-drop table i d q h ∙ ap (λ b. cond b (get_or table i d).1 (get (cells_of (drop (i + 1) table)) q)) e

-- past the last write nothing is found
pub get-past : (table : List (Cell × Option ℕ)) (i : ℕ) (q : Cell) → length table ≤ i → get (cells_of (drop i table)) q ≡ None
get-past table i q h = ap (λ ws. get (cells_of ws) q) (drop_all i table h) ∙ get-empty cell_cmp q
