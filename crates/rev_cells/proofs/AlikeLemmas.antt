-- Cells that hold the same.
use Rattle.std.proofs.Common.{◌≡◌, ◌↔◌, ◌==◌, is_some, cond, ℕ, Bool, true, false, ◌&&◌, List, [], ◌∷◌, Option, None, Some, IsSome, IfSome, refl, sym, ap, ap₂, subst, ◌∙◌, bytes_eq, eq-eqb, eqb-true, true≢false, if◌then◌else◌}
use Rattle.std.specs.Option.{option_eq}
use Rattle.std.specs.Cmp.{booleans_Decides}
use Rattle.std.specs.Cmp.Lexicographic.{pointwise}
use Rattle.std.specs.FinMap.{get, same_map}
use Rattle.std.specs.Map.{lookup, keys_of}
use Rattle.std.proofs.lemmas.Slice.Eq.{bytes_eq-Decides, slice_eq-Decides}
use Rattle.rev_cells.specs.declared.cell.Cell.{Cell}
use Rattle.rev_cells.specs.declared.mark.Mark.{Mark}
use Rattle.rev_cells.specs.declared.mark.Mark.TheVariants as mark
use Rattle.rev_cells.specs.declared.value.BuiltRecord.{BuiltRecord}
use Rattle.rev_cells.specs.declared.value.DepsRecord.{DepsRecord}
use Rattle.rev_cells.specs.declared.value.Value.{Value}
use Rattle.rev_cells.specs.declared.value.Value.TheVariants as value
use Rattle.rev_cells.specs.contracts.mark.MarkPartialEq.TheImpl as same_mark
use Rattle.rev_cells.specs.contracts.value.BuiltRecordPartialEq.TheImpl as same_built
use Rattle.rev_cells.specs.contracts.value.DepsRecordPartialEq.TheImpl as same_deps
use Rattle.rev_cells.specs.Alike.{IsSameOpening, value_eq, same_held, same_at, same_entries}
use Rattle.rev_cells.specs.Sound.{state_of, AllFit}
use Rattle.rev_cells.specs.State.{State}
use Rattle.rev_cells.specs.Table.{Records}
use Rattle.rev_cells.specs.Values.{Fits, is_default, unless_default}
use Rattle.rev_cells.proofs.EntryLemmas.{cells_total, cells_exact, cell_eq, cell_eq-exact, fits_at, get-state_of, stored, only_default}

abbrev mark_eq : Mark → Mark → Bool
mark_eq = same_mark.ghosts.eq

abbrev built_eq : BuiltRecord → BuiltRecord → Bool
built_eq = same_built.ghosts.eq

abbrev deps_eq : DepsRecord → DepsRecord → Bool
deps_eq = same_deps.ghosts.eq

both-of : (a b : Bool) → (a && b) ≡ true → (a ≡ true) × (b ≡ true)
both-of true b h = (refl, h)
both-of false b h = absurd (true≢false (sym h))

both : {a b : Bool} → (a && b) ≡ true → (a ≡ true) × (b ≡ true)
both {a} {b} h = both-of a b h

so : {a b : Bool} → a ≡ true → b ≡ true → (a && b) ≡ true
so g h = ap₂ (λ x y. x && y) g h

option_told : {A : Type 0} (E : A → A → Bool) → ((a b : A) → E a b ≡ true → a ≡ b) → (o p : Option A) → option_eq E o p ≡ true → o ≡ p
option_told E f None None h = refl
option_told E f None (Some b) h = absurd (true≢false (sym h))
option_told E f (Some a) None h = absurd (true≢false (sym h))
option_told E f (Some a) (Some b) h = ap Some (f a b h)

option_itself : {A : Type 0} (E : A → A → Bool) → ((a : A) → E a a ≡ true) → (o : Option A) → option_eq E o o ≡ true
option_itself E f None = refl
option_itself E f (Some a) = f a

number_itself : (a : ℕ) → (a == a) ≡ true
number_itself a = eq-eqb a a refl

-- VALUES THAT `==` HOLDS OF ARE ONE
mark_told : (m n : Mark) → mark_eq m n ≡ true → m ≡ n
mark_told mark.Idle mark.Idle h = refl
mark_told mark.Wanted mark.Wanted h = refl
mark_told mark.Through mark.Through h = refl
mark_told (mark.Running job slot seen) (mark.Running job' slot' seen') h =
    let t = both h in
    let u = both t.1 in
    λ i. mark.Running (eqb-true job job' t.0 i) (option_told _ eqb-true slot slot' u.0 i) (eqb-true seen seen' u.1 i)
mark_told (mark.Done ps) (mark.Done qs) h = ap mark.Done ((bytes_eq-Decides ps qs).0 h)
mark_told mark.Clean mark.Clean h = refl
mark_told mark.Failed mark.Failed h = refl
mark_told mark.Stopped mark.Stopped h = refl
mark_told _ _ h = absurd (true≢false (sym h))

mark_itself : (m : Mark) → mark_eq m m ≡ true
mark_itself mark.Idle = refl
mark_itself mark.Wanted = refl
mark_itself mark.Through = refl
mark_itself (mark.Running job slot seen) = so (number_itself job) (so (option_itself _ number_itself slot) (number_itself seen))
mark_itself (mark.Done ps) = (bytes_eq-Decides ps ps).1 refl
mark_itself mark.Clean = refl
mark_itself mark.Failed = refl
mark_itself mark.Stopped = refl

built_told : (a b : BuiltRecord) → built_eq a b ≡ true → a ≡ b
built_told a b h =
    let t = both h in
    λ i. record { command = (bytes_eq-Decides a.command b.command).0 t.0 i; stamp = eqb-true a.stamp b.stamp t.1 i }

deps_told : (a b : DepsRecord) → deps_eq a b ≡ true → a ≡ b
deps_told a b h =
    let t = both h in
    λ i. record { stamp = eqb-true a.stamp b.stamp t.0 i; paths = (slice_eq-Decides bytes_eq-Decides a.paths b.paths (pointwise bytes_eq a.paths b.paths) refl).0 t.1 i }

built_itself : (a : BuiltRecord) → built_eq a a ≡ true
built_itself a = so ((bytes_eq-Decides a.command a.command).1 refl) (number_itself a.stamp)

deps_itself : (a : DepsRecord) → deps_eq a a ≡ true
deps_itself a = so (number_itself a.stamp) ((slice_eq-Decides bytes_eq-Decides a.paths a.paths (pointwise bytes_eq a.paths a.paths) refl).1 refl)

value_told : (v w : Value) → value_eq v w ≡ true → v ≡ w
value_told (value.Stamp a) (value.Stamp b) h = ap value.Stamp (eqb-true a b h)
value_told (value.Mark a) (value.Mark b) h = ap value.Mark (mark_told a b h)
value_told (value.Job a) (value.Job b) h = ap value.Job (option_told _ eqb-true a b h)
value_told (value.Slot a) (value.Slot b) h = ap value.Slot (option_told _ eqb-true a b h)
value_told (value.Depth a) (value.Depth b) h = ap value.Depth (option_told _ eqb-true a b h)
value_told (value.Built a) (value.Built b) h = ap value.Built (option_told _ built_told a b h)
value_told (value.Deps a) (value.Deps b) h = ap value.Deps (option_told _ deps_told a b h)
value_told (value.Halted a) (value.Halted b) h = ap value.Halted ((booleans_Decides a b).0 h)
value_told _ _ h = absurd (true≢false (sym h))

value_itself : (v w : Value) → v ≡ w → value_eq v w ≡ true
value_itself v w e = subst (λ (x : Value). value_eq v x ≡ true) e (itself v)
  where
    itself : (u : Value) → value_eq u u ≡ true
    itself (value.Stamp a) = eq-eqb a a refl
    itself (value.Mark a) = mark_itself a
    itself (value.Job a) = option_itself _ number_itself a
    itself (value.Slot a) = option_itself _ number_itself a
    itself (value.Depth a) = option_itself _ number_itself a
    itself (value.Built a) = option_itself _ built_itself a
    itself (value.Deps a) = option_itself _ deps_itself a
    itself (value.Halted a) = (booleans_Decides a a).1 refl

-- WHAT ENTRIES HOLD
stored_same : (o p : Option Value) → same_held o p ≡ true → stored o ≡ stored p
stored_same None None h = refl
stored_same None (Some w) h = sym (ap (λ b. if b then None else Some w) h)
stored_same (Some v) None h = ap (λ b. if b then None else Some v) h
stored_same (Some v) (Some w) h = ap (λ x. stored (Some x)) (value_told v w h)

default_told : (v : Value) → unless_default v ≡ None → is_default v ≡ true
default_told v e = by (is_default v) refl e
  where
    by : (b : Bool) → is_default v ≡ b → (if b then None else Some v) ≡ None → is_default v ≡ true
    by true t n = t
    by false t n = cc

held_same : (c : Cell) (o p : Option Value) → IfSome o (Fits c) → IfSome p (Fits c) → stored o ≡ stored p → same_held o p ≡ true
held_same c None None f g e = refl
held_same c None (Some w) f g e = default_told w (sym e)
held_same c (Some v) None f g e = default_told v e
held_same c (Some v) (Some w) f g e = by (is_default v) (is_default w) refl refl e
  where
    by : (a b : Bool) → is_default v ≡ a → is_default w ≡ b → (if a then None else Some v) ≡ (if b then None else Some w) → value_eq v w ≡ true
    by true true s t n = value_itself v w (only_default c v f s ∙ sym (only_default c w g t))
    by true false s t n = cc
    by false true s t n = cc
    by false false s t n = let one : v ≡ w = cc in value_itself v w one

module _ (es fs : List (Cell × Value)) where
  at_known : (xs : List (Cell × Value)) → same_at (keys_of xs) es fs ≡ true → (c : Cell) → IsSome (lookup (cell_eq c) xs) → same_held (lookup (cell_eq c) es) (lookup (cell_eq c) fs) ≡ true
  at_known [] h c some = absurd (true≢false (sym some))
  at_known (x ∷ xs) h c some =
      let t = both h in
      by t.0 (at_known xs t.1 c) (cell_eq c x.0) refl some
    where
      by : same_held (lookup (cell_eq x.0) es) (lookup (cell_eq x.0) fs) ≡ true → (IsSome (lookup (cell_eq c) xs) → same_held (lookup (cell_eq c) es) (lookup (cell_eq c) fs) ≡ true) → (b : Bool) → cell_eq c x.0 ≡ b → IsSome (cond b (Some x.1) (lookup (cell_eq c) xs)) → same_held (lookup (cell_eq c) es) (lookup (cell_eq c) fs) ≡ true
      by here rest true e s = subst (λ (k : Cell). same_held (lookup (cell_eq k) es) (lookup (cell_eq k) fs) ≡ true) (sym (cell_eq-exact c x.0 e)) here
      by here rest false e s = rest s

  stored_at : same_at (keys_of es) es fs ≡ true → same_at (keys_of fs) es fs ≡ true → (q : Cell) → stored (lookup (cell_eq q) es) ≡ stored (lookup (cell_eq q) fs)
  stored_at g h q = by (lookup (cell_eq q) es) (lookup (cell_eq q) fs) refl refl
    where
      by : (o p : Option Value) → lookup (cell_eq q) es ≡ o → lookup (cell_eq q) fs ≡ p → stored (lookup (cell_eq q) es) ≡ stored (lookup (cell_eq q) fs)
      by (Some v) p d e = stored_same (lookup (cell_eq q) es) (lookup (cell_eq q) fs) (at_known es g q (ap is_some d))
      by None (Some w) d e = stored_same (lookup (cell_eq q) es) (lookup (cell_eq q) fs) (at_known fs h q (ap is_some e))
      by None None d e = ap stored d ∙ sym (ap stored e)

  all_same : AllFit es → AllFit fs → state_of fs ≡ state_of es → (cs : List Cell) → same_at cs es fs ≡ true
  all_same f g e [] = refl
  all_same f g e (c ∷ cs) =
      so (held_same c (lookup (cell_eq c) es) (lookup (cell_eq c) fs) (fits_at es f c) (fits_at fs g c)
      (sym (get-state_of es c) ∙ ap (λ (s : State). get s c) (sym e) ∙ get-state_of fs c))
      (all_same f g e cs)

  -- the cells of both hold the same exactly where the states are one
  pub state_told : AllFit es → AllFit fs → (same_entries es fs ≡ true) ↔ (state_of fs ≡ state_of es)
  state_told f g = (
    λ h.
        let t = both h in
        same_map cells_total cells_exact _ _ (λ q. get-state_of fs q ∙ sym (stored_at t.0 t.1 q) ∙ sym (get-state_of es q)),
    λ e. so (all_same f g e (keys_of es)) (all_same f g e (keys_of fs)),
  )

-- two tests joined tell whether two openings are the same
pub opening_told : (a b : Bool) (r s : Records) → (a ≡ true) ↔ (s.jobs ≡ r.jobs) → (b ≡ true) ↔ (s.state ≡ r.state) → ((a && b) ≡ true) ↔ IsSameOpening r s
opening_told a b r s jobs state = (
  λ h. let t = both h in record { jobs = jobs.0 t.0; state = state.0 t.1 },
  λ o. so (jobs.1 o.jobs) (state.1 o.state),
)
