-- The first fault of a text.
use Rattle.std.proofs.Common.{◌≡◌, ℕ, zero, suc, ◌<◌, ◌≤◌, ◌+◌, List, refl, sym, ap, ◌∙◌, arith, inl, inr, Option, Some, None, Result, Err}
use Rattle.std.proofs.lemmas.Bool.{cases_eq}
use Rattle.std.specs.Option.{option_map}
use Rattle.std.specs.List.{slice_get, filter_map, cons_option, range_with_len}
use Rattle.rev_fields.specs.declared.faults.FaultKind.{FaultKind}
use Rattle.rev_fields.specs.declared.faults.TextFault.{TextFault}
use Rattle.rev_fields.specs.declared.faults.ReadFault.TheVariants as text
use Rattle.rev_fields.specs.declared.faults.LineFault.{LineFault}
use Rattle.rev_fields.specs.declared.faults.LineFault.TheVariants.{Memory, Kind}
use Rattle.rev_fields.specs.Faults.{Answers, IsFirstWrong, fault_in, first_fault, read_fault}

-- the faults of the lines from a place on
abbrev faults_from : (ℕ → Option FaultKind) → ℕ → ℕ → List TextFault
faults_from wrong_at a n = filter_map (λ place. option_map (fault_in place) (wrong_at place)) (range_with_len a n)

abbrev with_fault : (ℕ → Option FaultKind) → ℕ → ℕ → Option FaultKind → Option TextFault
with_fault wrong_at a n o = slice_get (cons_option (option_map (fault_in a) o) (faults_from wrong_at (a + 1) n)) 0

none_from : (wrong_at : ℕ → Option FaultKind) (n a : ℕ) → ((k : ℕ) → a ≤ k → k < a + n → wrong_at k ≡ None) → slice_get (faults_from wrong_at a n) 0 ≡ None
none_from wrong_at zero a h = refl
none_from wrong_at (suc n) a h =
    ap (with_fault wrong_at a n) (h a (omega arith) (omega arith)) ∙ none_from wrong_at n (a + 1) (λ k low high. h k (omega arith) (omega arith))

some_from : (wrong_at : ℕ → Option FaultKind) (n a i : ℕ) (kind : FaultKind) → a ≤ i → i < a + n → ((k : ℕ) → a ≤ k → k < i → wrong_at k ≡ None) → wrong_at i ≡ Some kind → slice_get (faults_from wrong_at a n) 0 ≡ Some (fault_in i kind)
some_from wrong_at zero a i kind low high before here = absurd (omega arith)
some_from wrong_at (suc n) a i kind low high before here =
    elim (cases_eq a i) [
      | inl e ↦ ap (with_fault wrong_at a n) (ap wrong_at e ∙ here) ∙ ap (λ p. Some (fault_in p kind)) e
      | inr ne ↦
          ap (with_fault wrong_at a n) (before a (omega arith) (omega arith))
          ∙ some_from wrong_at n (a + 1) i kind (omega arith) (omega arith) (λ k l h. before k (omega arith) h) here
    ]

-- no line is at fault
pub first_fault-none : (wrong_at : ℕ → Option FaultKind) (n : ℕ) → ((k : ℕ) → k < n → wrong_at k ≡ None) → first_fault wrong_at n ≡ None
first_fault-none wrong_at n h = none_from wrong_at n 0 (λ k low high. h k (omega arith))

-- the first line that is at fault
pub first_fault-some : (wrong_at : ℕ → Option FaultKind) (n i : ℕ) (kind : FaultKind) → i < n → ((k : ℕ) → k < i → wrong_at k ≡ None) → wrong_at i ≡ Some kind → first_fault wrong_at n ≡ Some (fault_in i kind)
first_fault-some wrong_at n i kind lt before here = some_from wrong_at n 0 i kind (omega arith) (omega arith) (λ k low high. before k high) here

pub first_fault-first : (wrong_at : ℕ → Option FaultKind) (n : ℕ) (f : TextFault) → IsFirstWrong wrong_at n 0 f → first_fault wrong_at n ≡ Some f
first_fault-first wrong_at n f h =
    let zero_added : 0 + h.place ≡ h.place = omega arith in
    first_fault-some wrong_at n h.place h.kind h.within h.earlier h.wrong ∙ ap Some (sym (h.is ∙ ap (λ p. fault_in p h.kind) zero_added))

-- the fault of a text by the fault of its line
pub line_at_fault : {V T : Type 0} (fault : LineFault) (view : V → T) (said : Result T FaultKind) (place : ℕ) (f : TextFault) → Answers (Err fault) view said → read_fault place fault ≡ text.Numbered f → (kind : FaultKind) × (said ≡ Err kind) × (f ≡ fault_in place kind)
line_at_fault Memory view said place f h e = absurd (let no : text.Memory ≡ text.Numbered f = e in cc)
line_at_fault (Kind kind) view said place f h e = (kind, h, let same : text.Numbered (fault_in place kind) ≡ text.Numbered f = e in cc)

pub kind_of_fault : (fault : LineFault) (place : ℕ) (f : TextFault) → read_fault place fault ≡ text.Numbered f → (kind : FaultKind) × (fault ≡ Kind kind) × (f ≡ fault_in place kind)
kind_of_fault Memory place f e = absurd (let no : text.Memory ≡ text.Numbered f = e in cc)
kind_of_fault (Kind kind) place f e = (kind, refl, let same : text.Numbered (fault_in place kind) ≡ text.Numbered f = e in cc)
