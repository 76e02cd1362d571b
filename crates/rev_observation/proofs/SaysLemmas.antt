-- Lines that say something, one after the other.
use Rattle.std.proofs.Common.{◌≡◌, ℕ, zero, suc, ◌+◌, ◌<◌, ◌≤◌, ◌==◌, ◌≢◌, Bool, true, false, bytes_eq, List, [], ◌∷◌, ◌++◌, length, get_or, take, drop, None, Some, Ok, Err, if◌then◌else◌, refl, sym, ap, ◌∙◌, subst, arith}
use Rattle.std.proofs.lemmas.List.{take_more, take_all}
use Rattle.rev_paths.proofs.PlaceLemmas.{own_bytes}
use Rattle.rev_observed.specs.declared.faults.Fault.{Fault}
use Rattle.rev_observed.specs.declared.faults.FaultKind.{FaultKind}
use Rattle.rev_observed.specs.declared.faults.FaultKind.TheVariants.{Header, Syntax}
use Rattle.rev_observed.specs.Faults.{fault_at}
use Rattle.rev_observation.specs.declared.head.Observer.{Observer}
use Rattle.rev_observation.specs.Lines.{by_line, line_added}
use Rattle.rev_observation.specs.Observations.{ObservationValue, nothing_by}
use Rattle.rev_observation.specs.Says.{IsFirstFault, IsWrongAmong, IsWrongBehind, NoHeader, NoLine, NoObserver, OneLine, Says, WrongLine, WrongObserver, first_line}

-- one more line
says_more : {o p q : ObservationValue} {lines : List (List ℕ)} (line : List ℕ) → Says o lines p → line_added p line ≡ Ok q → Says o (lines ++ line ∷ []) q
says_more line NoLine e = OneLine e NoLine
says_more line (OneLine d s) e = OneLine d (says_more line s e)

pub says_step : (o p q : ObservationValue) (xs : List (List ℕ)) (i : ℕ) → i < length xs → Says o (take i xs) p → line_added p (get_or xs i []) ≡ Ok q → Says o (take (i + 1) xs) q
says_step o p q xs i lt s e =
    let P : List (List ℕ) → Type 0 = λ ls. Says o ls q in subst P (sym (take_more xs i [] lt)) (says_more (get_or xs i []) s e)

pub says_all : (o p : ObservationValue) (xs : List (List ℕ)) (i : ℕ) → length xs ≤ i → Says o (take i xs) p → Says o xs p
says_all o p xs i past s = let P : List (List ℕ) → Type 0 = λ ls. Says o ls p in subst P (take_all i xs past) s

pub split_at : (xs : List (List ℕ)) (i : ℕ) → i < length xs → xs ≡ take i xs ++ get_or xs i [] ∷ drop (suc i) xs
split_at [] i lt = absurd (omega arith)
split_at (x ∷ xs) zero lt = refl
split_at (x ∷ xs) (suc i) lt = ap (λ l. x ∷ l) (split_at xs i (omega arith))

pub length_before : (xs : List (List ℕ)) (i : ℕ) → i < length xs → length (take i xs) ≡ i
length_before [] i lt = absurd (omega arith)
length_before (x ∷ xs) zero lt = refl
length_before (x ∷ xs) (suc i) lt = omega (arith, length_before xs i (omega arith))

-- a line that adds nothing
pub wrong_at : (o p : ObservationValue) (xs : List (List ℕ)) (i : ℕ) (kind : FaultKind) (f : Fault) → i < length xs → Says o (take i xs) p → line_added p (get_or xs i []) ≡ Err kind → f ≡ fault_at (i + 2) kind → IsWrongAmong o xs f
wrong_at o p xs i kind f lt s e is = record {
  before = take i xs;
  line = get_or xs i [];
  after = drop (suc i) xs;
  whole = split_at xs i lt;
  said = p;
  says = s;
  kind = kind;
  wrong = e;
  is = is ∙ ap (λ n. fault_at (n + 2) kind) (sym (length_before xs i lt));
}

-- the fault of lines behind the first two
pub fault_behind : (second : List ℕ) (by : Observer) (rest : List (List ℕ)) (f : Fault) → by_line second ≡ Ok by → IsWrongAmong (nothing_by by) rest f → IsFirstFault (first_line ∷ second ∷ rest) f
fault_behind second by rest f observer w =
    let number : f.line ≡ length w.before + 2 + 1 = ap (λ (f : Fault). f.line) w.is in
    let same : f.kind ≡ w.kind = ap (λ (f : Fault). f.kind) w.is in
    let P : FaultKind → Type 0 = λ k. IsWrongBehind (first_line ∷ second ∷ w.before) (Some w.line) k in
    record {
      before = first_line ∷ second ∷ w.before;
      rest = w.line ∷ w.after;
      whole = ap (λ ls. first_line ∷ second ∷ ls) w.whole;
      number = omega (arith, number);
      wrong = subst P (sym same) (WrongLine w.said observer w.says w.wrong);
    }

-- no line stands where what observed has to be named
pub no_observer : (lines : List (List ℕ)) (f : Fault) → length lines ≡ 0 → fault_at 1 Syntax ≡ f → IsFirstFault (first_line ∷ lines) f
no_observer [] f none same =
    let P : Fault → Type 0 = λ g. IsFirstFault (first_line ∷ []) g in
    subst P same (record { before = first_line ∷ []; rest = []; whole = refl; number = refl; wrong = NoObserver })
no_observer (line ∷ lines) f none same = absurd (omega (arith, none))

-- it does not name what observed
pub wrong_observer : (second : List ℕ) (rest : List (List ℕ)) (f : Fault) (kind : FaultKind) → by_line second ≡ Err kind → f ≡ fault_at 1 kind → IsFirstFault (first_line ∷ second ∷ rest) f
wrong_observer second rest f kind e same =
    let P : Fault → Type 0 = λ g. IsFirstFault (first_line ∷ second ∷ rest) g in
    subst P (sym same) (record { before = first_line ∷ []; rest = second ∷ rest; whole = refl; number = refl; wrong = WrongObserver e })

-- no line names the format
pub no_header : (lines : List (List ℕ)) (f : Fault) → length lines ≡ 0 → fault_at 0 Header ≡ f → IsFirstFault lines f
no_header [] f none same =
    let P : Fault → Type 0 = λ g. IsFirstFault [] g in
    let other : None ≢ Some first_line = λ is. cc in
    subst P same (record { before = []; rest = []; whole = refl; number = refl; wrong = NoHeader other })
no_header (line ∷ lines) f none same = absurd (omega (arith, none))

pub other_header : (first : List ℕ) (rest : List (List ℕ)) (f : Fault) → bytes_eq first first_line ≡ false → fault_at 0 Header ≡ f → IsFirstFault (first ∷ rest) f
other_header first rest f differs same =
    let P : Fault → Type 0 = λ g. IsFirstFault (first ∷ rest) g in
    let other : Some first ≢ Some first_line = λ is. let equal : first ≡ first_line = cc in let both : true ≡ false = sym (own_bytes first_line) ∙ ap (λ l. bytes_eq l first_line) (sym equal) ∙ differs in cc in
    subst P same (record { before = []; rest = first ∷ rest; whole = refl; number = refl; wrong = NoHeader other })
