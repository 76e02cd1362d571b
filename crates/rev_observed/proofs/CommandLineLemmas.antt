-- The line of a command: the first with which lines say the command.
use Rattle.std.proofs.Common.{◌≡◌, ℕ, suc, ◌+◌, ◌<◌, ◌≤◌, true, false, bytes_eq, List, [], ◌∷◌, length, get_or, take, drop, Option, Some, None, Result, Ok, Err, refl, sym, ap, ◌∙◌, subst, arith}
use Rattle.std.specs.Prelude.{IfOk, IfSome}
use Rattle.rev_paths.proofs.PlaceLemmas.{own_bytes}
use Rattle.rev_observed.specs.declared.faults.FaultKind.{FaultKind}
use Rattle.rev_observed.specs.declared.faults.LineFault.{LineFault}
use Rattle.rev_observed.specs.declared.faults.LineFault.TheVariants.{Kind}
use Rattle.rev_observed.specs.CommandLines.{IsCommandLine, IsLineAmong}
use Rattle.rev_observed.specs.Faults.{Answers}
use Rattle.rev_observed.specs.Lines.{by_line, line_added}
use Rattle.rev_observed.specs.Observations.{ObservationValue, nothing_by}
use Rattle.rev_observed.specs.Says.{LinesSay, Says, first_line}
use Rattle.rev_observed.proofs.LawLemmas.{none-said, one-said}
use Rattle.rev_observed.proofs.SaysLemmas.{length_before, split_at}

-- a line with which there is a command of this place, behind lines without one
pub line-at : (o p q : ObservationValue) (xs : List (List ℕ)) (i place line : ℕ) → i < length xs → Says o (take i xs) p → length p.commands ≤ place → line_added p (get_or xs i []) ≡ Ok q → place < length q.commands
    → line ≡ i + 3 → IsLineAmong o xs place line
line-at o p q xs i place line within says missing adds has is = record {
  before = take i xs;
  text = get_or xs i [];
  after = drop (suc i) xs;
  whole = split_at xs i within;
  number = is ∙ ap (λ n. n + 3) (sym (length_before xs i within));
  said = p;
  says = says;
  missing = missing;
  more = q;
  adds = adds;
  has = has;
}

-- lines of which one adds nothing say no observation
pub stopped-at : (o p q : ObservationValue) (xs : List (List ℕ)) (i : ℕ) (kind : FaultKind) → i < length xs → Says o (take i xs) p → line_added p (get_or xs i []) ≡ Err kind → Says o xs q → ⊥
stopped-at o p q xs i kind within says wrong whole =
    none-said (get_or xs i []) (drop (suc i) xs) kind says wrong (let P : List (List ℕ) → Type 0 = λ ls. Says o ls q in subst P (split_at xs i within) whole)

-- no line has the command
pub none-at : (o p q : ObservationValue) (xs : List (List ℕ)) (place : ℕ) → Says o xs p → length p.commands ≤ place → Says o xs q → length q.commands ≤ place
none-at o p q xs place says missing other = subst (λ (r : ObservationValue). length r.commands ≤ place) (one-said says other) missing

-- behind the first two lines
pub line-behind : (second by : List ℕ) (rest : List (List ℕ)) (place line : ℕ) → by_line second ≡ Ok by → IsLineAmong (nothing_by by) rest place line → IsCommandLine (first_line ∷ second ∷ rest) place line
line-behind second by rest place line observer a = record {
  before = first_line ∷ second ∷ a.before;
  text = a.text;
  after = a.after;
  whole = ap (λ ls. first_line ∷ second ∷ ls) a.whole;
  number = let n = a.number in omega (arith, n);
  said = a.said;
  says = record { second = second; rest = a.before; by = by; whole = refl; observer = observer; says = a.says };
  missing = a.missing;
  more = a.more;
  adds = a.adds;
  has = a.has;
}

pub none-behind : (second by : List ℕ) (rest : List (List ℕ)) (place : ℕ) → by_line second ≡ Ok by → ((o : ObservationValue) → Says (nothing_by by) rest o → length o.commands ≤ place)
    → (o : ObservationValue) → LinesSay (first_line ∷ second ∷ rest) o → length o.commands ≤ place
none-behind second by rest place observer none o s =
    let whole : first_line ∷ second ∷ rest ≡ first_line ∷ s.second ∷ s.rest = s.whole in
    let same : second ≡ s.second = cc in
    let others : rest ≡ s.rest = cc in
    let both : ◌≡◌ {A = Result (List ℕ) FaultKind} (Ok by) (Ok s.by) = sym observer ∙ ap by_line same ∙ s.observer in
    let is : by ≡ s.by = cc in
    let P : List ℕ → Type 0 = λ b. Says (nothing_by b) rest o in
    let Q : List (List ℕ) → Type 0 = λ ls. Says (nothing_by s.by) ls o in
    none o (subst P (sym is) (subst Q (sym others) s.says))

-- where nothing says what observed, or the first line does not name the format, no observation is said
pub no-observer : (lines : List (List ℕ)) (o : ObservationValue) → length lines ≡ 0 → LinesSay (first_line ∷ lines) o → ⊥
no-observer [] o none s = let whole = s.whole in let many = ap length whole in omega (arith, many)
no-observer (line ∷ lines) o none s = absurd (omega (arith, none))

pub wrong-observer : (second : List ℕ) (rest : List (List ℕ)) (kind : FaultKind) (o : ObservationValue) → by_line second ≡ Err kind → LinesSay (first_line ∷ second ∷ rest) o → ⊥
wrong-observer second rest kind o wrong s =
    let whole : first_line ∷ second ∷ rest ≡ first_line ∷ s.second ∷ s.rest = s.whole in
    let same : second ≡ s.second = cc in
    let no : ◌≡◌ {A = Result (List ℕ) FaultKind} (Err kind) (Ok s.by) = sym wrong ∙ ap by_line same ∙ s.observer in
    cc

pub no-lines : (lines : List (List ℕ)) (o : ObservationValue) → length lines ≡ 0 → LinesSay lines o → ⊥
no-lines [] o none s = let whole = s.whole in let many = ap length whole in omega (arith, many)
no-lines (line ∷ lines) o none s = absurd (omega (arith, none))

pub other-first : (first : List ℕ) (rest : List (List ℕ)) (o : ObservationValue) → bytes_eq first first_line ≡ false → LinesSay (first ∷ rest) o → ⊥
other-first first rest o differs s =
    let whole : first ∷ rest ≡ first_line ∷ s.second ∷ s.rest = s.whole in
    let same : first ≡ first_line = cc in
    let both : true ≡ false = sym (own_bytes first_line) ∙ ap (λ l. bytes_eq l first_line) (sym same) ∙ differs in
    cc

-- what is said of a line, where there is one
pub found-more : {E : Type 0} (P Q : ℕ → Type 0) → ((line : ℕ) → P line → Q line) → (r : Result (Option ℕ) E) → IfOk r (λ found. IfSome found P) → IfOk r (λ found. IfSome found Q)
found-more P Q more (Ok None) h = tt
found-more P Q more (Ok (Some line)) h = more line h
found-more P Q more (Err e) h = tt

-- the fault of a line that is not read
pub wrong-from : {V : Type 0} (fault : LineFault) (kind : FaultKind) (view : V → ObservationValue) (said : Result ObservationValue FaultKind) → fault ≡ Kind kind → Answers (Err fault) view said → said ≡ Err kind
wrong-from fault kind view said is answers = let P : LineFault → Type 0 = λ f. Answers (Err f) view said in subst P is answers
