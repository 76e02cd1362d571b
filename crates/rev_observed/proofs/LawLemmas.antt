-- Each list of lines says one observation, or has one first fault.
use Rattle.std.proofs.Common.{◌≡◌, ◌≢◌, ◌⊎◌, inl, inr, ℕ, ◌+◌, Bool, true, false, bytes_eq, List, [], ◌∷◌, ◌++◌, length, slice_get, Option, Some, None, Result, Ok, Err, if◌then◌else◌, refl, sym, ap, ◌∙◌, subst, arith}
use Rattle.rev_paths.proofs.PlaceLemmas.{own_bytes, same_bytes}
use Rattle.rev_observed.specs.declared.faults.Fault.{Fault}
use Rattle.rev_observed.specs.declared.faults.FaultKind.{FaultKind}
use Rattle.rev_observed.specs.declared.faults.FaultKind.TheVariants.{Header, Syntax}
use Rattle.rev_observed.specs.Faults.{fault_at}
use Rattle.rev_observed.specs.Laws.{OneOrTheOther}
use Rattle.rev_observed.specs.Lines.{by_line, line_added}
use Rattle.rev_observed.specs.Observations.{ObservationValue, nothing_by}
use Rattle.rev_observed.specs.Says.{IsFirstFault, IsWrongBehind, LinesSay, NoHeader, NoLine, NoObserver, OneLine, Says, WrongLine, WrongObserver, first_line}

-- what is made of what a line says, or its fault at a place
abbrev then_after : {A : Type 0} → Result A FaultKind → ℕ → (A → Result ObservationValue Fault) → Result ObservationValue Fault
then_after (Ok a) n f = f a
then_after (Err kind) n f = Err (fault_at n kind)

-- what lines say behind others, the first of them at a place
abbrev after : ObservationValue → ℕ → List (List ℕ) → Result ObservationValue Fault
after o n [] = Ok o
after o n (line ∷ lines) = then_after (line_added o line) n (λ p. after p (n + 1) lines)

-- what lines say behind the first
abbrev behind : List (List ℕ) → Result ObservationValue Fault
behind [] = Err (fault_at 1 Syntax)
behind (second ∷ lines) = then_after (by_line second) 1 (λ by. after (nothing_by by) 2 lines)

-- what lines say
abbrev whole : List (List ℕ) → Result ObservationValue Fault
whole [] = Err (fault_at 0 Header)
whole (first ∷ lines) = if bytes_eq first first_line then behind lines else Err (fault_at 0 Header)

after-says : {o p : ObservationValue} {xs : List (List ℕ)} (n : ℕ) → Says o xs p → after o n xs ≡ Ok p
after-says n NoLine = refl
after-says n (OneLine {lines = lines} e s) =
    ap (λ r. then_after r n (λ p. after p (n + 1) lines)) e ∙ after-says (n + 1) s

-- the first of the lines says more, and so do the others behind it
said_first : (o p : ObservationValue) (n : ℕ) (line : List ℕ) (lines : List (List ℕ)) → ((q : ObservationValue) → after q (n + 1) lines ≡ Ok p → Says q lines p) → (r : Result ObservationValue FaultKind) → line_added o line ≡ r → then_after r n (λ q. after q (n + 1) lines) ≡ Ok p → Says o (line ∷ lines) p
said_first o p n line lines others (Ok q) e h = OneLine e (others q h)
said_first o p n line lines others (Err kind) e h =
    absurd (let no : ◌≡◌ {A = Result ObservationValue Fault} (Err (fault_at n kind)) (Ok p) = h in cc)

says-after : (o p : ObservationValue) (n : ℕ) (xs : List (List ℕ)) → after o n xs ≡ Ok p → Says o xs p
says-after o p n [] h =
    let same : o ≡ p = cc in let P : ObservationValue → Type 0 = λ q. Says o [] q in subst P same NoLine
says-after o p n (line ∷ lines) h =
    said_first o p n line lines (λ q e. says-after q p (n + 1) lines e) (line_added o line) refl h

-- a line that adds nothing
wrong-after : {o p : ObservationValue} {before : List (List ℕ)} (n : ℕ) (line : List ℕ) (rest : List (List ℕ)) (kind : FaultKind) → Says o before p → line_added p line ≡ Err kind → after o n (before ++ line ∷ rest) ≡ Err (fault_at (n + length before) kind)
wrong-after n line rest kind NoLine e =
    let none : n ≡ n + 0 = omega arith in
    ap (λ r. then_after r n (λ p. after p (n + 1) rest)) e ∙ ap (λ k. Err (fault_at k kind)) none
wrong-after n line rest kind (OneLine {lines = lines} d s) e =
    let more : n + 1 + length lines ≡ n + length (line ∷ lines) = omega arith in
    ap (λ r. then_after r n (λ p. after p (n + 1) (lines ++ line ∷ rest))) d ∙ wrong-after (n + 1) line rest kind s e ∙ ap (λ k. Err (fault_at k kind)) more

-- behind what is said, lines say one observation, and none where one of them adds nothing
pub one-said : {o p q : ObservationValue} {xs : List (List ℕ)} → Says o xs p → Says o xs q → p ≡ q
one-said {p = p} {q = q} s t =
    let same : ◌≡◌ {A = Result ObservationValue Fault} (Ok p) (Ok q) = sym (after-says 0 s) ∙ after-says 0 t in cc

pub none-said : {o p q : ObservationValue} {before : List (List ℕ)} (line : List ℕ) (rest : List (List ℕ)) (kind : FaultKind) → Says o before p → line_added p line ≡ Err kind → Says o (before ++ line ∷ rest) q → ⊥
none-said {q = q} {before = before} line rest kind s wrong t =
    let no : ◌≡◌ {A = Result ObservationValue Fault} (Err (fault_at (0 + length before) kind)) (Ok q) = sym (wrong-after 0 line rest kind s wrong) ∙ after-says 0 t in cc

-- where the first such line stands
record Stops (o : ObservationValue) (n : ℕ) (xs : List (List ℕ)) (f : Fault) : Type 0 where
  before : List (List ℕ)
  line : List ℕ
  rest : List (List ℕ)
  is : xs ≡ before ++ line ∷ rest
  said : ObservationValue
  says : Says o before said
  kind : FaultKind
  wrong : line_added said line ≡ Err kind
  named : f ≡ fault_at (n + length before) kind

-- the first of the lines is at fault, or one of the others
stopped_first : (o : ObservationValue) (n : ℕ) (line : List ℕ) (lines : List (List ℕ)) (f : Fault) → ((q : ObservationValue) → after q (n + 1) lines ≡ Err f → Stops q (n + 1) lines f) → (r : Result ObservationValue FaultKind) → line_added o line ≡ r → then_after r n (λ q. after q (n + 1) lines) ≡ Err f → Stops o n (line ∷ lines) f
stopped_first o n line lines f others (Ok q) e h =
    let s = others q h in
    let more : n + 1 + length s.before ≡ n + length (line ∷ s.before) = omega arith in
    record {
      before = line ∷ s.before;
      line = s.line;
      rest = s.rest;
      is = ap (λ l. line ∷ l) s.is;
      said = s.said;
      says = OneLine e s.says;
      kind = s.kind;
      wrong = s.wrong;
      named = s.named ∙ ap (λ k. fault_at k s.kind) more;
    }
stopped_first o n line lines f others (Err kind) e h =
    let same : fault_at n kind ≡ f = cc in
    let none : n ≡ n + 0 = omega arith in
    record {
      before = [];
      line = line;
      rest = lines;
      is = refl;
      said = o;
      says = NoLine;
      kind = kind;
      wrong = e;
      named = sym same ∙ ap (λ k. fault_at k kind) none;
    }

after-wrong : (o : ObservationValue) (n : ℕ) (xs : List (List ℕ)) (f : Fault) → after o n xs ≡ Err f → Stops o n xs f
after-wrong o n [] f h = absurd (let no : ◌≡◌ {A = Result ObservationValue Fault} (Ok o) (Err f) = h in cc)
after-wrong o n (line ∷ lines) f h =
    stopped_first o n line lines f (λ q e. after-wrong q (n + 1) lines f e) (line_added o line) refl h

own_first : bytes_eq first_line first_line ≡ true
own_first = own_bytes first_line

whole-first : (lines : List (List ℕ)) → whole (first_line ∷ lines) ≡ behind lines
whole-first lines = ap (λ b. if b then behind lines else Err (fault_at 0 Header)) own_first

-- lines that say an observation
whole-says : (lines : List (List ℕ)) (o : ObservationValue) → LinesSay lines o → whole lines ≡ Ok o
whole-says lines o s =
    ap whole s.whole ∙ whole-first (s.second ∷ s.rest)
    ∙ ap (λ r. then_after r 1 (λ by. after (nothing_by by) 2 s.rest)) s.observer ∙ after-says 2 s.says

-- lines of which one is at fault
next-whole : {before : List (List ℕ)} {next : Option (List ℕ)} {kind : FaultKind} → IsWrongBehind before next kind → (rest : List (List ℕ)) → slice_get rest 0 ≡ next → whole (before ++ rest) ≡ Err (fault_at (length before) kind)
next-whole (NoHeader other) [] h = refl
next-whole (NoHeader other) (first ∷ rest) h =
    by (bytes_eq first first_line) refl
  where
    by : (b : Bool) → bytes_eq first first_line ≡ b → whole (first ∷ rest) ≡ Err (fault_at 0 Header)
    by true e = absurd (other (sym h ∙ ap Some (same_bytes first first_line e)))
    by false e = ap (λ b. if b then behind rest else Err (fault_at 0 Header)) e
next-whole NoObserver [] h = whole-first []
next-whole NoObserver (line ∷ rest) h = absurd (let no : Some line ≡ None = h in cc)
next-whole (WrongObserver e) [] h = absurd (let no = h in cc)
next-whole (WrongObserver {line = line} {kind = kind} e) (other ∷ rest) h =
    let same : other ≡ line = cc in
    whole-first (other ∷ rest) ∙ ap (λ l. then_after (by_line l) 1 (λ by. after (nothing_by by) 2 rest)) same ∙ ap (λ r. then_after r 1 (λ by. after (nothing_by by) 2 rest)) e
next-whole (WrongLine o b s e) [] h = absurd (let no = h in cc)
next-whole (WrongLine {second = second} {line = line} {by = by} {lines = lines} {kind = kind} o b s e) (other ∷ rest) h =
    let same : other ≡ line = cc in
    let many : 2 + length lines ≡ length (first_line ∷ second ∷ lines) = omega arith in
    ap (λ l. whole (first_line ∷ second ∷ (lines ++ l ∷ rest))) same ∙ whole-first (second ∷ (lines ++ line ∷ rest))
    ∙ ap (λ r. then_after r 1 (λ by. after (nothing_by by) 2 (lines ++ line ∷ rest))) b ∙ wrong-after 2 line rest kind s e ∙ ap (λ n. Err (fault_at n kind)) many

whole-wrong : (lines : List (List ℕ)) (f : Fault) → IsFirstFault lines f → whole lines ≡ Err f
whole-wrong lines f w =
    let P : ℕ → Type 0 = λ n. whole lines ≡ Err (record { kind = f.kind; line = n }) in
    ap whole w.whole ∙ next-whole w.wrong w.rest refl ∙ ap (λ n. Err (record { kind = f.kind; line = n })) (sym w.number)

-- and back
says-whole : (lines : List (List ℕ)) (o : ObservationValue) → whole lines ≡ Ok o → LinesSay lines o
says-whole [] o h = absurd (let no : ◌≡◌ {A = Result ObservationValue Fault} (Err (fault_at 0 Header)) (Ok o) = h in cc)
says-whole (first ∷ lines) o h =
    by (bytes_eq first first_line) refl lines h
  where
    after_by : (second : List ℕ) (rest : List (List ℕ)) → first ≡ first_line → (r : Result (List ℕ) FaultKind) → by_line second ≡ r → then_after r 1 (λ by. after (nothing_by by) 2 rest) ≡ Ok o → LinesSay (first ∷ second ∷ rest) o
    after_by second rest is (Ok by) e h = record {
      second = second;
      rest = rest;
      by = by;
      whole = ap (λ l. l ∷ second ∷ rest) is;
      observer = e;
      says = says-after (nothing_by by) o 2 rest h;
    }
    after_by second rest is (Err kind) e h =
        absurd (let no : ◌≡◌ {A = Result ObservationValue Fault} (Err (fault_at 1 kind)) (Ok o) = h in cc)

    by : (b : Bool) → bytes_eq first first_line ≡ b → (lines : List (List ℕ)) → (if b then behind lines else Err (fault_at 0 Header)) ≡ Ok o → LinesSay (first ∷ lines) o
    by false e lines h = absurd (let no : ◌≡◌ {A = Result ObservationValue Fault} (Err (fault_at 0 Header)) (Ok o) = h in cc)
    by true e [] h = absurd (let no : ◌≡◌ {A = Result ObservationValue Fault} (Err (fault_at 1 Syntax)) (Ok o) = h in cc)
    by true e (second ∷ rest) h = after_by second rest (same_bytes first first_line e) (by_line second) refl h

wrong-whole : (lines : List (List ℕ)) (f : Fault) → whole lines ≡ Err f → IsFirstFault lines f
wrong-whole [] f h =
    let same : fault_at 0 Header ≡ f = cc in
    let P : Fault → Type 0 = λ g. IsFirstFault [] g in
    subst P same (record { before = []; rest = []; whole = refl; number = refl; wrong = NoHeader (λ e. let no : None ≡ Some first_line = e in cc) })
wrong-whole (first ∷ lines) f h =
    by (bytes_eq first first_line) refl lines h
  where
    after_by : (second : List ℕ) (rest : List (List ℕ)) → first ≡ first_line → (r : Result (List ℕ) FaultKind) → by_line second ≡ r → then_after r 1 (λ by. after (nothing_by by) 2 rest) ≡ Err f → IsFirstFault (first ∷ second ∷ rest) f
    after_by second rest is (Ok by) e h =
        let s = after-wrong (nothing_by by) 2 rest f h in
        let number : f.line ≡ 2 + length s.before + 1 = ap (λ (f : Fault). f.line) s.named in
        let kind : f.kind ≡ s.kind = ap (λ (f : Fault). f.kind) s.named in
        let P : FaultKind → Type 0 = λ k. IsWrongBehind (first_line ∷ second ∷ s.before) (Some s.line) k in
        record {
          before = first_line ∷ second ∷ s.before;
          rest = s.line ∷ s.rest;
          whole = ap (λ l. l ∷ second ∷ rest) is ∙ ap (λ l. first_line ∷ second ∷ l) s.is;
          number = omega (arith, number);
          wrong = subst P (sym kind) (WrongLine s.said e s.says s.wrong);
        }
    after_by second rest is (Err kind) e h =
        let same : fault_at 1 kind ≡ f = cc in
        let P : Fault → Type 0 = λ g. IsFirstFault (first ∷ second ∷ rest) g in
        subst P same (record { before = first_line ∷ []; rest = second ∷ rest; whole = ap (λ l. l ∷ second ∷ rest) is; number = refl; wrong = WrongObserver e })

    by : (b : Bool) → bytes_eq first first_line ≡ b → (lines : List (List ℕ)) → (if b then behind lines else Err (fault_at 0 Header)) ≡ Err f → IsFirstFault (first ∷ lines) f
    by false e lines h =
        let same : fault_at 0 Header ≡ f = cc in
        let P : Fault → Type 0 = λ g. IsFirstFault (first ∷ lines) g in
        let other : Some first ≢ Some first_line = λ is. let equal : first ≡ first_line = cc in let both : true ≡ false = sym own_first ∙ ap (λ l. bytes_eq l first_line) (sym equal) ∙ e in cc in
        subst P same (record { before = []; rest = first ∷ lines; whole = refl; number = refl; wrong = NoHeader other })
    by true e [] h =
        let same : fault_at 1 Syntax ≡ f = cc in
        let P : Fault → Type 0 = λ g. IsFirstFault (first ∷ []) g in
        subst P same (record { before = first_line ∷ []; rest = []; whole = ap (λ l. l ∷ []) (same_bytes first first_line e); number = refl; wrong = NoObserver })
    by true e (second ∷ rest) h = after_by second rest (same_bytes first first_line e) (by_line second) refl h

pub one-or-the-other : OneOrTheOther
one-or-the-other lines =
    by (whole lines) refl
  where
    by : (r : Result ObservationValue Fault) → whole lines ≡ r
        → ((o : ObservationValue) × LinesSay lines o × ((p : ObservationValue) → LinesSay lines p → p ≡ o) × ((f : Fault) → IsFirstFault lines f → ⊥))
        ⊎ ((f : Fault) × IsFirstFault lines f × ((g : Fault) → IsFirstFault lines g → g ≡ f) × ((o : ObservationValue) → LinesSay lines o → ⊥))
    by (Ok o) e =
        inl (
          o,
          says-whole lines o e,
          (λ p s. let same : ◌≡◌ {A = Result ObservationValue Fault} (Ok p) (Ok o) = sym (whole-says lines p s) ∙ e in cc),
          (λ f w. let no : ◌≡◌ {A = Result ObservationValue Fault} (Err f) (Ok o) = sym (whole-wrong lines f w) ∙ e in cc),
        )
    by (Err f) e =
        inr (
          f,
          wrong-whole lines f e,
          (λ g w. let same : ◌≡◌ {A = Result ObservationValue Fault} (Err g) (Err f) = sym (whole-wrong lines g w) ∙ e in cc),
          (λ o s. let no : ◌≡◌ {A = Result ObservationValue Fault} (Ok o) (Err f) = sym (whole-says lines o s) ∙ e in cc),
        )
