-- The places at which bindings stop.
use Rattle.std.proofs.Common.{◌≡◌, ℕ, suc, ◌+◌, ◌==◌, Bool, true, false, List, [], ◌∷◌, ◌++◌, cond, Option, Some, None, Result, Ok, Err, take, drop, refl, sym, ap, subst, ◌∙◌, arith, if◌then◌else◌}
use Rattle.std.specs.List.{prefix_len}
use Rattle.std.proofs.lemmas.Bool.{eqb-true}
use Rattle.rev_syntax.specs.declared.fault.SyntaxFault.{SyntaxFault}
use Rattle.rev_syntax.specs.declared.fault.SyntaxKind.{SyntaxKind}
use Rattle.rev_syntax.specs.declared.fault.SyntaxKind.TheVariants.{Syntax, Tab, BadEscape}
use Rattle.rev_syntax.specs.Bytes.{is_in_name, is_space, is_empty, after, without_spaces, begins_with}
use Rattle.rev_syntax.specs.Cutting.{spaces}
use Rattle.rev_syntax.specs.Faults.{fault_at, refused, and_then, end_kind, finished, stuck}
use Rattle.rev_syntax.specs.Lines.{LineValue}
use Rattle.rev_syntax.specs.Paths.{text_or_fault, text_of}
use Rattle.rev_syntax.specs.Places.{HasTab, TabBehind, IsUnder, StopsUnder, Tabbed, Untabbed}
use Rattle.rev_syntax.specs.Statements.{BindingValue, name_of, after_name, value_of, bound, binding_of, is_indented, has_tab, indented_binding}
use Rattle.rev_syntax.specs.Texts.{fault_of, pieces_of}
use Rattle.rev_syntax.proofs.CutLemmas.{spaces-front, spaces-cut, without-cut}
use Rattle.rev_syntax.proofs.FormLemmas.{binding-given, binding-found}
use Rattle.rev_syntax.proofs.StatementLemmas.{line_at, binding-first, indent-some}
use Rattle.rev_syntax.proofs.TextSteps.{Escape, Outside, Dollar, Brace, Named, estep, tnext, tfault, text-steps}
use Rattle.rev_syntax.proofs.LineSteps.{Part, Indent, BoundName, BeforeEquals, BeforeValue, Value, State, At, here, lost, lift, in_text, outside, step, run, may_end, verdict, run-dead}
use Rattle.rev_syntax.proofs.PlaceLemmas.{IsReadFrom, stops-found, stops-given}

-- the fault that an answer tells, and that of a line that stops
abbrev pub tells : {A : Type 0} → Result A SyntaxFault → Option SyntaxFault
tells (Ok value) = None
tells (Err fault) = Some fault

abbrev pub told : LineValue → Option SyntaxKind → Option SyntaxFault
told line None = None
told line (Some kind) = Some (fault_at line kind)

abbrev pub outcome : LineValue → State → Option SyntaxFault
outcome line s = told line (verdict line.ended s)

pub tells-more : {A B : Type 0} (answer : Result A SyntaxFault) (make : A → B) → tells (and_then answer (λ x. Ok (make x))) ≡ tells answer
tells-more (Ok x) make = refl
tells-more (Err fault) make = refl

pub told-none : (line : LineValue) (o : Option SyntaxKind) → told line o ≡ None → o ≡ None
told-none line None h = refl
told-none line (Some kind) h = cc

pub ok-told : {A : Type 0} (answer : Result A SyntaxFault) → tells answer ≡ None → (value : A) × (answer ≡ Ok value)
ok-told (Ok value) h = (value, refl)
ok-told (Err fault) h = cc

abbrev fault_or : SyntaxFault → Option SyntaxFault → SyntaxFault
fault_or f None = f
fault_or f (Some g) = g

pub err-told : {A : Type 0} (answer : Result A SyntaxFault) (fault : SyntaxFault) → tells answer ≡ Some fault → answer ≡ Err fault
err-told (Ok value) fault h = cc
err-told (Err g) fault h = ap (λ f. Err f) (ap (fault_or g) h)

pub told-some : (line : LineValue) (o : Option SyntaxKind) (fault : SyntaxFault) → told line o ≡ Some fault → (kind : SyntaxKind) × (o ≡ Some kind) × (fault_at line kind ≡ fault)
told-some line None fault h = cc
told-some line (Some kind) fault h = (kind, refl, ap (fault_or fault) h)

pub tells-finished : {A : Type 0} (line : LineValue) (value : A) → tells (finished line value) ≡ told line (if line.ended then None else Some BadEscape)
tells-finished {A} line value = by line.ended
  where
    by : (t : Bool) → tells (if t then Ok value else refused line BadEscape) ≡ told line (if t then None else Some BadEscape)
    by true = refl
    by false = refl

-- what is passed over
one-more : (n : ℕ) → 1 + n ≡ suc n
one-more n = omega arith

pub skips : (test : ℕ → Bool) (p q : Part) (flag : Bool) → ((b : ℕ) → test b ≡ true → outside p b ≡ here p) → ((b : ℕ) → test b ≡ false → outside p b ≡ outside q b) → may_end p ≡ may_end q
    → (text : List ℕ) → verdict flag (run (here p) text) ≡ verdict flag (run (here q) (after test text))
skips test p q flag stays goes ends [] = ap (λ t. if t then (if flag then None else Some BadEscape) else Some (end_kind flag)) ends
skips test p q flag stays goes ends (b ∷ bs) = by (test b) refl (skips test p q flag stays goes ends bs)
  where
    by : (t : Bool) → test b ≡ t → verdict flag (run (here p) bs) ≡ verdict flag (run (here q) (after test bs))
        → verdict flag (run (outside p b) bs) ≡ verdict flag (run (here q) (drop (cond t (1 + prefix_len test bs) 0) (b ∷ bs)))
    by true e rest =
        ap (λ s. verdict flag (run s bs)) (stays b e) ∙ rest ∙ sym (ap (λ n. verdict flag (run (here q) (drop n (b ∷ bs)))) (one-more (prefix_len test bs)))
    by false e rest = ap (λ s. verdict flag (run s bs)) (goes b e)

-- what follows spaces begins with none
pub no-space : (text : List ℕ) → begins_with 32 (without_spaces text) ≡ false
no-space text = let cut = spaces-cut text in ap (begins_with 32) (without-cut cut) ∙ cut.stops

-- texts
pub tells-text : (line : LineValue) (raw : List ℕ) → tells (text_of line raw) ≡ told line (tfault Outside raw)
tells-text line raw = by (fault_of raw) ∙ ap (told line) (text-steps 0 raw)
  where
    by : (o : Option SyntaxKind) → tells (text_or_fault line o (pieces_of raw)) ≡ told line o
    by None = refl
    by (Some kind) = refl

-- values
abbrev or_end : Bool → Option SyntaxKind → Option SyntaxKind
or_end flag None = if flag then None else Some BadEscape
or_end flag (Some kind) = Some kind

step-value : (e : Escape) (b : ℕ) → step (At Value e) b ≡ lift Value (estep e b)
step-value Outside b = refl
step-value Dollar b = refl
step-value Brace b = refl
step-value Named b = refl

value-run : (flag : Bool) (e : Escape) (text : List ℕ) → verdict flag (run (At Value e) text) ≡ or_end flag (tfault e text)
value-run flag Outside [] = refl
value-run flag Dollar [] = refl
value-run flag Brace [] = refl
value-run flag Named [] = refl
value-run flag e (b ∷ bs) = ap (λ s. verdict flag (run s bs)) (step-value e b) ∙ by (estep e b) (λ f. value-run flag f bs)
  where
    by : (r : Result Escape SyntaxKind) → ((f : Escape) → verdict flag (run (At Value f) bs) ≡ or_end flag (tfault f bs))
        → verdict flag (run (lift Value r) bs) ≡ or_end flag (tnext r (λ f. tfault f bs))
    by (Ok f) rest = rest f
    by (Err kind) rest = ap (verdict flag) (run-dead kind bs)

tells-value : (line : LineValue) (text : List ℕ) → tells (value_of line text) ≡ outcome line (run (here Value) text)
tells-value line text = by (fault_of text) ∙ ap (λ o. told line (or_end line.ended o)) (text-steps 0 text) ∙ sym (ap (told line) (value-run line.ended Outside text))
  where
    by : (o : Option SyntaxKind) → tells (and_then (text_or_fault line o (pieces_of text)) (finished line)) ≡ told line (or_end line.ended o)
    by None = tells-finished line (pieces_of text)
    by (Some kind) = refl

-- a byte that is a space
space-here : (part : Part) (others : State) (b : ℕ) → (b == 32) ≡ true → (if b == 32 then here part else others) ≡ here part
space-here part others b e = ap (λ t. if t then here part else others) e

space-other : (part : Part) (others : State) (b : ℕ) → (b == 32) ≡ false → (if b == 32 then here part else others) ≡ others
space-other part others b e = ap (λ t. if t then here part else others) e

before-value : (flag : Bool) (text : List ℕ) → verdict flag (run (here BeforeValue) text) ≡ verdict flag (run (here Value) (without_spaces text))
before-value flag = skips is_space BeforeValue Value flag (λ b e. space-here BeforeValue (in_text Value b) b e) (λ b e. space-other BeforeValue (in_text Value b) b e) refl

-- the `=` and the value
abbrev equals : ℕ → State
equals b = if b == 61 then here BeforeValue else lost

before-equals : (flag : Bool) (text : List ℕ) → verdict flag (run (here BeforeEquals) text) ≡ verdict flag (run (here BeforeEquals) (without_spaces text))
before-equals flag = skips is_space BeforeEquals BeforeEquals flag (λ b e. space-here BeforeEquals (equals b) b e) (λ b e. refl) refl

tells-bound : (line : LineValue) (name text : List ℕ) → begins_with 32 text ≡ false → tells (bound line name text) ≡ outcome line (run (here BeforeEquals) text)
tells-bound line name [] free = refl
tells-bound line name (b ∷ bs) free = by (b == 61) ∙ sym (ap (λ s. outcome line (run s bs)) (space-other BeforeEquals (equals b) b free))
  where
    by : (t : Bool)
        → tells {A = BindingValue} (if t then and_then (value_of line (without_spaces bs)) (λ value. Ok (record { name = name; value = value; line = line.number })) else refused line Syntax)
        ≡ outcome line (run (if t then here BeforeValue else lost) bs)
    by true =
        tells-more (value_of line (without_spaces bs)) (λ value. record { name = name; value = value; line = line.number })
        ∙ tells-value line (without_spaces bs) ∙ sym (ap (told line) (before-value line.ended bs))
    by false = sym (ap (outcome line) (run-dead Syntax bs))

pub tells-equals : (line : LineValue) (name text : List ℕ) → tells (bound line name (without_spaces text)) ≡ outcome line (run (here BeforeEquals) text)
tells-equals line name text = tells-bound line name (without_spaces text) (no-space text) ∙ sym (ap (told line) (before-equals line.ended text))

bound-name : (flag : Bool) (text : List ℕ) → verdict flag (run (here BoundName) text) ≡ verdict flag (run (here BeforeEquals) (after is_in_name text))
bound-name flag =
    skips is_in_name BoundName BeforeEquals flag (λ b e. ap (λ t. if t then here BoundName else (if b == 32 then here BeforeEquals else equals b)) e)
    (λ b e. ap (λ t. if t then here BoundName else (if b == 32 then here BeforeEquals else equals b)) e) refl

indent : (flag : Bool) (text : List ℕ) → verdict flag (run (here (Indent true)) text) ≡ verdict flag (run (here (Indent true)) (without_spaces text))
indent flag = skips is_space (Indent true) (Indent true) flag (λ b e. space-here (Indent true) (if is_in_name b then here BoundName else lost) b e) (λ b e. refl) refl

tells-binding : (line : LineValue) (text : List ℕ) → begins_with 32 text ≡ false → tells (binding_of line text) ≡ outcome line (run (here (Indent true)) text)
tells-binding line [] free = refl
tells-binding line (b ∷ bs) free =
    by (is_in_name b) refl ∙ sym (ap (λ s. outcome line (run s bs)) (space-other (Indent true) (if is_in_name b then here BoundName else lost) b free))
  where
    by : (t : Bool) → is_in_name b ≡ t → tells (binding_of line (b ∷ bs)) ≡ outcome line (run (if t then here BoundName else lost) bs)
    by true e =
        let n = prefix_len is_in_name bs in
        (λ i. tells (if is_empty (take (cond (e i) (1 + n) 0) (b ∷ bs)) then stuck line (b ∷ bs) else bound line (name_of (b ∷ bs)) (without_spaces (drop (cond (e i) (1 + n) 0) (b ∷ bs)))))
        ∙ ap (λ k. tells (if is_empty (take k (b ∷ bs)) then stuck line (b ∷ bs) else bound line (name_of (b ∷ bs)) (without_spaces (drop k (b ∷ bs))))) (one-more n)
        ∙ tells-equals line (name_of (b ∷ bs)) (after is_in_name bs) ∙ sym (ap (told line) (bound-name line.ended bs))
    by false e =
        ap (λ t. tells (if is_empty (take (cond t (1 + prefix_len is_in_name bs) 0) (b ∷ bs)) then stuck line (b ∷ bs) else bound line (name_of (b ∷ bs)) (after_name (b ∷ bs)))) e
        ∙ sym (ap (outcome line) (run-dead Syntax bs))

tells-indented : (line : LineValue) (text : List ℕ) → tells (binding_of line (without_spaces text)) ≡ outcome line (run (here (Indent true)) text)
tells-indented line text = tells-binding line (without_spaces text) (no-space text) ∙ sym (ap (told line) (indent line.ended text))

-- lines under a line
under-found : (number : ℕ) (text : List ℕ) → verdict true (run (here (Indent false)) text) ≡ None → IsUnder number text
under-found number [] h = cc
under-found number (b ∷ bs) h = by (b == 32) refl h
  where
    line : LineValue
    line = line_at number bs

    by : (t : Bool) → (b == 32) ≡ t → verdict true (run (if t then here (Indent true) else lost) bs) ≡ None → IsUnder number (b ∷ bs)
    by true e h =
        let read = ok-told (binding_of line (without_spaces bs)) (tells-indented line bs ∙ ap (told line) h) in
        let cut = spaces-cut bs in (
          cut.count,
          without_spaces bs,
          read.0,
          (λ i. sym (eqb-true b 32 e) i ∷ (ap (λ t. spaces cut.count ++ t) (without-cut cut) ∙ cut.whole) i),
          (binding-found line (without_spaces bs) read.0 read.1).is,
        )
    by false e h = let dead : Some Syntax ≡ None = sym (ap (verdict true) (run-dead Syntax bs)) ∙ h in cc

under-given : (number : ℕ) (text : List ℕ) → IsUnder number text → verdict true (run (here (Indent false)) text) ≡ None
under-given number text (k, rest, binding, whole, is) =
    let line = line_at number (spaces k ++ rest) in
    let free : without_spaces (spaces k ++ rest) ≡ rest = spaces-front k rest (binding-first 32 refl is) in
    let read : tells (binding_of line (without_spaces (spaces k ++ rest))) ≡ None = ap (λ t. tells (binding_of line t)) free ∙ ap tells (binding-given line refl is) in
    ap (λ t. verdict true (run (here (Indent false)) t)) (sym whole) ∙ told-none line (verdict true (run (here (Indent true)) (spaces k ++ rest))) (sym (tells-indented line (spaces k ++ rest)) ∙ read)

under-read : (number : ℕ) → IsReadFrom (Indent false) (IsUnder number)
under-read number = record { found = under-found number; given = under-given number }

-- tabs
pub tab-found : (line : LineValue) → has_tab line ≡ true → HasTab line.text
tab-found line h =
    let cut = spaces-cut line.text in
    by cut.next cut.count (sym (ap (begins_with 9) (without-cut cut)) ∙ h) cut.whole
  where
    by : (next : List ℕ) (k : ℕ) → begins_with 9 next ≡ true → spaces k ++ next ≡ line.text → HasTab line.text
    by [] k h w = cc
    by (b ∷ bs) k h w = subst HasTab ((λ i. spaces k ++ sym (eqb-true b 9 h) i ∷ bs) ∙ w) (TabBehind k bs)

pub tab-given : {text : List ℕ} → HasTab text → begins_with 9 (without_spaces text) ≡ true
tab-given (TabBehind k rest) = ap (begins_with 9) (spaces-front k (9 ∷ rest) refl)

-- an indented line without a tab
under-first : (line : LineValue) → is_indented line ≡ true → has_tab line ≡ false → (bs : List ℕ) × (32 ∷ bs ≡ line.text)
under-first line indented untabbed =
    let cut = spaces-cut line.text in
    let some = indent-some line cut.count cut.next cut.whole cut.stops (without-cut cut) indented untabbed in
    (spaces some.0 ++ cut.next, ap (λ n. spaces n ++ cut.next) (sym some.1) ∙ cut.whole)

unspaced-one : (bs : List ℕ) → without_spaces (32 ∷ bs) ≡ without_spaces bs
unspaced-one bs = ap (λ n. drop n (32 ∷ bs)) (one-more (prefix_len is_space bs))

tells-under : (line : LineValue) → is_indented line ≡ true → has_tab line ≡ false → tells (indented_binding line) ≡ outcome line (run (here (Indent false)) line.text)
tells-under line indented untabbed =
    let first = under-first line indented untabbed in
    ap (λ t. tells (if t then refused line Tab else binding_of line (without_spaces line.text))) untabbed
    ∙ ap (λ t. tells (binding_of line (without_spaces t))) (sym first.1)
    ∙ ap (λ t. tells (binding_of line t)) (unspaced-one first.0)
    ∙ tells-indented line first.0 ∙ ap (λ t. outcome line (run (here (Indent false)) t)) first.1

abbrev of_fault : SyntaxFault → Result BindingValue SyntaxFault → SyntaxFault
of_fault f (Ok value) = f
of_fault f (Err g) = g

pub under-stops : (line : LineValue) (fault : SyntaxFault) → is_indented line ≡ true → indented_binding line ≡ Err fault → (kind : SyntaxKind) × StopsUnder line kind × (fault_at line kind ≡ fault)
under-stops line fault indented h = by (has_tab line) refl
  where
    by : (t : Bool) → has_tab line ≡ t → (kind : SyntaxKind) × StopsUnder line kind × (fault_at line kind ≡ fault)
    by true e =
        let same = sym (ap (λ t. if t then refused line Tab else binding_of line (without_spaces line.text)) e) ∙ h in
        (Tab, Tabbed (tab-found line e), ap (of_fault fault) same)
    by false e =
        let found = told-some line (verdict line.ended (run (here (Indent false)) line.text)) fault (sym (tells-under line indented e) ∙ ap tells h) in (
          found.0,
          Untabbed (λ tab. absurd (by-tab (sym e ∙ tab-given tab))) (stops-found (under-read line.number) line.ended line.text found.0 found.1),
          found.2,
        )
      where
        by-tab : false ≡ true → ⊥
        by-tab h = cc

pub under-faults : (line : LineValue) (kind : SyntaxKind) → is_indented line ≡ true → StopsUnder line kind → indented_binding line ≡ refused line kind
under-faults line kind indented (Tabbed tab) = ap (λ t. if t then refused line Tab else binding_of line (without_spaces line.text)) (tab-given tab)
under-faults line kind indented (Untabbed free stops) = by (has_tab line) refl
  where
    by : (t : Bool) → has_tab line ≡ t → indented_binding line ≡ refused line kind
    by true e = absurd (free (tab-found line e))
    by false e = err-told (indented_binding line) (fault_at line kind) (tells-under line indented e ∙ ap (told line) (stops-given (under-read line.number) stops))
