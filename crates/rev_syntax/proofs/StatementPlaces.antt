-- A line with those under it has the fault of the first of them that goes wrong.
use Rattle.std.proofs.Common.{◌≡◌, ℕ, Bool, true, false, List, [], ◌∷◌, ◌++◌, Some, Result, Ok, Err, refl, sym, ap, subst, ◌∙◌, if◌then◌else◌}
use Rattle.rev_syntax.specs.declared.fault.SyntaxFault.{SyntaxFault}
use Rattle.rev_syntax.specs.declared.fault.SyntaxKind.{SyntaxKind}
use Rattle.rev_syntax.specs.declared.fault.SyntaxKind.TheVariants.{Syntax, Tab}
use Rattle.rev_syntax.specs.Faults.{fault_at, refused, and_then}
use Rattle.rev_syntax.specs.Forms.{IsHeader, IsBlock, NoBindings, OneMore, AreIndented}
use Rattle.rev_syntax.specs.Lines.{LineValue}
use Rattle.rev_syntax.specs.Places.{StopsUnder, IsMisplaced, WithTab, WithoutTab, takes_bindings, FirstWrong, NoneAbove, InHead, InBlock, UnderNone, StatementsStopThere, PlacesAreOne, IsFirstLine, IsUnder}
use Rattle.rev_syntax.specs.Statements.{BindingValue, HeaderValue, RuleHeader, BuildHeader, PoolHeader, DefaultHeader, IncludeHeader, SubninjaHeader, VariableHeader, FormValue, RuleForm, BuildForm, PoolForm, DefaultForm, IncludeForm, SubninjaForm, VariableForm, Group, header_of, is_indented, has_tab, misplaced, indented_binding, bindings_of, alone, with_block, form_of, statement_of}
use Rattle.rev_syntax.proofs.StatementLemmas.{line_at, header-given, header-found, block-found, header-first, indented-given}
use Rattle.rev_syntax.proofs.LineSteps.{Word, here, run, verdict}
use Rattle.rev_syntax.proofs.PlaceLemmas.{stops-found, stops-given, one-place}
use Rattle.rev_syntax.proofs.BindingPlaces.{tells, told, told-some, err-told, tab-found, tab-given, under-stops, under-faults}
use Rattle.rev_syntax.proofs.HeaderPlaces.{tells-header, first-read}

abbrev fault_or : {A : Type 0} → SyntaxFault → Result A SyntaxFault → SyntaxFault
fault_or fault (Ok x) = fault
fault_or fault (Err f) = f

-- lines where none may stand
abbrev wrong_kind : LineValue → SyntaxKind
wrong_kind line = if has_tab line then Tab else Syntax

is-misplaced : (line : LineValue) → IsMisplaced line (wrong_kind line)
is-misplaced line = by (has_tab line) refl
  where
    apart : false ≡ true → ⊥
    apart h = cc

    by : (t : Bool) → has_tab line ≡ t → IsMisplaced line (if t then Tab else Syntax)
    by true e = WithTab (tab-found line e)
    by false e = WithoutTab (λ tab. apart (sym e ∙ tab-given tab))

misplaced-kind : (line : LineValue) (kind : SyntaxKind) → IsMisplaced line kind → wrong_kind line ≡ kind
misplaced-kind line kind (WithTab tab) = ap (λ t. if t then Tab else Syntax) (tab-given tab)
misplaced-kind line kind (WithoutTab free) = by (has_tab line) refl
  where
    by : (t : Bool) → has_tab line ≡ t → (if t then Tab else Syntax) ≡ Syntax
    by true e = absurd (free (tab-found line e))
    by false e = refl

-- the lines under a first line
record BlockStops (block : List LineValue) (fault : SyntaxFault) : Type 0 where
  above : List LineValue
  bindings : List BindingValue
  line : LineValue
  below : List LineValue
  kind : SyntaxKind
  whole : above ++ line ∷ below ≡ block
  all : AreIndented above
  read : bindings_of above ≡ Ok bindings
  stops : StopsUnder line kind
  is : fault_at line kind ≡ fault

block-stops : (block : List LineValue) (fault : SyntaxFault) → AreIndented block → bindings_of block ≡ Err fault → BlockStops block fault
block-stops [] fault all h = cc
block-stops (line ∷ lines) fault all h = by (indented_binding line) refl (bindings_of lines) refl h (block-stops lines fault all.1)
  where
    by : (first : Result BindingValue SyntaxFault) → indented_binding line ≡ first → (others : Result (List BindingValue) SyntaxFault) → bindings_of lines ≡ others
        → and_then first (λ binding. and_then others (λ bindings. Ok (binding ∷ bindings))) ≡ Err fault → (bindings_of lines ≡ Err fault → BlockStops lines fault) → BlockStops (line ∷ lines) fault
    by (Err f) e others d h rest =
        let found = under-stops line fault all.0 (e ∙ ap (λ (g : SyntaxFault). Err g) (ap (fault_or fault) h)) in
        record { above = []; bindings = []; line = line; below = lines; kind = found.0; whole = refl; all = tt; read = refl; stops = found.1; is = found.2 }
    by (Ok binding) e (Ok bindings) d h rest = cc
    by (Ok binding) e (Err f) d h rest =
        let s = rest (d ∙ ap (λ (g : SyntaxFault). Err g) (ap (fault_or fault) h)) in
        record {
          above = line ∷ s.above;
          bindings = binding ∷ s.bindings;
          line = s.line;
          below = s.below;
          kind = s.kind;
          whole = ap (λ ls. line ∷ ls) s.whole;
          all = (all.0, s.all);
          read = (λ i. and_then (e i) (λ first. and_then (s.read i) (λ others. Ok (first ∷ others))));
          stops = s.stops;
          is = s.is;
        }

block-fault : {above : List LineValue} {bindings : List BindingValue} (line : LineValue) (below : List LineValue) (fault : SyntaxFault) → IsBlock above bindings → indented_binding line ≡ Err fault
    → bindings_of (above ++ line ∷ below) ≡ Err fault
block-fault line below fault NoBindings h = ap (λ r. and_then r (λ binding. and_then (bindings_of below) (λ bindings. Ok (binding ∷ bindings)))) h
block-fault line below fault (OneMore {number} k {text} {lines} {binding} {bindings} is r) h =
    (λ i. and_then (indented-given {number = number} k is i) (λ first. and_then (block-fault line below fault r h i) (λ others. Ok (first ∷ others))))

under-line : (above : List LineValue) (line : LineValue) (below : List LineValue) → AreIndented (above ++ line ∷ below) → is_indented line ≡ true
under-line [] line below all = all.0
under-line (l ∷ ls) line below all = under-line ls line below all.1

-- a first line that reads
take-block : (header : HeaderValue) (block : List LineValue) (fault : SyntaxFault) → takes_bindings header ≡ true → bindings_of block ≡ Err fault → with_block block header ≡ Err fault
take-block (RuleHeader name) block fault t h = ap (λ r. and_then r (λ bindings. Ok (RuleForm name bindings))) h
take-block (BuildHeader build) block fault t h = ap (λ r. and_then r (λ bindings. Ok (BuildForm build bindings))) h
take-block (PoolHeader name) block fault t h = ap (λ r. and_then r (λ bindings. Ok (PoolForm name bindings))) h
take-block (DefaultHeader paths) block fault t h = cc
take-block (IncludeHeader path) block fault t h = cc
take-block (SubninjaHeader path) block fault t h = cc
take-block (VariableHeader binding) block fault t h = cc

take-none : (header : HeaderValue) (line : LineValue) (below : List LineValue) → takes_bindings header ≡ false → with_block (line ∷ below) header ≡ misplaced line
take-none (RuleHeader name) line below t = cc
take-none (BuildHeader build) line below t = cc
take-none (PoolHeader name) line below t = cc
take-none (DefaultHeader paths) line below t = refl
take-none (IncludeHeader path) line below t = refl
take-none (SubninjaHeader path) line below t = refl
take-none (VariableHeader binding) line below t = refl

data WithFault (header : HeaderValue) (block : List LineValue) (fault : SyntaxFault) : Type 0 where
  OfBlock : takes_bindings header ≡ true → bindings_of block ≡ Err fault → WithFault header block fault
  OfNone : (line : LineValue) (below : List LineValue) → takes_bindings header ≡ false → line ∷ below ≡ block → fault_at line (wrong_kind line) ≡ fault → WithFault header block fault

only-first : {A B : Type 0} (answer : Result A SyntaxFault) (make : A → B) (fault : SyntaxFault) → and_then answer (λ x. Ok (make x)) ≡ Err fault → answer ≡ Err fault
only-first (Ok x) make fault h = cc
only-first (Err f) make fault h = ap (λ (g : SyntaxFault). Err g) (ap (fault_or fault) h)

none-fault : (header : HeaderValue) (block : List LineValue) (form : FormValue) (fault : SyntaxFault) → takes_bindings header ≡ false → alone block form ≡ Err fault → WithFault header block fault
none-fault header [] form fault t h = cc
none-fault header (line ∷ below) form fault t h = OfNone line below t refl (ap (fault_or fault) h)

with-fault : (header : HeaderValue) (block : List LineValue) (fault : SyntaxFault) → with_block block header ≡ Err fault → WithFault header block fault
with-fault (RuleHeader name) block fault h = OfBlock refl (only-first (bindings_of block) (RuleForm name) fault h)
with-fault (BuildHeader build) block fault h = OfBlock refl (only-first (bindings_of block) (BuildForm build) fault h)
with-fault (PoolHeader name) block fault h = OfBlock refl (only-first (bindings_of block) (PoolForm name) fault h)
with-fault (DefaultHeader paths) block fault h = none-fault (DefaultHeader paths) block (DefaultForm paths) fault refl h
with-fault (IncludeHeader path) block fault h = none-fault (IncludeHeader path) block (IncludeForm path) fault refl h
with-fault (SubninjaHeader path) block fault h = none-fault (SubninjaHeader path) block (SubninjaForm path) fault refl h
with-fault (VariableHeader binding) block fault h = none-fault (VariableHeader binding) block (VariableForm binding) fault refl h

-- the first that goes wrong
abbrev Wrong : Group → SyntaxFault → Type 0
Wrong group fault = (line : LineValue) × (kind : SyntaxKind) × FirstWrong group line kind × (fault_at line kind ≡ fault)

abbrev group_at : LineValue → List LineValue → Group
group_at head block = record { head = head; block = block }

under-wrong : (number : ℕ) (text : List ℕ) (header : HeaderValue) (block : List LineValue) (fault : SyntaxFault) → IsHeader number text header → AreIndented block → WithFault header block fault
    → Wrong (group_at (line_at number text) block) fault
under-wrong number text header block fault is all (OfBlock t h) =
    let s = block-stops block fault all h in (
      s.line,
      s.kind,
      subst (λ (b : List LineValue). FirstWrong (group_at (line_at number text) b) s.line s.kind) s.whole (InBlock s.above s.line s.below is t (block-found s.above s.bindings s.all s.read) s.stops),
      s.is,
    )
under-wrong number text header block fault is all (OfNone line below t whole same) =
    (line, wrong_kind line, subst (λ (b : List LineValue). FirstWrong (group_at (line_at number text) b) line (wrong_kind line)) whole (UnderNone line below is t (is-misplaced line)), same)

head-wrong : (head : LineValue) (block : List LineValue) (fault : SyntaxFault) → AreIndented block → is_indented head ≡ false → (answer : Result HeaderValue SyntaxFault) → header_of head ≡ answer
    → and_then answer (with_block block) ≡ Err fault → Wrong (group_at head block) fault
head-wrong head block fault all flat (Err f) e h =
    let same : f ≡ fault = ap (fault_or fault) h in
    let found = told-some head (verdict head.ended (run (here (Word [])) head.text)) fault (sym (tells-header head) ∙ ap tells e ∙ ap (λ (g : SyntaxFault). Some g) same) in
    (head, found.0, InHead flat (stops-found (first-read head.number) head.ended head.text found.0 found.1), found.2)
head-wrong head block fault all flat (Ok header) e h =
    let read = header-found head header e in
    let same : line_at head.number head.text ≡ head = (λ j. record { number = head.number; text = head.text; ended = sym read.ended j }) in
    subst (λ (l : LineValue). Wrong (group_at l block) fault) same (under-wrong head.number head.text header block fault read.is all (with-fault header block fault h))

group-wrong : (group : Group) (fault : SyntaxFault) → AreIndented group.block → statement_of group ≡ Err fault → Wrong group fault
group-wrong group fault all h =
    let head = group.head in
    by (is_indented head) refl (only-first (form_of group) (λ form. record { line = head.number; form = form }) fault h)
  where
    by : (t : Bool) → is_indented group.head ≡ t → (if t then misplaced group.head else and_then (header_of group.head) (with_block group.block)) ≡ Err fault → Wrong group fault
    by true e h = (group.head, wrong_kind group.head, NoneAbove e (is-misplaced group.head), ap (fault_or fault) h)
    by false e h = head-wrong group.head group.block fault all e (header_of group.head) refl h

-- and its fault is that of the statement
of-form : (group : Group) (fault : SyntaxFault) → form_of group ≡ Err fault → statement_of group ≡ Err fault
of-form group fault h = ap (λ r. and_then r (λ form. Ok (record { line = group.head.number; form = form }))) h

of-head : (head : LineValue) (block : List LineValue) (fault : SyntaxFault) → is_indented head ≡ false → and_then (header_of head) (with_block block) ≡ Err fault → statement_of (group_at head block) ≡ Err fault
of-head head block fault flat h = of-form (group_at head block) fault (ap (λ t. if t then misplaced head else and_then (header_of head) (with_block block)) flat ∙ h)

of-block : (number : ℕ) (text : List ℕ) (header : HeaderValue) (block : List LineValue) (fault : SyntaxFault) → IsHeader number text header → with_block block header ≡ Err fault
    → statement_of (group_at (line_at number text) block) ≡ Err fault
of-block number text header block fault is h =
    of-head (line_at number text) block fault (header-first is) (ap (λ r. and_then r (with_block block)) (header-given is) ∙ h)

at-kind : {A : Type 0} (line : LineValue) (j k : SyntaxKind) → j ≡ k → refused {A = A} line j ≡ refused line k
at-kind line j k e = ap (refused line) e

wrong-fault : {group : Group} {line : LineValue} {kind : SyntaxKind} → AreIndented group.block → FirstWrong group line kind → statement_of group ≡ refused line kind
wrong-fault all (NoneAbove {head} {block} {kind} indented is) =
    of-form (group_at head block) (fault_at head kind)
    (ap (λ t. if t then misplaced head else and_then (header_of head) (with_block block)) indented ∙ at-kind head (wrong_kind head) kind (misplaced-kind head kind is))
wrong-fault all (InHead {head} {block} {kind} flat stops) =
    let failed = err-told (header_of head) (fault_at head kind) (tells-header head ∙ ap (told head) (stops-given (first-read head.number) stops)) in
    of-head head block (fault_at head kind) flat (ap (λ r. and_then r (with_block block)) failed)
wrong-fault all (InBlock {number} {text} {header} above line below {bindings} {kind} is t read stops) =
    let failed = under-faults line kind (under-line above line below all) stops in
    of-block number text header (above ++ line ∷ below) (fault_at line kind) is (take-block header (above ++ line ∷ below) (fault_at line kind) t (block-fault line below (fault_at line kind) read failed))
wrong-fault all (UnderNone {number} {text} {header} line below {kind} is t wrong) =
    of-block number text header (line ∷ below) (fault_at line kind) is (take-none header line below t ∙ at-kind line (wrong_kind line) kind (misplaced-kind line kind wrong))

pub statements-stop : StatementsStopThere
statements-stop = λ group fault all. (group-wrong group fault all, λ w. wrong-fault all w.2 ∙ ap (λ (f : SyntaxFault). Err f) w.3)

pub places-one : PlacesAreOne
places-one = λ number. (one-place (IsFirstLine number), one-place (IsUnder number))
