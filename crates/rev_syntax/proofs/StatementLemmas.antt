-- Statements are read as the table of forms says.
use Rattle.std.proofs.Common.{◌≡◌, ℕ, zero, suc, ◌+◌, ◌==◌, Bool, true, false, not, ◌&&◌, ◌||◌, cond, List, [], ◌∷◌, ◌++◌, Result, Ok, length, take, drop, bytes_eq, codes, refl, sym, ap, ◌∙◌, subst, arith, if◌then◌else◌, append_assoc}
use Rattle.std.specs.List.{prefix_len}
use Rattle.std.proofs.lemmas.Bool.{eqb-true}
use Rattle.std.proofs.lemmas.Slice.Eq.{bytes_eq-Decides}
use Rattle.rev_syntax.specs.declared.bytes.End.TheVariants.{PathEnd}
use Rattle.rev_syntax.specs.declared.fault.SyntaxKind.TheVariants.{Syntax, Tab}
use Rattle.rev_syntax.specs.declared.fault.SyntaxFault.{SyntaxFault}
use Rattle.rev_syntax.specs.declared.paths.Mark.{Mark}
use Rattle.rev_syntax.specs.declared.paths.Mark.TheVariants.{Bar, TwoBars, BarAt}
use Rattle.rev_syntax.specs.Bytes.{is_in_name, is_empty, begins_with, after, is_space, without_spaces}
use Rattle.rev_syntax.specs.Cutting.{spaces}
use Rattle.rev_syntax.specs.Ends.{free_len, ends_at}
use Rattle.rev_syntax.specs.Faults.{and_then, closed, stuck, refused}
use Rattle.rev_syntax.specs.Grammar.{is_run, is_name, ReadsAs}
use Rattle.rev_syntax.specs.Lines.{LineValue}
use Rattle.rev_syntax.specs.Lists.{IsPath, ListReads, ends_list}
use Rattle.rev_syntax.specs.Lists.{Nothing as NoPaths, Space as SpaceBefore, Path as PathBefore}
use Rattle.rev_syntax.specs.Paths.{Part, text_of, path_of, list_of, list_after}
use Rattle.rev_syntax.specs.Texts.{PieceValue}
use Rattle.rev_syntax.specs.Statements.{BindingValue, BuildLineValue, FormValue, RuleForm, BuildForm, PoolForm, DefaultForm, IncludeForm, SubninjaForm, VariableForm, StatementValue, OutputsValue, InputsValue, HeaderValue, RuleHeader, BuildHeader, PoolHeader, DefaultHeader, IncludeHeader, SubninjaHeader, VariableHeader, name_of, after_name, binding_of, last_name, last_path, last_paths, colon, outputs_of, whole_mark, inputs_of, rule_and_inputs, build_line_of, header_of, is_indented, has_tab, misplaced, indented_binding, bindings_of, alone, with_block, Group, form_of, statement_of}
use Rattle.rev_syntax.specs.Forms.{stops_name, IsBinding, Binding, Behind, Absent, Present, AreInputs, Inputs, IsBuildLine, BuildLine, is_keyword, IsHeader, RuleLine, BuildHead, PoolLine, DefaultLine, IncludeLine, SubninjaLine, VariableLine, IsBlock, NoBindings, OneMore, IsForm, RuleBlock, BuildBlock, PoolBlock, DefaultAlone, IncludeAlone, SubninjaAlone, VariableAlone, IsStatement, Statement, AreIndented, StatementsAreRead}
use Rattle.rev_syntax.proofs.CutLemmas.{spaces-front, spaces-cut, without-cut, append_nil, neither}
use Rattle.rev_syntax.proofs.GrammarLemmas.{not_true, take_drop}
use Rattle.rev_syntax.proofs.ListLemmas.{lists-read, walk, flag-text}
use Rattle.rev_syntax.proofs.FormLemmas.{went, goes, same-ok, closed-ok, closes, name-front, name-cut, a-name, named, unstuck, spaces-stop, all-spaces, no-spaces, text-read, text-reads, binding-given, binding-found, behind-given, behind-found}

-- the first byte of a name
not-in : (c k : ℕ) → is_in_name c ≡ true → is_in_name k ≡ false → (c == k) ≡ false
not-in c k h none = by (c == k) refl
  where
    by : (t : Bool) → (c == k) ≡ t → t ≡ false
    by false e = refl
    by true e = sym h ∙ ap is_in_name (eqb-true c k e) ∙ none

both : (a b : Bool) → (a && b) ≡ true → (a ≡ true) × (b ≡ true)
both true b h = (refl, h)
both false b h = cc

name-first : (k : ℕ) (name text : List ℕ) → is_in_name k ≡ false → is_name is_in_name name ≡ true → begins_with k (name ++ text) ≡ false
name-first k [] text none h = cc
name-first k (b ∷ bs) text none h = not-in b k (both (is_in_name b) (is_run is_in_name bs) h).0 none

spaced-name : (k : ℕ) (name text : List ℕ) → is_name is_in_name name ≡ true → without_spaces (spaces k ++ (name ++ text)) ≡ name ++ text
spaced-name k name text is = spaces-front k (name ++ text) (name-first 32 name text refl is)

-- lists with spaces before them
one-more : (n : ℕ) → 1 + n ≡ suc n
one-more n = omega arith

path-first : (raw text : List ℕ) (path : List PieceValue) → IsPath raw path → begins_with 32 (raw ++ text) ≡ false
path-first [] text path is = let no : true ≡ false = is.some in cc
path-first (b ∷ bs) text path is = by (b == 32) refl
  where
    by : (t : Bool) → (b == 32) ≡ t → t ≡ false
    by false e = refl
    by true e =
        let stopped : free_len PathEnd false (b ∷ bs) ≡ 0 = ap (λ (t : ℕ). free_len PathEnd false (t ∷ bs)) (eqb-true b 32 e) in
        let none : 0 ≡ suc (length bs) = sym stopped ∙ is.whole in
        absurd (omega (arith, none))

unspaced : {text : List ℕ} {paths : List (List PieceValue)} → ListReads text paths → ListReads (without_spaces text) paths
unspaced NoPaths = NoPaths
unspaced (SpaceBefore {text} {paths} r) = subst (λ (t : List ℕ). ListReads t paths) (sym (ap (λ n. drop n (32 ∷ text)) (one-more (prefix_len is_space text)))) (unspaced r)
unspaced (PathBefore raw {text} {path} {paths} is ends r) =
    subst (λ (t : List ℕ). ListReads t (path ∷ paths)) (sym (spaces-front 0 (raw ++ text) (path-first raw text path is))) (PathBefore raw is ends r)

respaced : (k : ℕ) {text : List ℕ} {paths : List (List PieceValue)} → ListReads text paths → ListReads (spaces k ++ text) paths
respaced zero r = r
respaced (suc k) r = SpaceBefore (respaced k r)

unspaced-append : (front rest : List ℕ) → begins_with 32 rest ≡ false → without_spaces (front ++ rest) ≡ without_spaces front ++ rest
unspaced-append [] rest h = spaces-front 0 rest h
unspaced-append (b ∷ bs) rest h = by (b == 32) refl (unspaced-append bs rest h)
  where
    by : (t : Bool) → (b == 32) ≡ t → without_spaces (bs ++ rest) ≡ without_spaces bs ++ rest
        → drop (cond t (1 + prefix_len is_space (bs ++ rest)) 0) (b ∷ bs ++ rest) ≡ drop (cond t (1 + prefix_len is_space bs) 0) (b ∷ bs) ++ rest
    by true e same =
        ap (λ n. drop n (b ∷ bs ++ rest)) (one-more (prefix_len is_space (bs ++ rest))) ∙ same
        ∙ sym (ap (λ n. drop n (b ∷ bs) ++ rest) (one-more (prefix_len is_space bs)))
    by false e same = refl

list-end-first : (rest : List ℕ) → ends_list rest ≡ true → begins_with 32 rest ≡ false
list-end-first [] h = refl
list-end-first (b ∷ bs) h = by (b == 32) refl
  where
    by : (t : Bool) → (b == 32) ≡ t → t ≡ false
    by false e = refl
    by true e = let no : false ≡ true = sym (ap (λ (c : ℕ). c == 58 || c == 124) (eqb-true b 32 e)) ∙ h in absurd (cc)

-- inputs
abbrev pub inputs_by : LineValue → List (List PieceValue) → List (List PieceValue) → List (List PieceValue) → Part (List (List PieceValue)) → Result InputsValue SyntaxFault
inputs_by line ins implicit order_only validations =
    and_then (closed line validations.1) (λ _. Ok (record { ins = ins; implicit = implicit; order_only = order_only; validations = validations.0 }))

abbrev pub after_order : LineValue → List (List PieceValue) → List (List PieceValue) → Part (List (List PieceValue)) → Result InputsValue SyntaxFault
after_order line ins implicit order_only =
    and_then (whole_mark line order_only.1) (λ _. and_then (list_after line BarAt order_only.1) (inputs_by line ins implicit order_only.0))

abbrev pub after_implicit : LineValue → List (List PieceValue) → Part (List (List PieceValue)) → Result InputsValue SyntaxFault
after_implicit line ins implicit = and_then (list_after line TwoBars implicit.1) (after_order line ins implicit.0)

abbrev pub after_ins : LineValue → Part (List (List PieceValue)) → Result InputsValue SyntaxFault
after_ins line ins = and_then (list_after line Bar ins.1) (after_implicit line ins.0)

-- a bar alone is not the last mark's
abbrev is_bar_at : Mark → Bool
is_bar_at Bar = false
is_bar_at TwoBars = false
is_bar_at BarAt = true

not-cut : {mark : Mark} {text : List ℕ} {paths : List (List PieceValue)} {rest : List ℕ} → Behind mark text paths rest → is_bar_at mark ≡ true → rest ≡ [] → bytes_eq text (codes "|") ≡ false
not-cut (Absent h) last none = ap (λ t. bytes_eq t (codes "|")) none
not-cut (Present Bar h r ends) last none = cc
not-cut (Present TwoBars h r ends) last none = refl
not-cut (Present BarAt h r ends) last none = refl

inputs-given : (line : LineValue) {text : List ℕ} {inputs : InputsValue} → line.ended ≡ true → AreInputs text inputs → inputs_of line text ≡ Ok inputs
inputs-given line ended (Inputs {front} {bar} {two_bars} {bar_at} {ins} {implicit} {order_only} {validations} r ends b t a) =
    goes (after_ins line) ((lists-read line (front ++ bar) bar ins).1 (front, refl, r, ends))
    ∙ goes (after_implicit line ins) (behind-given line b)
    ∙ goes (after_order line ins implicit) (behind-given line t)
    ∙ ap (λ t. and_then (if t then stuck {A = Unit {0}} line [] else Ok tt) (λ _. and_then (list_after line BarAt bar_at) (inputs_by line ins implicit order_only))) (not-cut a refl refl)
    ∙ goes (inputs_by line ins implicit order_only) (behind-given line a)
    ∙ closes line [] (record { ins = ins; implicit = implicit; order_only = order_only; validations = validations }) ended refl

record InputsFound (line : LineValue) (text : List ℕ) (inputs : InputsValue) : Type 0 where
  ended : line.ended ≡ true
  are : AreInputs text inputs

inputs-found : (line : LineValue) (text : List ℕ) (inputs : InputsValue) → inputs_of line text ≡ Ok inputs → InputsFound line text inputs
inputs-found line text inputs h =
    let a = went (list_of line text) (after_ins line) inputs h in
    let ins = a.value in
    let b = went (list_after line Bar ins.1) (after_implicit line ins.0) inputs a.next_is in
    let implicit = b.value in
    let c = went (list_after line TwoBars implicit.1) (after_order line ins.0 implicit.0) inputs b.next_is in
    let order = c.value in
    let marked = went (whole_mark line order.1) (λ _. and_then (list_after line BarAt order.1) (inputs_by line ins.0 implicit.0 order.0)) inputs c.next_is in
    let d = went (list_after line BarAt order.1) (inputs_by line ins.0 implicit.0 order.0) inputs marked.next_is in
    let last = d.value in
    let e = went (closed line last.1) (λ _. Ok (record { ins = ins.0; implicit = implicit.0; order_only = order.0; validations = last.0 })) inputs d.next_is in
    let done = closed-ok line last.1 e.value e.first_is in
    let read = (lists-read line text ins.1 ins.0).0 a.first_is in
    let bar_at : Behind BarAt order.1 last.0 [] = subst (λ (t : List ℕ). Behind BarAt order.1 last.0 t) done.1 (behind-found line BarAt order.1 last.1 last.0 d.first_is) in
    let made : AreInputs (read.0 ++ ins.1) (record { ins = ins.0; implicit = implicit.0; order_only = order.0; validations = last.0 }) =
    Inputs read.2 read.3 (behind-found line Bar ins.1 implicit.1 implicit.0 b.first_is) (behind-found line TwoBars implicit.1 order.1 order.0 c.first_is) bar_at in
    record {
      ended = done.0;
      are = subst (λ (v : InputsValue). AreInputs text v) (same-ok _ _ e.next_is) (subst (λ (t : List ℕ). AreInputs t (record { ins = ins.0; implicit = implicit.0; order_only = order.0; validations = last.0 })) (sym read.1) made);
    }

-- build lines
abbrev pub outs_colon : LineValue → Part (List (List PieceValue)) → Part (List (List PieceValue)) → Result OutputsValue SyntaxFault
outs_colon line outs implicit_outs = colon line outs.0 implicit_outs.0 implicit_outs.1

abbrev pub after_outs : LineValue → Part (List (List PieceValue)) → Result OutputsValue SyntaxFault
after_outs line outs = and_then (list_after line Bar outs.1) (outs_colon line outs)

abbrev build_by : OutputsValue → InputsValue → Result BuildLineValue SyntaxFault
build_by outputs inputs = Ok (record {
  outs = outputs.outs;
  implicit_outs = outputs.implicit_outs;
  rule = name_of outputs.rest;
  ins = inputs.ins;
  implicit = inputs.implicit;
  order_only = inputs.order_only;
  validations = inputs.validations;
})

build-given : (line : LineValue) {text : List ℕ} {build : BuildLineValue} → line.ended ≡ true → IsBuildLine text build → build_line_of line text ≡ Ok build
build-given line ended (BuildLine {front} {bar} k rule {text} {outs} {implicit_outs} {inputs} r ends b some is stops a) =
    let behind = spaces k ++ (rule ++ text) in
    let rest = rule ++ text in
    let outputs : OutputsValue = record { outs = outs; implicit_outs = implicit_outs; rest = rest } in
    let named_rule = a-name rule is in
    let cut = name-front rule text named_rule.1 stops in
    let parted : colon line outs implicit_outs (58 ∷ behind) ≡ Ok outputs =
    ap (λ t. if not t then Ok (record { outs = outs; implicit_outs = implicit_outs; rest = without_spaces behind }) else refused line Syntax) some
    ∙ ap (λ t. Ok (record { outs = outs; implicit_outs = implicit_outs; rest = t })) (spaced-name k rule text is) in
    goes (rule_and_inputs line) (goes (after_outs line) ((lists-read line (front ++ bar) bar outs).1 (front, refl, r, ends)) ∙ goes (outs_colon line (outs, bar)) (behind-given line b) ∙ parted)
    ∙ (λ j. if is_empty (cut.0 j) then stuck line rest else and_then (inputs_of line (cut.1 j)) (λ inputs. Ok (record {
      outs = outs;
      implicit_outs = implicit_outs;
      rule = cut.0 j;
      ins = inputs.ins;
      implicit = inputs.implicit;
      order_only = inputs.order_only;
      validations = inputs.validations;
    })))
    ∙ (λ j. if named_rule.0 j then stuck line rest else and_then (inputs-given line ended a j) (λ inputs. Ok (record {
      outs = outs;
      implicit_outs = implicit_outs;
      rule = rule;
      ins = inputs.ins;
      implicit = inputs.implicit;
      order_only = inputs.order_only;
      validations = inputs.validations;
    })))

record ColonFound (outs implicit_outs : List (List PieceValue)) (text : List ℕ) (outputs : OutputsValue) : Type 0 where
  behind : List ℕ
  is : text ≡ 58 ∷ behind
  some : (is_empty outs && is_empty implicit_outs) ≡ false
  made : record { outs = outs; implicit_outs = implicit_outs; rest = without_spaces behind } ≡ outputs

colon-found : (line : LineValue) (outs implicit_outs : List (List PieceValue)) (text : List ℕ) (outputs : OutputsValue) → colon line outs implicit_outs text ≡ Ok outputs
    → ColonFound outs implicit_outs text outputs
colon-found line outs implicit_outs [] outputs h = cc
colon-found line outs implicit_outs (b ∷ bs) outputs h = by (b == 58 && not (is_empty outs && is_empty implicit_outs)) refl h
  where
    by : (t : Bool) → (b == 58 && not (is_empty outs && is_empty implicit_outs)) ≡ t
        → (if t then Ok (record { outs = outs; implicit_outs = implicit_outs; rest = without_spaces bs }) else refused line Syntax) ≡ Ok outputs
        → ColonFound outs implicit_outs (b ∷ bs) outputs
    by true e h =
        let parts = both (b == 58) (not (is_empty outs && is_empty implicit_outs)) e in
        record { behind = bs; is = ap (λ x. x ∷ bs) (eqb-true b 58 parts.0); some = not_true (is_empty outs && is_empty implicit_outs) parts.1; made = same-ok _ _ h }
    by false e h = cc

record BuildFound (line : LineValue) (text : List ℕ) (build : BuildLineValue) : Type 0 where
  ended : line.ended ≡ true
  is : IsBuildLine text build

build-found : (line : LineValue) (text : List ℕ) (build : BuildLineValue) → build_line_of line text ≡ Ok build → BuildFound line text build
build-found line text build h =
    let o = went (outputs_of line text) (rule_and_inputs line) build h in
    let a = went (list_of line text) (after_outs line) o.value o.first_is in
    let outs = a.value in
    let b = went (list_after line Bar outs.1) (outs_colon line outs) o.value a.next_is in
    let implicit_outs = b.value in
    let c = colon-found line outs.0 implicit_outs.0 implicit_outs.1 o.value b.next_is in
    let rest = without_spaces c.behind in
    let next : rule_and_inputs line (record { outs = outs.0; implicit_outs = implicit_outs.0; rest = rest }) ≡ Ok build = ap (rule_and_inputs line) c.made ∙ o.next_is in
    let some = unstuck line (name_of rest) rest (and_then (inputs_of line (after is_in_name rest)) (build_by (record { outs = outs.0; implicit_outs = implicit_outs.0; rest = rest }))) build next in
    let i = went (inputs_of line (after is_in_name rest)) (build_by (record { outs = outs.0; implicit_outs = implicit_outs.0; rest = rest })) build some.1 in
    let found = inputs-found line (after is_in_name rest) i.value i.first_is in
    let cut = name-cut rest in
    let spaced = spaces-cut c.behind in
    let read = (lists-read line text outs.1 outs.0).0 a.first_is in
    let colon_is : implicit_outs.1 ≡ 58 ∷ (spaces spaced.count ++ (name_of rest ++ after is_in_name rest)) =
    c.is ∙ ap (λ t. 58 ∷ t) (sym spaced.whole ∙ ap (λ t. spaces spaced.count ++ t) (sym (without-cut spaced) ∙ sym cut.0)) in
    let behind : Behind Bar outs.1 implicit_outs.0 (58 ∷ (spaces spaced.count ++ (name_of rest ++ after is_in_name rest))) =
    subst (λ (t : List ℕ). Behind Bar outs.1 implicit_outs.0 t) colon_is (behind-found line Bar outs.1 implicit_outs.1 implicit_outs.0 b.first_is) in
    let value : BuildLineValue = record {
      outs = outs.0;
      implicit_outs = implicit_outs.0;
      rule = name_of rest;
      ins = (i.value).ins;
      implicit = (i.value).implicit;
      order_only = (i.value).order_only;
      validations = (i.value).validations;
    } in
    let made : IsBuildLine (read.0 ++ outs.1) value = BuildLine spaced.count (name_of rest) read.2 read.3 behind c.some (named (name_of rest) some.0 cut.1) cut.2 found.are in
    record {
      ended = found.ended;
      is = subst (λ (v : BuildLineValue). IsBuildLine text v) (same-ok value build i.next_is) (subst (λ (t : List ℕ). IsBuildLine t value) (sym read.1) made);
    }

build-unspaced : {text : List ℕ} {build : BuildLineValue} → IsBuildLine text build → IsBuildLine (without_spaces text) build
build-unspaced (BuildLine {front} {bar} k rule {text} {outs} {implicit_outs} {inputs} r ends b some is stops a) =
    subst (λ (t : List ℕ). IsBuildLine t (record { outs = outs; implicit_outs = implicit_outs; rule = rule; ins = inputs.ins; implicit = inputs.implicit; order_only = inputs.order_only; validations = inputs.validations }))
    (sym (unspaced-append front bar (list-end-first bar ends))) (BuildLine k rule (unspaced r) ends b some is stops a)

build-respaced : (m : ℕ) {text : List ℕ} {build : BuildLineValue} → IsBuildLine text build → IsBuildLine (spaces m ++ text) build
build-respaced m (BuildLine {front} {bar} k rule {text} {outs} {implicit_outs} {inputs} r ends b some is stops a) =
    subst (λ (t : List ℕ). IsBuildLine t (record { outs = outs; implicit_outs = implicit_outs; rule = rule; ins = inputs.ins; implicit = inputs.implicit; order_only = inputs.order_only; validations = inputs.validations }))
    (append_assoc (spaces m) front bar) (BuildLine k rule (respaced m r) ends b some is stops a)

-- names, paths and lists that a line ends with
spaces-stop-all : (l : ℕ) → stops_name (spaces l) ≡ true
spaces-stop-all l = ap stops_name (sym (append_nil (spaces l))) ∙ spaces-stop l [] refl

last-name-given : (line : LineValue) (name : List ℕ) (l : ℕ) → line.ended ≡ true → is_name is_in_name name ≡ true → last_name line (name ++ spaces l) ≡ Ok name
last-name-given line name l ended is =
    let a = a-name name is in
    let cut = name-front name (spaces l) a.1 (spaces-stop-all l) in
    (λ j. if is_empty (cut.0 j) then stuck line (name ++ spaces l) else and_then (closed line (without_spaces (cut.1 j))) (λ _. Ok (cut.0 j)))
    ∙ (λ j. if a.0 j then stuck line (name ++ spaces l) else and_then (closed line (without_spaces (spaces l))) (λ _. Ok name))
    ∙ closes line (without_spaces (spaces l)) name ended (no-spaces l)

record LastNameFound (line : LineValue) (text name : List ℕ) : Type 0 where
  ended : line.ended ≡ true
  count : ℕ
  whole : name ++ spaces count ≡ text
  is : is_name is_in_name name ≡ true

last-name-found : (line : LineValue) (text name : List ℕ) → last_name line text ≡ Ok name → LastNameFound line text name
last-name-found line text name h =
    let some = unstuck line (name_of text) text (and_then (closed line (after_name text)) (λ _. Ok (name_of text))) name h in
    let shut = went (closed line (after_name text)) (λ _. Ok (name_of text)) name some.1 in
    let done = closed-ok line (after_name text) shut.value shut.first_is in
    let same : name_of text ≡ name = same-ok (name_of text) name shut.next_is in
    let rest = all-spaces (after is_in_name text) done.1 in
    let cut = name-cut text in
    record {
      ended = done.0;
      count = rest.0;
      whole = (λ j. sym same j ++ rest.1 j) ∙ cut.0;
      is = subst (λ (n : List ℕ). is_name is_in_name n ≡ true) same (named (name_of text) some.0 cut.1);
    }

-- a path up to its end
spaces-len : (l : ℕ) → free_len PathEnd false (spaces l) ≡ 0
spaces-len zero = refl
spaces-len (suc l) = refl

take-len : (raw more : List ℕ) → take (length raw + 0) (raw ++ more) ≡ raw
take-len [] more = refl
take-len (b ∷ bs) more = let e : length (b ∷ bs) + 0 ≡ suc (length bs + 0) = omega arith in ap (λ n. take n (b ∷ bs ++ more)) e ∙ ap (λ t. b ∷ t) (take-len bs more)

drop-len : (raw more : List ℕ) → drop (length raw + 0) (raw ++ more) ≡ more
drop-len [] more = refl
drop-len (b ∷ bs) more = let e : length (b ∷ bs) + 0 ≡ suc (length bs + 0) = omega arith in ap (λ n. drop n (b ∷ bs ++ more)) e ∙ drop-len bs more

last-path-given : (line : LineValue) (raw : List ℕ) (path : List PieceValue) (l : ℕ) → line.ended ≡ true → IsPath raw path → last_path line (raw ++ spaces l) ≡ Ok path
last-path-given line raw path l ended is =
    let text = raw ++ spaces l in
    let len : free_len PathEnd false text ≡ length raw + 0 = walk PathEnd false raw (spaces l) 0 is.whole (flag-text is.reads) (spaces-len l) in
    let front : take (free_len PathEnd false text) text ≡ raw = ap (λ n. take n text) len ∙ take-len raw (spaces l) in
    let back : drop (free_len PathEnd false text) text ≡ spaces l = ap (λ n. drop n text) len ∙ drop-len raw (spaces l) in
    let read : path_of line text ≡ Ok (path, without_spaces (spaces l)) =
    (λ j. if is_empty (front j) then stuck line text else and_then (text_of line (front j)) (λ p. Ok (p, without_spaces (back j))))
    ∙ (λ j. if is.some j then stuck line text else and_then (text-read line raw path is.reads j) (λ p. Ok (p, without_spaces (spaces l)))) in
    goes {B = List PieceValue} (λ (p : Part (List PieceValue)). and_then (closed line p.1) (λ _. Ok p.0)) read ∙ closes line (without_spaces (spaces l)) path ended (no-spaces l)

path-free : (taken : Bool) (text : List ℕ) → free_len PathEnd taken (take (free_len PathEnd taken text) text) ≡ length (take (free_len PathEnd taken text) text)
path-free true [] = refl
path-free false [] = refl
path-free true (b ∷ bs) = ap suc (path-free false bs)
path-free false (b ∷ bs) = by (ends_at PathEnd b) refl (path-free (b == 36) bs)
  where
    by : (t : Bool) → ends_at PathEnd b ≡ t → free_len PathEnd (b == 36) (take (free_len PathEnd (b == 36) bs) bs) ≡ length (take (free_len PathEnd (b == 36) bs) bs)
        → free_len PathEnd false (take (if t then 0 else suc (free_len PathEnd (b == 36) bs)) (b ∷ bs)) ≡ length (take (if t then 0 else suc (free_len PathEnd (b == 36) bs)) (b ∷ bs))
    by true e rest = refl
    by false e rest = ap (λ t. if t then 0 else suc (free_len PathEnd (b == 36) (take (free_len PathEnd (b == 36) bs) bs))) e ∙ ap suc rest

record LastPathFound (line : LineValue) (text : List ℕ) (path : List PieceValue) : Type 0 where
  ended : line.ended ≡ true
  raw : List ℕ
  count : ℕ
  whole : raw ++ spaces count ≡ text
  is : IsPath raw path

last-path-found : (line : LineValue) (text : List ℕ) (path : List PieceValue) → last_path line text ≡ Ok path → LastPathFound line text path
last-path-found line text path h =
    let n = free_len PathEnd false text in
    let raw = take n text in
    let a = went (path_of line text) (λ (p : Part (List PieceValue)). and_then (closed line p.1) (λ _. Ok p.0)) path h in
    let some = unstuck line raw text (and_then (text_of line raw) (λ p. Ok (p, without_spaces (drop n text)))) a.value a.first_is in
    let b = went (text_of line raw) (λ p. Ok (p, without_spaces (drop n text))) a.value some.1 in
    let parts : (b.value, without_spaces (drop n text)) ≡ a.value = same-ok (b.value, without_spaces (drop n text)) a.value b.next_is in
    let shut = went (closed line (a.value).1) (λ _. Ok (a.value).0) path a.next_is in
    let done = closed-ok line (a.value).1 shut.value shut.first_is in
    let rest = all-spaces (drop n text) (ap (λ (p : Part (List PieceValue)). p.1) parts ∙ done.1) in
    let same : b.value ≡ path = ap (λ (p : Part (List PieceValue)). p.0) parts ∙ same-ok (a.value).0 path shut.next_is in
    record {
      ended = done.0;
      raw = raw;
      count = rest.0;
      whole = ap (λ t. raw ++ t) rest.1 ∙ take_drop n text;
      is = record { some = some.0; whole = path-free false text; reads = subst (λ (p : List PieceValue). ReadsAs raw p) same (text-reads line raw b.value b.first_is) };
    }

last-paths-given : (line : LineValue) (text : List ℕ) (paths : List (List PieceValue)) → line.ended ≡ true → is_empty paths ≡ false → ListReads text paths → last_paths line text ≡ Ok paths
last-paths-given line text paths ended some r =
    goes {B = List (List PieceValue)} (λ (p : Part (List (List PieceValue))). if is_empty p.0 then stuck line p.1 else and_then (closed line p.1) (λ _. Ok p.0))
    ((lists-read line text [] paths).1 (text, sym (append_nil text), r, refl))
    ∙ ap (λ t. if t then stuck line [] else and_then (closed line []) (λ _. Ok paths)) some ∙ closes line [] paths ended refl

record LastPathsFound (line : LineValue) (text : List ℕ) (paths : List (List PieceValue)) : Type 0 where
  ended : line.ended ≡ true
  some : is_empty paths ≡ false
  are : ListReads text paths

unstuck-paths : {A : Type 0} (line : LineValue) (paths : List (List PieceValue)) (text : List ℕ) (others : Result A SyntaxFault) (answer : A)
    → (if is_empty paths then stuck line text else others) ≡ Ok answer → (is_empty paths ≡ false) × (others ≡ Ok answer)
unstuck-paths line [] text others answer h = cc
unstuck-paths line (p ∷ ps) text others answer h = (refl, h)

last-paths-found : (line : LineValue) (text : List ℕ) (paths : List (List PieceValue)) → last_paths line text ≡ Ok paths → LastPathsFound line text paths
last-paths-found line text paths h =
    let a = went (list_of line text) (λ (p : Part (List (List PieceValue))). if is_empty p.0 then stuck line p.1 else and_then (closed line p.1) (λ _. Ok p.0)) paths h in
    let found = a.value in
    let some = unstuck-paths line found.0 found.1 (and_then (closed line found.1) (λ _. Ok found.0)) paths a.next_is in
    let shut = went (closed line found.1) (λ _. Ok found.0) paths some.1 in
    let done = closed-ok line found.1 shut.value shut.first_is in
    let same : found.0 ≡ paths = same-ok found.0 paths shut.next_is in
    let read = (lists-read line text found.1 found.0).0 a.first_is in
    let whole : read.0 ≡ text = sym (append_nil read.0) ∙ ap (λ t. read.0 ++ t) (sym done.1) ∙ sym read.1 in
    record {
      ended = done.0;
      some = sym (ap is_empty same) ∙ some.0;
      are = subst (λ (ps : List (List PieceValue)). ListReads text ps) same (subst (λ (t : List ℕ). ListReads t found.0) whole read.2);
    }

-- first lines
abbrev header_by : LineValue → List ℕ → List ℕ → Result HeaderValue SyntaxFault
header_by line keyword rest =
    if bytes_eq keyword (codes "rule") then and_then (last_name line rest) (λ name. Ok (RuleHeader name))
    else (if bytes_eq keyword (codes "build") then and_then (build_line_of line rest) (λ build. Ok (BuildHeader build))
    else (if bytes_eq keyword (codes "pool") then and_then (last_name line rest) (λ name. Ok (PoolHeader name))
    else (if bytes_eq keyword (codes "default") then and_then (last_paths line rest) (λ paths. Ok (DefaultHeader paths))
    else (if bytes_eq keyword (codes "include") then and_then (last_path line rest) (λ path. Ok (IncludeHeader path))
    else (if bytes_eq keyword (codes "subninja") then and_then (last_path line rest) (λ path. Ok (SubninjaHeader path))
    else and_then (binding_of line line.text) (λ binding. Ok (VariableHeader binding)))))))

-- a line that begins with a word
keyed : (line : LineValue) (word text rest : List ℕ) → is_run is_in_name word ≡ true → stops_name text ≡ true → line.text ≡ word ++ text → without_spaces text ≡ rest → header_of line ≡ header_by line word rest
keyed line word text rest run stops e same =
    let cut = name-front word text run stops in
    (λ j. header_by line (name_of (e j)) (after_name (e j))) ∙ (λ j. header_by line (cut.0 j) (without_spaces (cut.1 j))) ∙ ap (header_by line word) same

abbrev pub line_at : ℕ → List ℕ → LineValue
line_at number text = record { number = number; text = text; ended = true }

pub header-given : {number : ℕ} {text : List ℕ} {header : HeaderValue} → IsHeader number text header → header_of (line_at number text) ≡ Ok header
header-given {number} {text} (RuleLine k name l is) =
    let line = line_at number text in
    keyed line (codes "rule") (spaces (suc k) ++ (name ++ spaces l)) (name ++ spaces l) refl refl refl (spaced-name (suc k) name (spaces l) is)
    ∙ goes {B = HeaderValue} (λ name. Ok (RuleHeader name)) (last-name-given line name l refl is)
header-given {number} {text} (PoolLine k name l is) =
    let line = line_at number text in
    keyed line (codes "pool") (spaces (suc k) ++ (name ++ spaces l)) (name ++ spaces l) refl refl refl (spaced-name (suc k) name (spaces l) is)
    ∙ goes {B = HeaderValue} (λ name. Ok (PoolHeader name)) (last-name-given line name l refl is)
header-given {number} (BuildHead {text} {build} stops is) =
    let line = line_at number (codes "build" ++ text) in
    keyed line (codes "build") text (without_spaces text) refl stops refl refl ∙ goes {B = HeaderValue} (λ build. Ok (BuildHeader build)) (build-given line refl (build-unspaced is))
header-given {number} (DefaultLine {text} {paths} stops some r) =
    let line = line_at number (codes "default" ++ text) in
    keyed line (codes "default") text (without_spaces text) refl stops refl refl
    ∙ goes {B = HeaderValue} (λ paths. Ok (DefaultHeader paths)) (last-paths-given line (without_spaces text) paths refl some (unspaced r))
header-given {number} (IncludeLine k l {raw} {path} stops is) =
    let line = line_at number (codes "include" ++ (spaces k ++ (raw ++ spaces l))) in
    keyed line (codes "include") (spaces k ++ (raw ++ spaces l)) (raw ++ spaces l) refl stops refl (spaces-front k (raw ++ spaces l) (path-first raw (spaces l) path is))
    ∙ goes {B = HeaderValue} (λ path. Ok (IncludeHeader path)) (last-path-given line raw path l refl is)
header-given {number} (SubninjaLine k l {raw} {path} stops is) =
    let line = line_at number (codes "subninja" ++ (spaces k ++ (raw ++ spaces l))) in
    keyed line (codes "subninja") (spaces k ++ (raw ++ spaces l)) (raw ++ spaces l) refl stops refl (spaces-front k (raw ++ spaces l) (path-first raw (spaces l) path is))
    ∙ goes {B = HeaderValue} (λ path. Ok (SubninjaHeader path)) (last-path-given line raw path l refl is)
header-given {number} (VariableLine {text} {binding} free is) =
    let line = line_at number text in
    let keyword = name_of text in
    let same : keyword ≡ binding.name = binding-name is in
    let a = neither _ _ (ap is_keyword same ∙ free) in
    let b = neither _ _ a.1 in
    let c = neither _ _ b.1 in
    let d = neither _ _ c.1 in
    let e = neither _ _ d.1 in
    let rest = after_name text in
    (λ j. if a.0 j then and_then (last_name line rest) (λ name. Ok (RuleHeader name))
    else (if b.0 j then and_then (build_line_of line rest) (λ build. Ok (BuildHeader build))
    else (if c.0 j then and_then (last_name line rest) (λ name. Ok (PoolHeader name))
    else (if d.0 j then and_then (last_paths line rest) (λ paths. Ok (DefaultHeader paths))
    else (if e.0 j then and_then (last_path line rest) (λ path. Ok (IncludeHeader path))
    else (if e.1 j then and_then (last_path line rest) (λ path. Ok (SubninjaHeader path))
    else and_then (binding_of line text) (λ binding. Ok (VariableHeader binding))))))))
    ∙ goes {B = HeaderValue} (λ binding. Ok (VariableHeader binding)) (binding-given line refl is)
  where
    binding-name : {number : ℕ} {text : List ℕ} {binding : BindingValue} → IsBinding number text binding → name_of text ≡ binding.name
    binding-name (Binding name k l {raw} {value} is free r) = (name-front name (spaces k ++ 61 ∷ (spaces l ++ raw)) (a-name name is).1 (spaces-stop k (61 ∷ (spaces l ++ raw)) refl)).0

pub record HeaderFound (line : LineValue) (header : HeaderValue) : Type 0 where
  pub ended : line.ended ≡ true
  pub is : IsHeader line.number line.text header

-- one of two answers
choose : {A : Type 0} (P : A → Type 0) (t : Bool) (x y : A) → (t ≡ true → P x) → (t ≡ false → P y) → P (if t then x else y)
choose P true x y p q = p refl
choose P false x y p q = q refl

-- the word that a line begins with
worded : (line : LineValue) (word : List ℕ) → bytes_eq (name_of line.text) word ≡ true → word ++ after is_in_name line.text ≡ line.text
worded line word e = ap (λ w. w ++ after is_in_name line.text) (sym ((bytes_eq-Decides (name_of line.text) word).0 e)) ∙ (name-cut line.text).0

gap-some : (c : ℕ) (name tail text : List ℕ) → is_name is_in_name name ≡ true → spaces c ++ (name ++ tail) ≡ text → stops_name text ≡ true → (k : ℕ) × (c ≡ suc k)
gap-some (suc k) name tail text is e stops = (k, refl)
gap-some zero [] tail text is e stops = cc
gap-some zero (b ∷ bs) tail text is e stops =
    let here : not (is_in_name b) ≡ true = ap stops_name e ∙ stops in
    let named : is_in_name b ≡ true = (both (is_in_name b) (is_run is_in_name bs) is).0 in
    let no : false ≡ true = sym (ap not named) ∙ here in
    cc

record NameLine (line : LineValue) (word : List ℕ) (make : List ℕ → HeaderValue) (header : HeaderValue) : Type 0 where
  ended : line.ended ≡ true
  gap : ℕ
  name : List ℕ
  count : ℕ
  whole : word ++ (spaces (suc gap) ++ (name ++ spaces count)) ≡ line.text
  is : is_name is_in_name name ≡ true
  made : make name ≡ header

name-line : (line : LineValue) (word : List ℕ) (make : List ℕ → HeaderValue) (header : HeaderValue) → bytes_eq (name_of line.text) word ≡ true
    → and_then (last_name line (after_name line.text)) (λ name. Ok (make name)) ≡ Ok header → NameLine line word make header
name-line line word make header e h =
    let a = went (last_name line (after_name line.text)) (λ name. Ok (make name)) header h in
    let found = last-name-found line (after_name line.text) a.value a.first_is in
    let behind = after is_in_name line.text in
    let cut = spaces-cut behind in
    let rest : spaces cut.count ++ (a.value ++ spaces found.count) ≡ behind = ap (λ t. spaces cut.count ++ t) (found.whole ∙ without-cut cut) ∙ cut.whole in
    let gap = gap-some cut.count a.value (spaces found.count) behind found.is rest (name-cut line.text).2 in
    record {
      ended = found.ended;
      gap = gap.0;
      name = a.value;
      count = found.count;
      whole = ap (λ t. word ++ t) (ap (λ n. spaces n ++ (a.value ++ spaces found.count)) (sym gap.1) ∙ rest) ∙ worded line word e;
      is = found.is;
      made = same-ok (make a.value) header a.next_is;
    }

record PathLine (line : LineValue) (word : List ℕ) (make : List PieceValue → HeaderValue) (header : HeaderValue) : Type 0 where
  ended : line.ended ≡ true
  gap : ℕ
  raw : List ℕ
  count : ℕ
  path : List PieceValue
  whole : word ++ (spaces gap ++ (raw ++ spaces count)) ≡ line.text
  stops : stops_name (spaces gap ++ (raw ++ spaces count)) ≡ true
  is : IsPath raw path
  made : make path ≡ header

path-line : (line : LineValue) (word : List ℕ) (make : List PieceValue → HeaderValue) (header : HeaderValue) → bytes_eq (name_of line.text) word ≡ true
    → and_then (last_path line (after_name line.text)) (λ path. Ok (make path)) ≡ Ok header → PathLine line word make header
path-line line word make header e h =
    let a = went (last_path line (after_name line.text)) (λ path. Ok (make path)) header h in
    let found = last-path-found line (after_name line.text) a.value a.first_is in
    let behind = after is_in_name line.text in
    let cut = spaces-cut behind in
    let rest : spaces cut.count ++ (found.raw ++ spaces found.count) ≡ behind = ap (λ t. spaces cut.count ++ t) (found.whole ∙ without-cut cut) ∙ cut.whole in
    record {
      ended = found.ended;
      gap = cut.count;
      raw = found.raw;
      count = found.count;
      path = a.value;
      whole = ap (λ t. word ++ t) rest ∙ worded line word e;
      stops = ap stops_name rest ∙ (name-cut line.text).2;
      is = found.is;
      made = same-ok (make a.value) header a.next_is;
    }

found-header : (line : LineValue) (text : List ℕ) (first header : HeaderValue) → line.ended ≡ true → text ≡ line.text → first ≡ header → IsHeader line.number text first → HeaderFound line header
found-header line text first header ended e same is =
    record { ended = ended; is = subst (λ (h : HeaderValue). IsHeader line.number line.text h) same (subst (λ (t : List ℕ). IsHeader line.number t first) e is) }

rule-found : (line : LineValue) (header : HeaderValue) → NameLine line (codes "rule") RuleHeader header → HeaderFound line header
rule-found line header f = found-header line _ (RuleHeader f.name) header f.ended f.whole f.made (RuleLine f.gap f.name f.count f.is)

pool-found : (line : LineValue) (header : HeaderValue) → NameLine line (codes "pool") PoolHeader header → HeaderFound line header
pool-found line header f = found-header line _ (PoolHeader f.name) header f.ended f.whole f.made (PoolLine f.gap f.name f.count f.is)

include-found : (line : LineValue) (header : HeaderValue) → PathLine line (codes "include") IncludeHeader header → HeaderFound line header
include-found line header f = found-header line _ (IncludeHeader f.path) header f.ended f.whole f.made (IncludeLine f.gap f.count f.stops f.is)

subninja-found : (line : LineValue) (header : HeaderValue) → PathLine line (codes "subninja") SubninjaHeader header → HeaderFound line header
subninja-found line header f = found-header line _ (SubninjaHeader f.path) header f.ended f.whole f.made (SubninjaLine f.gap f.count f.stops f.is)

build-head-found : (line : LineValue) (header : HeaderValue) → bytes_eq (name_of line.text) (codes "build") ≡ true
    → and_then (build_line_of line (after_name line.text)) (λ build. Ok (BuildHeader build)) ≡ Ok header → HeaderFound line header
build-head-found line header e h =
    let a = went (build_line_of line (after_name line.text)) (λ build. Ok (BuildHeader build)) header h in
    let found = build-found line (after_name line.text) a.value a.first_is in
    let behind = after is_in_name line.text in
    let cut = spaces-cut behind in
    let rest : spaces cut.count ++ after_name line.text ≡ behind = ap (λ t. spaces cut.count ++ t) (without-cut cut) ∙ cut.whole in
    let is : IsBuildLine behind a.value = subst (λ (t : List ℕ). IsBuildLine t a.value) rest (build-respaced cut.count found.is) in
    found-header line _ (BuildHeader a.value) header found.ended (worded line (codes "build") e) (same-ok (BuildHeader a.value) header a.next_is) (BuildHead (name-cut line.text).2 is)

default-found : (line : LineValue) (header : HeaderValue) → bytes_eq (name_of line.text) (codes "default") ≡ true
    → and_then (last_paths line (after_name line.text)) (λ paths. Ok (DefaultHeader paths)) ≡ Ok header → HeaderFound line header
default-found line header e h =
    let a = went (last_paths line (after_name line.text)) (λ paths. Ok (DefaultHeader paths)) header h in
    let found = last-paths-found line (after_name line.text) a.value a.first_is in
    let behind = after is_in_name line.text in
    let cut = spaces-cut behind in
    let rest : spaces cut.count ++ after_name line.text ≡ behind = ap (λ t. spaces cut.count ++ t) (without-cut cut) ∙ cut.whole in
    let are : ListReads behind a.value = subst (λ (t : List ℕ). ListReads t a.value) rest (respaced cut.count found.are) in
    found-header line _ (DefaultHeader a.value) header found.ended (worded line (codes "default") e) (same-ok (DefaultHeader a.value) header a.next_is) (DefaultLine (name-cut line.text).2 found.some are)

binding-name-is : {number : ℕ} {text : List ℕ} {binding : BindingValue} → IsBinding number text binding → name_of text ≡ binding.name
binding-name-is (Binding name k l {raw} {value} is free r) = (name-front name (spaces k ++ 61 ∷ (spaces l ++ raw)) (a-name name is).1 (spaces-stop k (61 ∷ (spaces l ++ raw)) refl)).0

variable-found : (line : LineValue) (header : HeaderValue) → is_keyword (name_of line.text) ≡ false → and_then (binding_of line line.text) (λ binding. Ok (VariableHeader binding)) ≡ Ok header → HeaderFound line header
variable-found line header free h =
    let a = went (binding_of line line.text) (λ binding. Ok (VariableHeader binding)) header h in
    let found = binding-found line line.text a.value a.first_is in
    found-header line line.text (VariableHeader a.value) header found.ended refl (same-ok (VariableHeader a.value) header a.next_is)
    (VariableLine (ap is_keyword (sym (binding-name-is found.is)) ∙ free) found.is)

pub header-found : (line : LineValue) (header : HeaderValue) → header_of line ≡ Ok header → HeaderFound line header
header-found line header =
    let keyword = name_of line.text in
    let rest = after_name line.text in
    let P : Result HeaderValue SyntaxFault → Type 0 = λ r. r ≡ Ok header → HeaderFound line header in
    let variable = and_then (binding_of line line.text) (λ binding. Ok (VariableHeader binding)) in
    let subninja = and_then (last_path line rest) (λ path. Ok (SubninjaHeader path)) in
    let after_include = if bytes_eq keyword (codes "subninja") then subninja else variable in
    let include = and_then (last_path line rest) (λ path. Ok (IncludeHeader path)) in
    let after_default = if bytes_eq keyword (codes "include") then include else after_include in
    let default = and_then (last_paths line rest) (λ paths. Ok (DefaultHeader paths)) in
    let after_pool = if bytes_eq keyword (codes "default") then default else after_default in
    let pool = and_then (last_name line rest) (λ name. Ok (PoolHeader name)) in
    let after_build = if bytes_eq keyword (codes "pool") then pool else after_pool in
    let build = and_then (build_line_of line rest) (λ build. Ok (BuildHeader build)) in
    let after_rule = if bytes_eq keyword (codes "build") then build else after_build in
    let rule = and_then (last_name line rest) (λ name. Ok (RuleHeader name)) in
    choose P (bytes_eq keyword (codes "rule")) rule after_rule (λ e h. rule-found line header (name-line line (codes "rule") RuleHeader header e h))
    (λ e1. choose P (bytes_eq keyword (codes "build")) build after_build (λ e h. build-head-found line header e h)
    (λ e2. choose P (bytes_eq keyword (codes "pool")) pool after_pool (λ e h. pool-found line header (name-line line (codes "pool") PoolHeader header e h))
    (λ e3. choose P (bytes_eq keyword (codes "default")) default after_default (λ e h. default-found line header e h)
    (λ e4. choose P (bytes_eq keyword (codes "include")) include after_include (λ e h. include-found line header (path-line line (codes "include") IncludeHeader header e h))
    (λ e5. choose P (bytes_eq keyword (codes "subninja")) subninja variable (λ e h. subninja-found line header (path-line line (codes "subninja") SubninjaHeader header e h))
    (λ e6 h. variable-found line header (λ j. e1 j || (e2 j || (e3 j || (e4 j || (e5 j || e6 j))))) h))))))

-- the lines under a first line
pub binding-first : (c : ℕ) {number : ℕ} {text : List ℕ} {binding : BindingValue} → is_in_name c ≡ false → IsBinding number text binding → begins_with c text ≡ false
binding-first c none (Binding name k l {raw} {value} is free r) = name-first c name (spaces k ++ 61 ∷ (spaces l ++ raw)) none is

pub indented-given : {number : ℕ} (k : ℕ) {text : List ℕ} {binding : BindingValue} → IsBinding number text binding → indented_binding (line_at number (spaces (suc k) ++ text)) ≡ Ok binding
indented-given {number} k {text} is =
    let line = line_at number (spaces (suc k) ++ text) in
    let rest : without_spaces (spaces (suc k) ++ text) ≡ text = spaces-front (suc k) text (binding-first 32 refl is) in
    (λ j. if begins_with 9 (rest j) then refused line Tab else binding_of line (rest j))
    ∙ ap (λ t. if t then refused line Tab else binding_of line text) (binding-first 9 refl is) ∙ binding-given line refl is

pub block-given : {block : List LineValue} {bindings : List BindingValue} → IsBlock block bindings → bindings_of block ≡ Ok bindings
block-given NoBindings = refl
block-given (OneMore {number} k {text} {lines} {binding} {bindings} is r) =
    goes {B = List BindingValue} (λ binding. and_then (bindings_of lines) (λ bindings. Ok (binding ∷ bindings))) (indented-given k is)
    ∙ goes {B = List BindingValue} (λ bindings. Ok (binding ∷ bindings)) (block-given r)

untabbed : (line : LineValue) (binding : BindingValue) → indented_binding line ≡ Ok binding → (has_tab line ≡ false) × (binding_of line (without_spaces line.text) ≡ Ok binding)
untabbed line binding h = by (has_tab line) refl h
  where
    by : (t : Bool) → has_tab line ≡ t → (if t then refused line Tab else binding_of line (without_spaces line.text)) ≡ Ok binding
        → (has_tab line ≡ false) × (binding_of line (without_spaces line.text) ≡ Ok binding)
    by true e h = cc
    by false e h = (e, h)

or-right : (a b : Bool) → (a || b) ≡ true → a ≡ false → b ≡ true
or-right true b h e = cc
or-right false b h e = h

pub indent-some : (line : LineValue) (c : ℕ) (next : List ℕ) → spaces c ++ next ≡ line.text → begins_with 32 next ≡ false → without_spaces line.text ≡ next → is_indented line ≡ true → has_tab line ≡ false → (k : ℕ) × (c ≡ suc k)
indent-some line (suc k) next e stops same indented no_tab = (k, refl)
indent-some line zero next e stops same indented no_tab =
    let no_space : begins_with 32 line.text ≡ false = ap (begins_with 32) (sym e) ∙ stops in
    let tab : begins_with 9 line.text ≡ true = or-right (begins_with 32 line.text) (begins_with 9 line.text) indented no_space in
    let no : true ≡ false = sym tab ∙ ap (begins_with 9) (sym e ∙ sym same) ∙ no_tab in
    cc

pub block-found : (block : List LineValue) (bindings : List BindingValue) → AreIndented block → bindings_of block ≡ Ok bindings → IsBlock block bindings
block-found [] bindings all h = subst (λ (bs : List BindingValue). IsBlock [] bs) (same-ok [] bindings h) NoBindings
block-found (line ∷ lines) bindings all h =
    let a = went (indented_binding line) (λ binding. and_then (bindings_of lines) (λ bindings. Ok (binding ∷ bindings))) bindings h in
    let b = went (bindings_of lines) (λ bindings. Ok (a.value ∷ bindings)) bindings a.next_is in
    let read = untabbed line a.value a.first_is in
    let found = binding-found line (without_spaces line.text) a.value read.1 in
    let cut = spaces-cut line.text in
    let gap = indent-some line cut.count cut.next cut.whole cut.stops (without-cut cut) all.0 read.0 in
    let whole : spaces (suc gap.0) ++ without_spaces line.text ≡ line.text = (λ j. spaces (sym gap.1 j) ++ without-cut cut j) ∙ cut.whole in
    let same : line_at line.number (spaces (suc gap.0) ++ without_spaces line.text) ≡ line = (λ j. record { number = line.number; text = whole j; ended = sym found.ended j }) in
    subst (λ (bs : List BindingValue). IsBlock (line ∷ lines) bs) (same-ok (a.value ∷ b.value) bindings b.next_is)
    (subst (λ (l : LineValue). IsBlock (l ∷ lines) (a.value ∷ b.value)) same (OneMore gap.0 found.is (block-found lines b.value all.1 b.first_is)))

-- a first line with those under it
form-given : {header : HeaderValue} {block : List LineValue} {form : FormValue} → IsForm header block form → with_block block header ≡ Ok form
form-given (RuleBlock {name} r) = goes {B = FormValue} (λ bindings. Ok (RuleForm name bindings)) (block-given r)
form-given (BuildBlock {build} r) = goes {B = FormValue} (λ bindings. Ok (BuildForm build bindings)) (block-given r)
form-given (PoolBlock {name} r) = goes {B = FormValue} (λ bindings. Ok (PoolForm name bindings)) (block-given r)
form-given DefaultAlone = refl
form-given IncludeAlone = refl
form-given SubninjaAlone = refl
form-given VariableAlone = refl

alone-found : (block : List LineValue) (first form : FormValue) → alone block first ≡ Ok form → (block ≡ []) × (first ≡ form)
alone-found [] first form h = (refl, same-ok first form h)
alone-found (line ∷ lines) first form h = cc

form-cast : {header : HeaderValue} {block : List LineValue} (first form : FormValue) → [] ≡ block → first ≡ form → IsForm header [] first → IsForm header block form
form-cast {header} {block} first form e same is = subst (λ (f : FormValue). IsForm header block f) same (subst (λ (b : List LineValue). IsForm header b first) e is)

form-found : (block : List LineValue) (header : HeaderValue) (form : FormValue) → AreIndented block → with_block block header ≡ Ok form → IsForm header block form
form-found block (RuleHeader name) form all h =
    let a = went (bindings_of block) (λ bindings. Ok (RuleForm name bindings)) form h in
    subst (λ (f : FormValue). IsForm (RuleHeader name) block f) (same-ok (RuleForm name a.value) form a.next_is) (RuleBlock (block-found block a.value all a.first_is))
form-found block (BuildHeader build) form all h =
    let a = went (bindings_of block) (λ bindings. Ok (BuildForm build bindings)) form h in
    subst (λ (f : FormValue). IsForm (BuildHeader build) block f) (same-ok (BuildForm build a.value) form a.next_is) (BuildBlock (block-found block a.value all a.first_is))
form-found block (PoolHeader name) form all h =
    let a = went (bindings_of block) (λ bindings. Ok (PoolForm name bindings)) form h in
    subst (λ (f : FormValue). IsForm (PoolHeader name) block f) (same-ok (PoolForm name a.value) form a.next_is) (PoolBlock (block-found block a.value all a.first_is))
form-found block (DefaultHeader paths) form all h = let a = alone-found block (DefaultForm paths) form h in form-cast (DefaultForm paths) form (sym a.0) a.1 DefaultAlone
form-found block (IncludeHeader path) form all h = let a = alone-found block (IncludeForm path) form h in form-cast (IncludeForm path) form (sym a.0) a.1 IncludeAlone
form-found block (SubninjaHeader path) form all h = let a = alone-found block (SubninjaForm path) form h in form-cast (SubninjaForm path) form (sym a.0) a.1 SubninjaAlone
form-found block (VariableHeader binding) form all h = let a = alone-found block (VariableForm binding) form h in form-cast (VariableForm binding) form (sym a.0) a.1 VariableAlone

-- no first line is indented
pub header-first : {number : ℕ} {text : List ℕ} {header : HeaderValue} → IsHeader number text header → (begins_with 32 text || begins_with 9 text) ≡ false
header-first (RuleLine k name l is) = refl
header-first (BuildHead stops is) = refl
header-first (PoolLine k name l is) = refl
header-first (DefaultLine stops some r) = refl
header-first (IncludeLine k l stops is) = refl
header-first (SubninjaLine k l stops is) = refl
header-first (VariableLine free is) = (λ j. binding-first 32 refl is j || binding-first 9 refl is j)

statement-given : {group : Group} {statement : StatementValue} → IsStatement group statement → statement_of group ≡ Ok statement
statement-given (Statement {number} {text} {block} {header} {form} is of) =
    let head = line_at number text in
    let formed : form_of (record { head = head; block = block }) ≡ Ok form =
    ap (λ t. if t then misplaced head else and_then (header_of head) (with_block block)) (header-first is) ∙ goes {B = FormValue} (with_block block) (header-given is) ∙ form-given of in
    goes {B = StatementValue} (λ form. Ok (record { line = number; form = form })) formed

unindented : {A : Type 0} (line : LineValue) (others : Result A SyntaxFault) (answer : A) → (if is_indented line then misplaced line else others) ≡ Ok answer → others ≡ Ok answer
unindented line others answer h = by (is_indented line) h
  where
    by : (t : Bool) → (if t then misplaced line else others) ≡ Ok answer → others ≡ Ok answer
    by true h = cc
    by false h = h

statement-found : (group : Group) (statement : StatementValue) → AreIndented group.block → statement_of group ≡ Ok statement → IsStatement group statement
statement-found group statement all h =
    let head = group.head in
    let a = went (form_of group) (λ form. Ok (record { line = head.number; form = form })) statement h in
    let b = went (header_of head) (with_block group.block) a.value (unindented head (and_then (header_of head) (with_block group.block)) a.value a.first_is) in
    let found = header-found head b.value b.first_is in
    let form = form-found group.block b.value a.value all b.next_is in
    let same : line_at head.number head.text ≡ head = (λ j. record { number = head.number; text = head.text; ended = sym found.ended j }) in
    subst (λ (s : StatementValue). IsStatement group s) (same-ok (record { line = head.number; form = a.value }) statement a.next_is)
    (subst (λ (l : LineValue). IsStatement (record { head = l; block = group.block }) (record { line = head.number; form = a.value })) same (Statement found.is form))

pub statements-read : StatementsAreRead
statements-read = λ group statement all. (statement-found group statement all, statement-given)
