-- The places at which build lines and `default` lines stop.
use Rattle.std.proofs.Common.{◌≡◌, ℕ, suc, ◌+◌, ◌==◌, Bool, true, false, not, ◌&&◌, ◌||◌, List, [], ◌∷◌, cond, Some, None, Result, Ok, take, drop, refl, sym, ap, subst, ◌∙◌, arith, if◌then◌else◌}
use Rattle.std.specs.List.{prefix_len}
use Rattle.std.proofs.lemmas.Bool.{eqb-true}
use Rattle.rev_syntax.specs.declared.fault.SyntaxFault.{SyntaxFault}
use Rattle.rev_syntax.specs.declared.fault.SyntaxKind.TheVariants.{Syntax}
use Rattle.rev_syntax.specs.Bytes.{is_in_name, is_space, is_empty, after, without_spaces, begins_with}
use Rattle.rev_syntax.specs.Faults.{refused, and_then, closed, stuck}
use Rattle.rev_syntax.specs.Lines.{LineValue}
use Rattle.rev_syntax.specs.Lists.{ends_list}
use Rattle.rev_syntax.specs.Paths.{list_of, list_from}
use Rattle.rev_syntax.specs.Statements.{BuildLineValue, InputsValue, OutputsValue, name_of, last_paths, colon, inputs_of, rule_and_inputs, build_line_of}
use Rattle.rev_syntax.specs.Texts.{PieceValue}
use Rattle.rev_syntax.proofs.StatementLemmas.{inputs_by, after_order, after_implicit, after_ins, outs_colon, after_outs}
use Rattle.rev_syntax.proofs.LineSteps.{Paths, Outs, OutBar, ImplicitOuts, BeforeRule, InRule, Ins, InBar, Implicit, NextBar, Order, LastBar, Validations, here, lost, in_text, in_list, to_rule, outside, run, verdict, run-dead}
use Rattle.rev_syntax.proofs.BindingPlaces.{tells, told, outcome, tells-more, tells-finished, skips, no-space}
use Rattle.rev_syntax.proofs.ListPlaces.{Found, then-then, grown, IsListPart, list-run}

-- a list is followed by the line's end, a colon or a bar
end-case : (P : List ℕ → Type 0) (rest : List ℕ) → ends_list rest ≡ true → P [] → ((bs : List ℕ) → P (58 ∷ bs)) → ((bs : List ℕ) → P (124 ∷ bs)) → P rest
end-case P [] h none colon bar = none
end-case P (b ∷ bs) h none colon bar = by (b == 58) refl (b == 124) refl h
  where
    by : (t : Bool) → (b == 58) ≡ t → (u : Bool) → (b == 124) ≡ u → (t || u) ≡ true → P (b ∷ bs)
    by true e u f h = subst (λ (x : ℕ). P (x ∷ bs)) (sym (eqb-true b 58 e)) (colon bs)
    by false e true f h = subst (λ (x : ℕ). P (x ∷ bs)) (sym (eqb-true b 124 f)) (bar bs)
    by false e false f h = cc

gone : (line : LineValue) (bs : List ℕ) → outcome line lost ≡ outcome line (run lost bs)
gone line bs = sym (ap (outcome line) (run-dead Syntax bs))

-- inputs
validations-go : (line : LineValue) (ins implicit order vals : List (List PieceValue)) (rest : List ℕ) → ends_list rest ≡ true
    → tells (inputs_by line ins implicit order (vals, rest)) ≡ outcome line (run (here Validations) rest)
validations-go line ins implicit order vals rest ends =
    end-case (λ rest. tells (inputs_by line ins implicit order (vals, rest)) ≡ outcome line (run (here Validations) rest)) rest ends
    (tells-more (closed line []) (λ _. record { ins = ins; implicit = implicit; order_only = order; validations = vals }) ∙ tells-finished line tt) (gone line) (gone line)

validations-list : IsListPart (λ _. Validations)
validations-list = (λ _. lost, λ _. lost, λ some b. refl)

order-bar : (line : LineValue) (ins implicit order : List (List PieceValue)) (c : ℕ) (cs : List ℕ)
    → tells (after_order line ins implicit (order, 124 ∷ c ∷ cs)) ≡ outcome line (run (outside LastBar c) cs)
order-bar line ins implicit order c cs = by (c == 64)
  where
    by : (t : Bool) → tells (and_then (list_from line (124 ∷ c ∷ cs) (if t then Some cs else None)) (inputs_by line ins implicit order)) ≡ outcome line (run (if t then here Validations else lost) cs)
    by true = list-run line (λ _. Validations) validations-list cs false (inputs_by line ins implicit order) (λ vals rest ends. validations-go line ins implicit order vals rest ends)
    by false = gone line cs

order-go : (line : LineValue) (ins implicit order : List (List PieceValue)) (rest : List ℕ) → ends_list rest ≡ true
    → tells (after_order line ins implicit (order, rest)) ≡ outcome line (run (here Order) rest)
order-go line ins implicit order rest ends =
    end-case (λ rest. tells (after_order line ins implicit (order, rest)) ≡ outcome line (run (here Order) rest)) rest ends
    (validations-go line ins implicit order [] [] refl) (gone line) bar
  where
    bar : (bs : List ℕ) → tells (after_order line ins implicit (order, 124 ∷ bs)) ≡ outcome line (run (here LastBar) bs)
    bar [] = refl
    bar (c ∷ cs) = order-bar line ins implicit order c cs

order-list : IsListPart (λ _. Order)
order-list = (λ _. lost, λ _. here LastBar, λ some b. refl)

implicit-bar : (line : LineValue) (ins implicit : List (List PieceValue)) (c : ℕ) (cs : List ℕ)
    → tells (after_implicit line ins (implicit, 124 ∷ c ∷ cs)) ≡ outcome line (run (outside NextBar c) cs)
implicit-bar line ins implicit c cs = by (c == 124) refl
  where
    by : (t : Bool) → (c == 124) ≡ t
        → tells (and_then (list_from line (124 ∷ c ∷ cs) (if t then Some cs else None)) (after_order line ins implicit)) ≡ outcome line (run (if c == 64 then here Validations else (if t then here Order else lost)) cs)
    by true e =
        list-run line (λ _. Order) order-list cs false (after_order line ins implicit) (λ order rest ends. order-go line ins implicit order rest ends)
        ∙ sym (ap (λ t. outcome line (run (if t then here Validations else here Order) cs)) (ap (λ (x : ℕ). x == 64) (eqb-true c 124 e)))
    by false e = order-bar line ins implicit [] c cs

implicit-go : (line : LineValue) (ins implicit : List (List PieceValue)) (rest : List ℕ) → ends_list rest ≡ true
    → tells (after_implicit line ins (implicit, rest)) ≡ outcome line (run (here Implicit) rest)
implicit-go line ins implicit rest ends =
    end-case (λ rest. tells (after_implicit line ins (implicit, rest)) ≡ outcome line (run (here Implicit) rest)) rest ends
    (validations-go line ins implicit [] [] [] refl) (gone line) bar
  where
    bar : (bs : List ℕ) → tells (after_implicit line ins (implicit, 124 ∷ bs)) ≡ outcome line (run (here NextBar) bs)
    bar [] = refl
    bar (c ∷ cs) = implicit-bar line ins implicit c cs

implicit-list : IsListPart (λ _. Implicit)
implicit-list = (λ _. lost, λ _. here NextBar, λ some b. refl)

ins-bar : (line : LineValue) (ins : List (List PieceValue)) (c : ℕ) (cs : List ℕ) → tells (after_ins line (ins, 124 ∷ c ∷ cs)) ≡ outcome line (run (outside InBar c) cs)
ins-bar line ins c cs = by (c == 124) refl (c == 64) refl
  where
    by : (t : Bool) → (c == 124) ≡ t → (u : Bool) → (c == 64) ≡ u
        → tells (and_then (list_from line (124 ∷ c ∷ cs) (if not (t || u) then Some (c ∷ cs) else None)) (after_implicit line ins))
        ≡ outcome line (run (if u then here Validations else in_list lost (here Order) Implicit Implicit c) cs)
    by true e true f = let none : false ≡ true = sym (ap (λ (x : ℕ). x == 64) (eqb-true c 124 e)) ∙ f in cc
    by true e false f =
        implicit-bar line ins [] c cs
        ∙ ap (λ (x : ℕ). outcome line (run (outside NextBar x) cs)) (eqb-true c 124 e)
        ∙ sym (ap (λ (x : ℕ). outcome line (run (in_list lost (here Order) Implicit Implicit x) cs)) (eqb-true c 124 e))
    by false e true f =
        implicit-bar line ins [] c cs
        ∙ ap (λ (x : ℕ). outcome line (run (outside NextBar x) cs)) (eqb-true c 64 f)
    by false e false f =
        list-run line (λ _. Implicit) implicit-list (c ∷ cs) false (after_implicit line ins) (λ implicit rest ends. implicit-go line ins implicit rest ends)
        ∙ ap (λ t. outcome line (run (if c == 32 then here Implicit else (if c == 58 then lost else (if t then here NextBar else in_text Implicit c))) cs)) e
        ∙ sym (ap (λ t. outcome line (run (if c == 32 then here Implicit else (if c == 58 then lost else (if t then here Order else in_text Implicit c))) cs)) e)

ins-go : (line : LineValue) (ins : List (List PieceValue)) (rest : List ℕ) → ends_list rest ≡ true → tells (after_ins line (ins, rest)) ≡ outcome line (run (here Ins) rest)
ins-go line ins rest ends =
    end-case (λ rest. tells (after_ins line (ins, rest)) ≡ outcome line (run (here Ins) rest)) rest ends (validations-go line ins [] [] [] [] refl) (gone line) bar
  where
    bar : (bs : List ℕ) → tells (after_ins line (ins, 124 ∷ bs)) ≡ outcome line (run (here InBar) bs)
    bar [] = validations-go line ins [] [] [] [] refl
    bar (c ∷ cs) = ins-bar line ins c cs

ins-list : IsListPart (λ _. Ins)
ins-list = (λ _. lost, λ _. here InBar, λ some b. refl)

tells-inputs : (line : LineValue) (text : List ℕ) → tells (inputs_of line text) ≡ outcome line (run (here Ins) text)
tells-inputs line text = list-run line (λ _. Ins) ins-list text false (after_ins line) (λ ins rest ends. ins-go line ins rest ends)

-- the rule
one-more : (n : ℕ) → 1 + n ≡ suc n
one-more n = omega arith

before-rule : (flag : Bool) (text : List ℕ) → verdict flag (run (here BeforeRule) text) ≡ verdict flag (run (here BeforeRule) (without_spaces text))
before-rule flag = skips is_space BeforeRule BeforeRule flag (λ b e. ap (λ t. if t then here BeforeRule else (if is_in_name b then here InRule else lost)) e) (λ b e. refl) refl

in-rule : (flag : Bool) (text : List ℕ) → verdict flag (run (here InRule) text) ≡ verdict flag (run (here Ins) (after is_in_name text))
in-rule flag =
    skips is_in_name InRule Ins flag (λ b e. ap (λ t. if t then here InRule else in_list lost (here InBar) Ins Ins b) e)
    (λ b e. ap (λ t. if t then here InRule else in_list lost (here InBar) Ins Ins b) e) refl

abbrev built : OutputsValue → InputsValue → BuildLineValue
built outputs inputs =
    record {
      outs = outputs.outs;
      implicit_outs = outputs.implicit_outs;
      rule = name_of outputs.rest;
      ins = inputs.ins;
      implicit = inputs.implicit;
      order_only = inputs.order_only;
      validations = inputs.validations;
    }

abbrev outputs_with : List (List PieceValue) → List (List PieceValue) → List ℕ → OutputsValue
outputs_with outs implicit_outs rest = record { outs = outs; implicit_outs = implicit_outs; rest = rest }

tells-ruled : (line : LineValue) (outs implicit_outs : List (List PieceValue)) (text : List ℕ) → begins_with 32 text ≡ false
    → tells (rule_and_inputs line (outputs_with outs implicit_outs text)) ≡ outcome line (run (here BeforeRule) text)
tells-ruled line outs implicit_outs [] free = refl
tells-ruled line outs implicit_outs (b ∷ bs) free =
    by (is_in_name b) refl ∙ sym (ap (λ t. outcome line (run (if t then here BeforeRule else (if is_in_name b then here InRule else lost)) bs)) free)
  where
    by : (t : Bool) → is_in_name b ≡ t → tells (rule_and_inputs line (outputs_with outs implicit_outs (b ∷ bs))) ≡ outcome line (run (if t then here InRule else lost) bs)
    by true e =
        let n = prefix_len is_in_name bs in
        (λ i. tells (if is_empty (take (cond (e i) (1 + n) 0) (b ∷ bs)) then stuck line (b ∷ bs) else and_then (inputs_of line (drop (cond (e i) (1 + n) 0) (b ∷ bs))) (λ inputs. Ok (built (outputs_with outs implicit_outs (b ∷ bs)) inputs))))
        ∙ ap (λ k. tells (if is_empty (take k (b ∷ bs)) then stuck line (b ∷ bs) else and_then (inputs_of line (drop k (b ∷ bs))) (λ inputs. Ok (built (outputs_with outs implicit_outs (b ∷ bs)) inputs)))) (one-more n)
        ∙ tells-more (inputs_of line (after is_in_name bs)) (built (outputs_with outs implicit_outs (b ∷ bs)))
        ∙ tells-inputs line (after is_in_name bs) ∙ sym (ap (told line) (in-rule line.ended bs))
    by false e =
        ap (λ t. tells (if is_empty (take (cond t (1 + prefix_len is_in_name bs) 0) (b ∷ bs)) then stuck line (b ∷ bs)
        else and_then (inputs_of line (after is_in_name (b ∷ bs))) (λ inputs. Ok (built (outputs_with outs implicit_outs (b ∷ bs)) inputs)))) e
        ∙ gone line bs

tells-rule : (line : LineValue) (outs implicit_outs : List (List PieceValue)) (text : List ℕ)
    → tells (rule_and_inputs line (outputs_with outs implicit_outs (without_spaces text))) ≡ outcome line (run (here BeforeRule) text)
tells-rule line outs implicit_outs text = tells-ruled line outs implicit_outs (without_spaces text) (no-space text) ∙ sym (ap (told line) (before-rule line.ended text))

-- the colon
some-outs : (outs implicit_outs : List (List PieceValue)) → not (is_empty outs && is_empty implicit_outs) ≡ grown (grown false outs) implicit_outs
some-outs [] [] = refl
some-outs [] (p ∷ ps) = refl
some-outs (o ∷ os) [] = refl
some-outs (o ∷ os) (p ∷ ps) = refl

colon-go : (line : LineValue) (outs implicit_outs : List (List PieceValue)) (rest : List ℕ) → ends_list rest ≡ true
    → tells (and_then (colon line outs implicit_outs rest) (rule_and_inputs line)) ≡ outcome line (run (here (ImplicitOuts (grown (grown false outs) implicit_outs))) rest)
colon-go line outs implicit_outs rest ends =
    end-case (λ rest. tells (and_then (colon line outs implicit_outs rest) (rule_and_inputs line)) ≡ outcome line (run (here (ImplicitOuts (grown (grown false outs) implicit_outs))) rest)) rest ends
    refl at-colon (gone line)
  where
    by : (bs : List ℕ) (t : Bool)
        → tells (and_then (if t then Ok (outputs_with outs implicit_outs (without_spaces bs)) else refused line Syntax) (rule_and_inputs line)) ≡ outcome line (run (to_rule t) bs)
    by bs true = tells-rule line outs implicit_outs bs
    by bs false = gone line bs

    at-colon : (bs : List ℕ) → tells (and_then (colon line outs implicit_outs (58 ∷ bs)) (rule_and_inputs line)) ≡ outcome line (run (to_rule (grown (grown false outs) implicit_outs)) bs)
    at-colon bs =
        by bs (not (is_empty outs && is_empty implicit_outs)) ∙ ap (λ t. outcome line (run (to_rule t) bs)) (some-outs outs implicit_outs)

implicit-outs-list : IsListPart ImplicitOuts
implicit-outs-list = (to_rule, λ _. lost, λ some b. refl)

-- the outputs
outs-bar : (line : LineValue) (outs : List (List PieceValue)) (c : ℕ) (cs : List ℕ)
    → tells (and_then (after_outs line (outs, 124 ∷ c ∷ cs)) (rule_and_inputs line)) ≡ outcome line (run (outside (OutBar (grown false outs)) c) cs)
outs-bar line outs c cs = by (c == 124) refl (c == 64) refl
  where
    by : (t : Bool) → (c == 124) ≡ t → (u : Bool) → (c == 64) ≡ u
        → tells (and_then (and_then (list_from line (124 ∷ c ∷ cs) (if not (t || u) then Some (c ∷ cs) else None)) (outs_colon line (outs, 124 ∷ c ∷ cs))) (rule_and_inputs line))
        ≡ outcome line (run (if u then lost else in_list (to_rule (grown false outs)) lost (ImplicitOuts (grown false outs)) (ImplicitOuts true) c) cs)
    by true e true f = gone line cs
    by true e false f =
        gone line cs
        ∙ sym (ap (λ (x : ℕ). outcome line (run (in_list (to_rule (grown false outs)) lost (ImplicitOuts (grown false outs)) (ImplicitOuts true) x) cs)) (eqb-true c 124 e))
    by false e true f = gone line cs
    by false e false f =
        ap tells (then-then (list_of line (c ∷ cs)) (outs_colon line (outs, 124 ∷ c ∷ cs)) (rule_and_inputs line))
        ∙ list-run line ImplicitOuts implicit-outs-list (c ∷ cs) (grown false outs) (λ found. and_then (outs_colon line (outs, 124 ∷ c ∷ cs) found) (rule_and_inputs line))
        (λ implicit_outs rest ends. colon-go line outs implicit_outs rest ends)

outs-go : (line : LineValue) (outs : List (List PieceValue)) (rest : List ℕ) → ends_list rest ≡ true
    → tells (and_then (after_outs line (outs, rest)) (rule_and_inputs line)) ≡ outcome line (run (here (Outs (grown false outs))) rest)
outs-go line outs rest ends =
    end-case (λ rest. tells (and_then (after_outs line (outs, rest)) (rule_and_inputs line)) ≡ outcome line (run (here (Outs (grown false outs))) rest)) rest ends
    refl (λ bs. colon-go line outs [] (58 ∷ bs) refl) bar
  where
    bar : (bs : List ℕ) → tells (and_then (after_outs line (outs, 124 ∷ bs)) (rule_and_inputs line)) ≡ outcome line (run (here (OutBar (grown false outs))) bs)
    bar [] = refl
    bar (c ∷ cs) = outs-bar line outs c cs

outs-list : IsListPart Outs
outs-list = (to_rule, λ some. here (OutBar some), λ some b. refl)

before-outs : (flag : Bool) (text : List ℕ) → verdict flag (run (here (Outs false)) text) ≡ verdict flag (run (here (Outs false)) (without_spaces text))
before-outs flag =
    skips is_space (Outs false) (Outs false) flag
    (λ b e. ap (λ t. if t then here (Outs false) else (if b == 58 then lost else (if b == 124 then here (OutBar false) else in_text (Outs true) b))) e) (λ b e. refl) refl

pub tells-build : (line : LineValue) (text : List ℕ) → tells (build_line_of line (without_spaces text)) ≡ outcome line (run (here (Outs false)) text)
tells-build line text =
    ap tells (then-then (list_of line (without_spaces text)) (after_outs line) (rule_and_inputs line))
    ∙ list-run line Outs outs-list (without_spaces text) false (λ outs. and_then (after_outs line outs) (rule_and_inputs line)) (λ outs rest ends. outs-go line outs rest ends)
    ∙ sym (ap (told line) (before-outs line.ended text))

-- `default` lines
abbrev last_found : LineValue → Found → Result (List (List PieceValue)) SyntaxFault
last_found line paths = if is_empty paths.0 then stuck line paths.1 else and_then (closed line paths.1) (λ _. Ok paths.0)

paths-go : (line : LineValue) (paths : List (List PieceValue)) (rest : List ℕ) → ends_list rest ≡ true → tells (last_found line (paths, rest)) ≡ outcome line (run (here (Paths (grown false paths))) rest)
paths-go line [] rest ends =
    end-case (λ rest. tells (last_found line ([], rest)) ≡ outcome line (run (here (Paths false)) rest)) rest ends refl (gone line) (gone line)
paths-go line (p ∷ ps) rest ends =
    end-case (λ rest. tells (last_found line (p ∷ ps, rest)) ≡ outcome line (run (here (Paths true)) rest)) rest ends
    (tells-more (closed line []) (λ _. p ∷ ps) ∙ tells-finished line tt) (gone line) (gone line)

paths-list : IsListPart Paths
paths-list = (λ _. lost, λ _. lost, λ some b. refl)

before-paths : (flag : Bool) (text : List ℕ) → verdict flag (run (here (Paths false)) text) ≡ verdict flag (run (here (Paths false)) (without_spaces text))
before-paths flag =
    skips is_space (Paths false) (Paths false) flag
    (λ b e. ap (λ t. if t then here (Paths false) else (if b == 58 then lost else (if b == 124 then lost else in_text (Paths true) b))) e) (λ b e. refl) refl

pub tells-paths : (line : LineValue) (text : List ℕ) → tells (last_paths line (without_spaces text)) ≡ outcome line (run (here (Paths false)) text)
tells-paths line text =
    list-run line Paths paths-list (without_spaces text) false (last_found line) (λ paths rest ends. paths-go line paths rest ends) ∙ sym (ap (told line) (before-paths line.ended text))
