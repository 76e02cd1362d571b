use Rattle.std.proofs.Common.{◌≡◌, ◌++◌, ◌∷◌, [], List, Option, Some, map, sym, ap, ◌∙◌, subst}
use Rattle.std.proofs.lemmas.List.{map-append}
use Rattle.std.proofs.lemmas.Result.{err_from_is_err_and}
use Rattle.rev_syntax.specs.declared.statement.Binding.{Binding}
use Rattle.rev_syntax.specs.Texts.{PieceValue}
use Rattle.rev_syntax.specs.Seen.{seen_binding}
use Rattle.rev_scopes.specs.Scopes.{variable_in}
use Rattle.rev_manifest.specs.Answers.{IsFault}
use Rattle.rev_manifest.specs.Names.{is_empty}
use Rattle.rev_manifest.specs.Blocks.{last_text}
use Rattle.rev_manifest.specs.Statements.{depth_given}
use Rattle.rev_manifest.proofs.DepthLemmas.{depth_empty, depth_none, depth_fault, depth_ok, value_is, last_is}
use Rattle.rev_manifest.proofs.statements.depth_given.Goals as goal

last : (bindings rest : List Binding) (x : Binding) → bindings ≡ rest ++ x ∷ [] → last_text (map seen_binding bindings) ≡ Some x.value
last bindings rest x e = ap (λ bs. last_text (map seen_binding bs)) e ∙ ap last_text (map-append seen_binding rest (x ∷ [])) ∙ last_is (map seen_binding rest) (seen_binding x)

pub returns-in_default-depth_of_text : goal.returns-in_default-depth_of_text
returns-in_default-depth_of_text c =
    let look_up = variable_in c.args.scopes.now c.args.scope in
    let x = c.in-Some.binding.now in
    rw c.fault-in_default-depth_of_text.ensures
    (ap (depth_given c.args.place look_up) (last c.args.bindings.now c.in-Some.field-0-1.now x c.in-Some.ensures.cases.0)
    ∙ depth_none c.args.place look_up x.value c.in_default-depth_of_text.ensures)

pub returns-in_err-value : goal.returns-in_err-value
returns-in_err-value c =
    let look_up = variable_in c.args.scopes.now c.args.scope in
    let x = c.in-Some.binding.now in
    let p = err_from_is_err_and c.from_residual.result c.from_residual.ensures.1 in
    rw (p.1, p.2) (subst (λ (o : Option (List PieceValue)). IsFault c.in_err-value.field-0.0 (depth_given c.args.place look_up o))
    (sym (last c.args.bindings.now c.in-Some.field-0-1.now x c.in-Some.ensures.cases.0))
    (depth_fault c.args.place look_up x.value c.in-Some-depth_of_text.depth c.in_err-value.field-0.0 c.in-Some-depth_of_text.ensures c.in_err-value.ensures))

pub returns-then-is_empty : goal.returns-then-is_empty
returns-then-is_empty c =
    let look_up = variable_in c.args.scopes.now c.args.scope in
    let x = c.in-Some.binding.now in
    rw c.fault-then-is_empty.ensures
    (ap (depth_given c.args.place look_up) (last c.args.bindings.now c.in-Some.field-0-1.now x c.in-Some.ensures.cases.0)
    ∙ depth_empty c.args.place look_up x.value
    (ap is_empty (value_is c.args.place look_up x.value c.in_ok-value.value c.in_ok-value.ensures ∙ sym c.as_bytes.ensures) ∙ sym c.if-is_empty.ensures))

pub returns : goal.returns
returns c =
    let look_up = variable_in c.args.scopes.now c.args.scope in
    let x = c.in-Some.binding.now in
    ap (depth_given c.args.place look_up) (last c.args.bindings.now c.in-Some.field-0-1.now x c.in-Some.ensures.cases.0)
    ∙ depth_ok c.args.place look_up x.value c.in-Some-depth_of_text.depth c.in_ok-value.value c.in-Some-depth_of_text.ensures c.in_ok-value.ensures
    (ap is_empty (sym c.as_bytes.ensures) ∙ sym c.if-is_empty.ensures)
