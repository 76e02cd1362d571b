use Rattle.std.proofs.Common.{◌≡◌, ◌++◌, ◌∷◌, [], List, None, is_some, sym, ap, ◌∙◌, if◌then◌else◌}
use Rattle.rev_syntax.specs.Texts.{PieceValue}
use Rattle.rev_scopes.specs.Bindings.{value_of}
use Rattle.rev_scopes.specs.Scopes.{variable_in}
use Rattle.rev_scopes.specs.Expansion.{expanded}
use Rattle.rev_manifest.specs.Blocks.{kept}
use Rattle.rev_manifest.proofs.BlockLemmas.{bound-new, copied_none}
use Rattle.rev_manifest.proofs.blocks.add_earlier.Goals as goal

pub returns-then-is_large-clause-values : goal.returns-then-is_large-clause-values
returns-then-is_large-clause-values c =
    let values = c.args.block.now.values in
    let name = c.args.binding.now.name.now in
    let value = λ (text : List PieceValue). kept (expanded (variable_in c.args.scopes.now c.args.scope) text) in
    let absent : value_of name values ≡ None = sym c.value.ensures ∙ copied_none _ c.if-is_some.ensures in
    c.in_ok-bind.ensures.bound ∙ bound-new name c.in_ok-value.value values absent
    ∙ ap (λ v. values ++ (name, v) ∷ []) (c.in_ok-value.ensures.value ∙ ap value c.copy.ensures)
    ∙ sym (ap (λ t. if t then values else values ++ (name, value c.args.binding.now.value) ∷ []) (ap is_some absent))

pub returns-else-is_large-clause-values : goal.returns-else-is_large-clause-values
returns-else-is_large-clause-values c =
    let values = c.args.block.now.values in
    let name = c.args.binding.now.name.now in
    let value = λ (text : List PieceValue). kept (expanded (variable_in c.args.scopes.now c.args.scope) text) in
    let absent : value_of name values ≡ None = sym c.value.ensures ∙ copied_none _ c.if-is_some.ensures in
    c.in_ok-bind.ensures.bound ∙ bound-new name c.in_ok-value.value values absent
    ∙ ap (λ v. values ++ (name, v) ∷ []) (c.in_ok-value.ensures.value ∙ ap value c.copy.ensures)
    ∙ sym (ap (λ t. if t then values else values ++ (name, value c.args.binding.now.value) ∷ []) (ap is_some absent))
