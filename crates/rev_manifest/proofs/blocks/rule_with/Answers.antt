use Rattle.std.proofs.Common.{◌≡◌, ◌+◌, ◌∷◌, ◌&&◌, List, Some, is_some, map, drop, sym, ap, ◌∙◌}
use Rattle.std.proofs.lemmas.List.{at_drop_more}
use Rattle.rev_syntax.specs.declared.statement.Binding.{Binding}
use Rattle.rev_syntax.specs.Seen.{seen_binding}
use Rattle.rev_scopes.specs.Bindings.{bound}
use Rattle.rev_scopes.specs.RuleNames.{name_of, variable_named}
use Rattle.rev_manifest.specs.Blocks.{are_rule_variables, with_texts, texts_of}
use Rattle.rev_manifest.proofs.BlockLemmas.{named_is}
use Rattle.rev_manifest.proofs.blocks.rule_with.Goals as goal

pub loop-binding-preserved : goal.loop-binding-preserved
loop-binding-preserved c =
    let all = c.args.bindings.now in
    let i = c.loop-binding.binding-index in
    let x = c.binding-item.result in
    let rest = drop (i + 1) all in
    let texts = c.loop-binding.texts in
    let found : variable_named x.name.now ≡ Some c.in-Some.variable = sym c.in-Some.ensures in
    let name : x.name.now ≡ name_of c.in-Some.variable = named_is x.name.now c.in-Some.variable found in
    let names : are_rule_variables (map seen_binding (x ∷ rest)) ≡ are_rule_variables (map seen_binding all) =
    ap (λ (y : Binding). are_rule_variables (map seen_binding (y ∷ rest))) c.binding-item.is
    ∙ sym (at_drop_more (λ (bs : List Binding). are_rule_variables (map seen_binding bs)) all i x c.loop-binding-test.true) ∙ c.loop-binding.invariant.names in
    let split : with_texts texts (map seen_binding (x ∷ rest)) ≡ texts_of (map seen_binding all) =
    ap (λ (y : Binding). with_texts texts (map seen_binding (y ∷ rest))) c.binding-item.is
    ∙ sym (at_drop_more (λ (bs : List Binding). with_texts texts (map seen_binding bs)) all i x c.loop-binding-test.true) ∙ c.loop-binding.invariant.texts in
    record {
      names = ap (λ o. is_some o && are_rule_variables (map seen_binding rest)) (sym found) ∙ names;
      texts =
          ap (λ t. with_texts t (map seen_binding rest)) (c.in_ok-bind-in-Some.ensures.bound ∙ (λ j. bound (sym name j) (c.in_ok-to_stored-in-Some.ensures j) texts)) ∙ split;
    }
