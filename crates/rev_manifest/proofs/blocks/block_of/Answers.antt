use Rattle.std.proofs.Common.{◌≡◌, ◌+◌, ◌-◌, ◌<◌, ◌∷◌, ◌||◌, List, length, map, drop, get_or, sym, ap, ◌∙◌, arith}
use Rattle.std.proofs.lemmas.List.{at_drop_more}
use Rattle.rev_syntax.specs.declared.statement.Binding.{Binding}
use Rattle.rev_syntax.specs.Texts.{PieceValue}
use Rattle.rev_syntax.specs.Seen.{seen_binding}
use Rattle.rev_scopes.specs.Scopes.{variable_in}
use Rattle.rev_scopes.specs.Expansion.{expanded}
use Rattle.rev_manifest.specs.Blocks.{kept, kept_values, values_of, has_large, with_earlier, is_large_above}
use Rattle.rev_manifest.proofs.BlockLemmas.{large_more}
use Rattle.rev_manifest.proofs.blocks.block_of.Goals as goal

pub loop-left-preserved : goal.loop-left-preserved
loop-left-preserved c =
    let look_up = variable_in c.args.scopes.now c.args.scope in
    let value = λ (text : List PieceValue). kept (expanded look_up text) in
    let all = c.args.bindings.now in
    let left = c.loop-left.left - 1 in
    let x = c.index-bindings-left.result in
    let rest = drop c.loop-left.left all in
    let plus : c.loop-left.left ≡ left + 1 = omega arith in
    let inside : left < length all = omega arith in
    let split_values : kept_values look_up (map seen_binding (x ∷ rest)) ≡ kept_values look_up (map seen_binding (drop left all)) =
    ap (λ (y : Binding). kept_values look_up (map seen_binding (y ∷ rest))) c.index-bindings-left.is
    ∙ ap (λ k. kept_values look_up (map seen_binding (get_or all left x ∷ drop k all))) plus
    ∙ sym (at_drop_more (λ (bs : List Binding). kept_values look_up (map seen_binding bs)) all left x inside) in
    let split_large : has_large (values_of look_up (map seen_binding (x ∷ rest))) ≡ has_large (values_of look_up (map seen_binding (drop left all))) =
    ap (λ (y : Binding). has_large (values_of look_up (map seen_binding (y ∷ rest)))) c.index-bindings-left.is
    ∙ ap (λ k. has_large (values_of look_up (map seen_binding (get_or all left x ∷ drop k all)))) plus
    ∙ sym (at_drop_more (λ (bs : List Binding). has_large (values_of look_up (map seen_binding bs))) all left x inside) in
    record {
      within = omega arith;
      values = c.in_ok-add_earlier.ensures.values ∙ ap (with_earlier value (seen_binding x)) c.loop-left.invariant.values ∙ split_values;
      large =
          c.in_ok-add_earlier.ensures.large
          ∙ (λ i. c.loop-left.invariant.large i || is_large_above look_up (c.loop-left.invariant.values i) (seen_binding x))
          ∙ large_more look_up value (seen_binding x) (map seen_binding rest) ∙ split_large;
    }
