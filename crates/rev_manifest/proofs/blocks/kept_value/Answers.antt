use Rattle.std.proofs.Common.{length, Err, sym, ap, ◌∙◌}
use Rattle.std.proofs.lemmas.Bool.{lt-ltb}
use Rattle.rev_scopes.specs.Scopes.{variable_in}
use Rattle.rev_scopes.specs.Expansion.{expanded}
use Rattle.rev_manifest.proofs.BlockLemmas.{kept-large}
use Rattle.rev_manifest.proofs.blocks.kept_value.Goals as goal

pub returns-in_ok-new-in-Err-TooLarge-clause-value : goal.returns-in_ok-new-in-Err-TooLarge-clause-value
returns-in_ok-new-in-Err-TooLarge-clause-value c =
    c.in_ok-new-in-Err-TooLarge.ensures ∙ c.in_ok-stand_in-in-Err-TooLarge.ensures.items_if_clones_equal (λ y e. e) ∙ sym (kept-large (expanded (variable_in c.args.scopes.now c.args.scope) c.args.text) (c.in-Err-TooLarge.ensures.too_large (ap Err c.in-Err-TooLarge.field-0-is)))

pub returns-in_ok-new-in-Err-TooLarge-clause-large : goal.returns-in_ok-new-in-Err-TooLarge-clause-large
returns-in_ok-new-in-Err-TooLarge-clause-large c =
    sym (lt-ltb 1048576 (length (expanded (variable_in c.args.scopes.now c.args.scope) c.args.text)) (c.in-Err-TooLarge.ensures.too_large (ap Err c.in-Err-TooLarge.field-0-is)))
