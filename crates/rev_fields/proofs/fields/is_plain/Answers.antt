use Rattle.std.proofs.Common.{◌≡◌, Bool, true, not, IsTrue, sym, ap, subst, ◌∙◌}
use Rattle.std.proofs.lemmas.List.{drop_all}
use Rattle.rev_fields.proofs.FieldLemmas.{all_plain, own-text}
use Rattle.rev_fields.proofs.fields.is_plain.Goals as goal

pub returns : goal.returns
returns c = λ some.
    (let field = c.args.field.now in
    let plain : all_plain field ≡ true = sym c.loop-byte.invariant ∙ ap all_plain (drop_all c.loop-byte.byte-index field c.loop-byte-test.false) in
    own-text field plain (subst (λ (b : Bool). IsTrue (not b)) c.is_empty.ensures some))
