use Rattle.std.proofs.Common.{◌≡◌, ℕ, ◌+◌, ◌++◌, ◌∷◌, [], List, drop, sym, ap, ◌∙◌, append_assoc}
use Rattle.std.proofs.lemmas.List.{at_drop_more, drop_all, append-nil}
use Rattle.std.specs.Global.{Vec, Global}
use Rattle.std.specs.declared.borrow.CowSlice.{CowSlice}
use Rattle.rev_fields.specs.Parts.{lent_of, vectors_of}
use Rattle.rev_fields.proofs.SliceLemmas.{lent_of-push}
use Rattle.rev_trace.proofs.commands.lent.Goals as goal

pub loop-text-preserved : goal.loop-text-preserved
loop-text-preserved c =
    let all = c.args.texts.now in
    let i = c.loop-text.text-index in
    let x = c.text-item.result in
    let lent = c.loop-text.lent.items in
    let rest : List (List ℕ) = vectors_of (drop (i + 1) all) in
    let here : lent_of lent ++ (x.items ∷ rest) ≡ vectors_of all =
    ap (λ (v : Vec ℕ). lent_of lent ++ (v.items ∷ rest)) c.text-item.is
    ∙ sym (at_drop_more (λ (vs : List (Vec ℕ)). lent_of lent ++ vectors_of vs) all i x c.loop-text-test.true) ∙ c.loop-text.invariant in
    ap (λ (ls : List (CowSlice ℕ Global)). lent_of ls ++ rest) c.in_ok-push.ensures.items ∙ ap (λ (ls : List (List ℕ)). ls ++ rest) (lent_of-push lent _)
    ∙ append_assoc (lent_of lent) (c.as_slice.result.now ∷ []) rest ∙ ap (λ (b : List ℕ). lent_of lent ++ (b ∷ rest)) c.as_slice.ensures.value ∙ here

pub returns : goal.returns
returns c =
    let lent = c.loop-text.lent.items in
    sym (append-nil (lent_of lent)) ∙ ap (λ (vs : List (Vec ℕ)). lent_of lent ++ vectors_of vs) (sym (drop_all c.loop-text.text-index c.args.texts.now c.loop-text-test.false)) ∙ c.loop-text.invariant
