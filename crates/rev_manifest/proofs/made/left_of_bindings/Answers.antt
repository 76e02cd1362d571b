use Rattle.std.proofs.Common.{◌≡◌, ℕ, ◌+◌, ◌∷◌, List, map, drop, sym, ap, ◌∙◌}
use Rattle.std.proofs.lemmas.List.{at_drop_more}
use Rattle.rev_syntax.specs.declared.statement.Binding.{Binding}
use Rattle.rev_syntax.specs.Seen.{seen_binding}
use Rattle.rev_scopes.specs.Scopes.{variable_in}
use Rattle.rev_manifest.specs.Made.{bytes_made, all_made, left_of}
use Rattle.rev_manifest.proofs.MadeLemmas.{several-over, several-more}
use Rattle.rev_manifest.proofs.made.left_of_bindings.Goals as goal

pub returns-in_err-left : goal.returns-in_err-left
returns-in_err-left c =
    let look_up = variable_in c.args.scopes.now c.args.scope in
    let all = c.args.bindings.now in
    let i = c.loop-binding.binding-index in
    let x = c.binding-item.result in
    let made : List Binding → ℕ = λ bs. all_made look_up (map seen_binding bs) in
    let here : left_of c.loop-binding.left (made (x ∷ drop (i + 1) all)) ≡ left_of c.args.room (made all) =
    ap (λ (y : Binding). left_of c.loop-binding.left (made (y ∷ drop (i + 1) all))) c.binding-item.is
    ∙ sym (at_drop_more (λ (bs : List Binding). left_of c.loop-binding.left (made bs)) all i x c.loop-binding-test.true) ∙ c.loop-binding.invariant in
    c.from_residual.ensures ∙ several-over _ c.loop-binding.left (bytes_made look_up x.value) (made (drop (i + 1) all)) here c.in_err-left.ensures

pub loop-binding-preserved : goal.loop-binding-preserved
loop-binding-preserved c =
    let look_up = variable_in c.args.scopes.now c.args.scope in
    let all = c.args.bindings.now in
    let i = c.loop-binding.binding-index in
    let x = c.binding-item.result in
    let made : List Binding → ℕ = λ bs. all_made look_up (map seen_binding bs) in
    let here : left_of c.loop-binding.left (made (x ∷ drop (i + 1) all)) ≡ left_of c.args.room (made all) =
    ap (λ (y : Binding). left_of c.loop-binding.left (made (y ∷ drop (i + 1) all))) c.binding-item.is
    ∙ sym (at_drop_more (λ (bs : List Binding). left_of c.loop-binding.left (made bs)) all i x c.loop-binding-test.true) ∙ c.loop-binding.invariant in
    several-more _ c.loop-binding.left (bytes_made look_up x.value) (made (drop (i + 1) all)) c.in_ok-left.left here c.in_ok-left.ensures
