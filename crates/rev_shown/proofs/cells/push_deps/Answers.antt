use Rattle.std.proofs.Common.{◌≡◌, ◌∙◌, ◌++◌, ap, append_assoc, codes}
use Rattle.rev_fields.proofs.AnswerLemmas.{on_ok}
use Rattle.rev_shown.specs.Shown.{shown}
use Rattle.rev_shown.proofs.TextLemmas.{extended}
use Rattle.rev_shown.proofs.cells.push_deps.Goals as goal

pub returns : goal.returns
returns c =
    let old = c.args.text.now.items in
    let first = codes "the list of what " in
    let path = shown c.args.path.now in
    let last = codes " read" in
    let one : c.push_named.new.text.items ≡ (old ++ first) ++ path = c.in_ok-push_named.ensures in
    on_ok c.extend_from_slice.result _ _
    (λ e. e ∙ ap (λ t. t ++ last) (one ∙ append_assoc old first path) ∙ append_assoc old (first ++ path) last)
    (extended c.extend_from_slice.result c.extend_from_slice.new.self.items c.push_named.new.text.items last
    c.extend_from_slice.ensures.items)
