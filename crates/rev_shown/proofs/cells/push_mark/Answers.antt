use Rattle.std.proofs.Common.{◌∙◌, ◌++◌, ap, append_assoc, codes, sym}
use Rattle.std.specs.Option.{option_copied}
use Rattle.rev_fields.proofs.AnswerLemmas.{on_ok}
use Rattle.rev_shown.specs.Cells.{mark_words}
use Rattle.rev_shown.specs.Shown.{shown}
use Rattle.rev_shown.proofs.cells.push_mark.Goals as goal

pub returns-in-Some : goal.returns-in-Some
returns-in-Some c =
    let old = c.args.text.now.items in
    on_ok c.push_named.result _ _
    (λ e. e ∙ append_assoc old (codes "the mark of ") (shown c.in-Some.out.now)
    ∙ ap (λ o. old ++ mark_words (option_copied o)) (sym c.in-Some.is))
    c.push_named.ensures
