use Rattle.std.proofs.Common.{◌++◌, map, ap, sym, ◌∙◌}
use Rattle.rev_patch.specs.Lines.{edits, line_of}
use Rattle.rev_patch.specs.Additions.{edit_at, texts_of}
use Rattle.rev_patch.proofs.changes.push_change.Goals as goal

pub returns : goal.returns
returns c =
    c.in_ok-push_change_at.ensures
    ∙ ap (λ o. edits c.args.changes.now.items ++ edit_at (texts_of (map line_of c.args.rows.now)) c.args.additions.now o)
    (sym c.in-Some.is ∙ c.place_for.ensures)
