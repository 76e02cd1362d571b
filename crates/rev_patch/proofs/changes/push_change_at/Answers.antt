use Rattle.std.proofs.Common.{◌≤◌, ◌<◌, ◌++◌, ◌∷◌, [], ℕ, List, length, ap, sym, ◌∙◌, arith, append-nil}
use Rattle.std.proofs.lemmas.Bool.{ltb-true}
use Rattle.std.proofs.lemmas.Grind.{common_steps}
use Rattle.std.proofs.lemmas.List.{map_push}
use Rattle.rev_patch.specs.declared.changes.Change.{Change}
use Rattle.rev_patch.specs.Lines.{Edit, edit_of, edits}
use Rattle.rev_patch.specs.Additions.{edit_in}
use Rattle.rev_patch.proofs.ChangeLemmas.{text-at, text-past}
use Rattle.rev_patch.proofs.changes.push_change_at.Goals as goal

pub returns-in_default : goal.returns-in_default
returns-in_default c =
    let done = edits c.args.changes.now.items in
    let past : length c.args.rows.now ≤ c.args.place.line = grind (arith, common_steps, c.in_default.ensures.lookup) in
    sym (ap (λ o. done ++ edit_in c.args.additions.now c.args.place o) (text-past c.args.rows.now c.args.place.line past) ∙ append-nil done)

pub returns : goal.returns
returns c =
    let done = edits c.args.changes.now.items in
    let line = c.args.place.line in
    let row = c.in-Some.row.now in
    let change : Change = record { line = line; text = c.in_ok-text.text } in
    let edit : List ℕ → Edit = λ text. record { line = line; text = text } in
    let within : line < length c.args.rows.now = ltb-true line (length c.args.rows.now) (sym c.in-Some.ensures.lookup.0) in
    ap edits c.in_ok-push.ensures.items ∙ map_push edit_of c.args.changes.now.items change
    ∙ ap (λ text. done ++ edit text ∷ []) c.in_ok-text.ensures
    ∙ ap (λ o. done ++ edit_in c.args.additions.now c.args.place o) (sym (text-at c.args.rows.now line row within c.in-Some.ensures.lookup.1))
