use Rattle.std.proofs.Common.{◌+◌, ◌-◌, ◌++◌, map, ap, sym, ◌∙◌}
use Rattle.rev_patch.specs.Lines.{line_of}
use Rattle.rev_patch.specs.Patch.{hunk_text}
use Rattle.rev_patch.proofs.HunkLemmas.{hunk-ends}
use Rattle.rev_patch.proofs.hunks.push_hunk.Goals as goal

pub returns : goal.returns
returns c =
    let done = c.args.patch.now.items in
    let first = c.in-Some.first.now in
    let last = c.in-Some-last.last.now in
    c.in_ok-push_hunk_of.ensures ∙ ap (λ n. done ++ hunk_text n (map line_of c.around-part.result.now)) c.first_line.ensures
    ∙ ap (λ ls. done ++ hunk_text (first.line - 3 + 1) ls) c.around-part.ensures
    ∙ ap (λ text. done ++ text) (sym (hunk-ends (map line_of c.args.rows.now) c.args.changes.now first last c.in-Some.ensures.value c.in-Some-last.ensures.value))
