use Rattle.std.proofs.Common.{◌≡◌, ◌++◌, map, take, ap, ◌∙◌}
use Rattle.std.specs.List.{flat_map}
use Rattle.rev_patch.specs.Lines.{edit_of, edited, edits, line_of}
use Rattle.rev_patch.specs.Patch.{are_near, hunk}
use Rattle.rev_patch.specs.Runs.{runs}
use Rattle.rev_patch.proofs.RunLemmas.{runs-more}
use Rattle.rev_patch.proofs.hunks.patch_text.Goals as goal

pub loop-rest-preserved : goal.loop-rest-preserved
loop-rest-preserved c =
    let l = c.loop-rest in
    let rest = l.rest.now in
    let n = c.first_hunk.result in
    let ls = edited c.args.text.now (edits c.args.changes.now) in
    let lines : map line_of c.deref.result.now ≡ ls = ap (map line_of) c.deref.ensures.value ∙ c.in_ok-rows.ensures in
    let written : c.push_hunk.new.patch.items ≡ l.patch.items ++ hunk ls (edits (take n rest)) =
    c.in_ok-push_hunk.ensures ∙ ap (λ rs. l.patch.items ++ hunk rs (edits c.split_at.result.0.now)) lines
    ∙ ap (λ cs. l.patch.items ++ hunk ls (edits cs)) c.split_at.ensures.front in
    ap (λ p. p ++ flat_map (hunk ls) (runs are_near (edits c.split_at.result.1.now))) written
    ∙ ap (λ cs. (l.patch.items ++ hunk ls (edits (take n rest))) ++ flat_map (hunk ls) (runs are_near (edits cs))) c.split_at.ensures.back
    ∙ runs-more edit_of are_near (hunk ls) l.patch.items rest n c.first_hunk.ensures.run c.loop-rest-test.true ∙ l.invariant
