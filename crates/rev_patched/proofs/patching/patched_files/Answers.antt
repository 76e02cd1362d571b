use Rattle.std.proofs.Common.{◌+◌, ◌++◌, ap, ◌∙◌, drop}
use Rattle.rev_manifest.specs.Seen.{seen_files}
use Rattle.rev_patched.specs.Orders.{patched, patched_file, seen_file}
use Rattle.rev_patched.proofs.FileLemmas.{patched-more}
use Rattle.rev_patched.proofs.patching.patched_files.Goals as goal

pub loop-number-preserved : goal.loop-number-preserved
loop-number-preserved c =
    let l = c.loop-number in
    let files = c.args.files.now in
    let changes = c.args.changes.now in
    let x = c.in_ok-patched_file.field-0 in
    let f = c.index-files-number.result in
    ap (λ done. seen_files done ++ patched (seen_files (drop (l.number + 1) files)) (drop (l.number + 1) changes)) c.in_ok-push.ensures.items
    ∙ patched-more l.changed.items files changes l.number f x c.loop-number-test.true c.index-files-number.is
    (c.in_ok-patched_file.ensures ∙ ap (patched_file (seen_file f)) c.changes_at.ensures)
    ∙ l.invariant
