use Rattle.std.proofs.Common.{◌≡◌, ◌<◌, ◌+◌, ◌++◌, length, map, take, drop, ap, sym, ◌∙◌, arith, append-nil}
use Rattle.std.specs.List.{flat_map}
use Rattle.std.proofs.lemmas.List.{drop_all, drop-drop}
use Rattle.rev_patch.specs.Lines.{edits, line_of, lines_of}
use Rattle.rev_patch.specs.Additions.{edits_for, same_line, texts_of}
use Rattle.rev_patch.specs.Runs.{runs}
use Rattle.rev_patch.proofs.RunLemmas.{runs-more_plain}
use Rattle.rev_patch.proofs.changes.changes_of.Goals as goal

pub loop-at-preserved : goal.loop-at-preserved
loop-at-preserved c =
    let l = c.loop-at in
    let adds = c.args.additions.now in
    let rest = c.split_at.result.1.now in
    let group = c.split_at-in-loop-at.result.0.now in
    let n = c.first_statement.result in
    let done = edits l.changes.items in
    let ls = texts_of (lines_of c.args.text.now) in
    let lines : texts_of (map line_of c.deref.result.now) ≡ ls =
    ap (λ rs. texts_of (map line_of rs)) c.deref.ensures.value ∙ ap texts_of c.in_ok-rows.ensures in
    let back = c.split_at.ensures.back_len in
    let count = c.split_at-in-loop-at.ensures.front_len in
    let behind = c.split_at-in-loop-at.ensures.back_len in
    let some : 0 < length rest = omega arith in
    let left : drop (l.at + length group) adds ≡ drop n rest =
    ap (λ k. drop (l.at + k) adds) count ∙ sym (drop-drop n l.at adds) ∙ ap (drop n) (sym c.split_at.ensures.back) in (
      ap (λ es. es ++ flat_map (edits_for ls) (runs same_line (drop (l.at + length group) adds)))
          (c.in_ok-push_change.ensures ∙ ap (λ ts. done ++ edits_for ts group) lines ∙ ap (λ xs. done ++ edits_for ls xs) c.split_at-in-loop-at.ensures.front)
          ∙ ap (λ xs. (done ++ edits_for ls (take n rest)) ++ flat_map (edits_for ls) (runs same_line xs)) left
          ∙ runs-more_plain same_line (edits_for ls) done rest n c.first_statement.ensures.run some
          ∙ ap (λ xs. done ++ flat_map (edits_for ls) (runs same_line xs)) c.split_at.ensures.back ∙ l.invariant.0,
      omega arith,
    )

pub returns : goal.returns
returns c =
    let l = c.loop-at in
    let adds = c.args.additions.now in
    let done = edits l.changes.items in
    let ls = texts_of (lines_of c.args.text.now) in
    sym (append-nil done)
    ∙ ap (λ xs. done ++ flat_map (edits_for ls) (runs same_line xs)) (sym (drop_all l.at adds c.loop-at-test.false)) ∙ l.invariant.0
