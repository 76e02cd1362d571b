use Rattle.std.proofs.Common.{false, Result, Ok, Err}
use Rattle.std.specs.Prelude.{IfOk}
use Rattle.rev_history.specs.Timeline.{cone_numbers}
use Rattle.rev_marks.specs.Cones.{cone_seen}
use Rattle.rev_marks.proofs.ConeLemmas.{marks-of, seen-all}
use Rattle.rev_marks.proofs.cones.cone_marks.Goals as goal

if-ok : {A E : Type 0} {P Q : A → Type 0} (r : Result A E) → ((a : A) → P a → Q a) → IfOk r P → IfOk r Q
if-ok (Ok a) f h = f a h
if-ok (Err e) f h = h

pub returns : goal.returns
returns c =
    let t = c.args.history.now.timeline in
    if-ok c.marks_seen.result (λ marks. marks-of (cone_seen t false) (λ n. cone_numbers n t) c.args.asked.now marks.entries (λ n. seen-all t n c.marks_seen.ensures.legal)) c.marks_seen.ensures.marks
