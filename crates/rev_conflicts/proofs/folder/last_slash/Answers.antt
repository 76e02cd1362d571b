use Rattle.std.proofs.Common.{◌≡◌, ℕ, ◌+◌, Bool, length, get_or, take, Some, sym, ap, ◌∙◌, arith, if◌then◌else◌}
use Rattle.std.proofs.lemmas.Bool.{eq-eqb, ne_eqb}
use Rattle.std.proofs.lemmas.List.{get_or_default, length-take-le}
use Rattle.rev_conflicts.specs.Places.{last_slash}
use Rattle.rev_conflicts.proofs.FolderLemmas.{last-more}
use Rattle.rev_conflicts.proofs.folder.last_slash.Goals.{then-byte-eq47, else-byte-eq47}
use Rattle.rev_conflicts.proofs.folder.last_slash.Goals as goal

pub loop-place-preserved : goal.loop-place-preserved
loop-place-preserved c =
    let path = c.args.path.now in
    let i = c.loop-place.place in
    let b : ℕ = get_or c.args.path.now c.loop-place.place 0 in
    let many : length (take c.loop-place.place c.args.path.now) ≡ c.loop-place.place = length-take-le i path (omega arith) in
    let was : c.loop-place.last ≡ last_slash (take c.loop-place.place c.args.path.now) = c.loop-place.invariant in
    let more = last-more path i b c.loop-place-test.true (get_or_default path i 0 b c.loop-place-test.true) in
    let made : c.if-byte-eq47.last ≡ last_slash (take (c.loop-place.place + 1) c.args.path.now) = elim c.if-byte-eq47.branch [
      | then-byte-eq47 w ↦
          w.last-is ∙ ap Some (sym many) ∙ sym (more ∙ ap (λ (t : Bool). if t then Some (length (take i path)) else last_slash (take i path)) (eq-eqb b 47 w.if-byte-eq47.true))
      | else-byte-eq47 w ↦
          w.last-is ∙ was ∙ sym (more ∙ ap (λ (t : Bool). if t then Some (length (take i path)) else last_slash (take i path)) (ne_eqb b 47 w.if-byte-eq47.false))
    ] in
    made
