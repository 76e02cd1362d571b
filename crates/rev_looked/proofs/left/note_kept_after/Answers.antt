use Rattle.std.proofs.Common.{◌≡◌, ℕ, ◌<◌, ◌≤◌, List, length, get_or, ap, ◌∙◌, arith}
use Rattle.std.specs.Prelude.{◌&&◌, find, nat_lt}
use Rattle.std.proofs.lemmas.List.{take_all}
use Rattle.rev_looked.specs.Needs.{is_left, scene}
use Rattle.rev_looked.proofs.NeedLemmas.{found-after}
use Rattle.rev_looked.proofs.left.note_kept_after.Goals as goal

pub loop-place-preserved : goal.loop-place-preserved
loop-place-preserved c = λ path within none.
    let s = scene c.args.history.now.timeline c.args.observation.now.paths c.args.observation.now.commands c.args.edges.now in
    let i = c.loop-place.place in
    let same = c.kept-kept.ensures.kept in
    let sizes : length c.kept-kept.result.now ≡ length c.args.history.now.timeline.kept = ap length same in
    let there : c.loop-place.place < length c.args.history.now.timeline.kept = omega (arith, sizes) in
    found-after (λ k. nat_lt c.args.after k && is_left s path k) c.args.history.now.timeline.kept i _ _ _ there
    (ap (λ (xs : List ℕ). get_or xs i 0) same) (c.loop-place.invariant path within none)
    (c.note_after.ensures path (omega (arith, within, c.loop-place.auto.notes)))

pub returns : goal.returns
returns c = λ path within none.
    let s = scene c.args.history.now.timeline c.args.observation.now.paths c.args.observation.now.commands c.args.edges.now in
    let sizes : length c.kept-kept.result.now ≡ length c.args.history.now.timeline.kept = ap length c.kept-kept.ensures.kept in
    let all : length c.args.history.now.timeline.kept ≤ c.loop-place.place = omega (arith, sizes) in
    c.loop-place.invariant path within none
    ∙ ap (find (λ k. nat_lt c.args.after k && is_left s path k)) (take_all c.loop-place.place c.args.history.now.timeline.kept all)
