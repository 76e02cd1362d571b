use Rattle.std.proofs.Common.{◌≡◌, ℕ, ◌-◌, ◌<◌, ◌≤◌, List, length, get_or, reverse, ap, ◌∙◌, arith}
use Rattle.std.specs.Prelude.{◌&&◌, find, nat_lt}
use Rattle.std.proofs.lemmas.List.{length-reverse, take_all}
use Rattle.rev_looked.specs.Needs.{is_left, scene}
use Rattle.rev_looked.proofs.NeedLemmas.{found-next}
use Rattle.rev_looked.proofs.left.note_kept.Goals as goal

pub loop-passed-preserved : goal.loop-passed-preserved
loop-passed-preserved c = λ path within none.
    let s = scene c.args.history.now.timeline c.args.observation.now.paths c.args.observation.now.commands c.args.edges.now in
    let i = c.loop-passed.passed in
    let same = c.kept-kept.ensures.kept in
    let sizes : length c.kept-kept.result.now ≡ length c.args.history.now.timeline.kept = ap length same in
    let there : c.loop-passed.passed < length c.args.history.now.timeline.kept = omega (arith, sizes) in
    found-next (λ k. nat_lt k c.args.before && is_left s path k) c.args.history.now.timeline.kept i _ _ _ there
    (ap (λ (xs : List ℕ). get_or xs (length xs - 1 - i) 0) same) (c.loop-passed.invariant path within none)
    (c.note_before.ensures path (omega (arith, within, c.loop-passed.auto.notes)))

pub returns : goal.returns
returns c = λ path within none.
    let s = scene c.args.history.now.timeline c.args.observation.now.paths c.args.observation.now.commands c.args.edges.now in
    let sizes : length c.kept-kept.result.now ≡ length c.args.history.now.timeline.kept = ap length c.kept-kept.ensures.kept in
    let all : length (reverse c.args.history.now.timeline.kept) ≤ c.loop-passed.passed =
    omega (arith, sizes, length-reverse c.args.history.now.timeline.kept) in
    c.loop-passed.invariant path within none
    ∙ ap (find (λ k. nat_lt k c.args.before && is_left s path k))
    (take_all c.loop-passed.passed (reverse c.args.history.now.timeline.kept) all)
