use Rattle.std.proofs.Common.{◌≡◌, ◌∙◌, ℕ, false, get_or, ◌+◌, map, max, nat_eq, sym, ap, take, arith}
use Rattle.std.proofs.lemmas.Bool.{ne_eqb}
use Rattle.rev_cells.specs.State.{stamp_of}
use Rattle.rev_dirty.specs.Visible.{greatest, visible_stamp}
use Rattle.rev_dirty.proofs.NewestLemmas.{greatest-next, shows-own}
use Rattle.rev_dirty.proofs.newest.greatest_there.Goals as goal
use Rattle.rev_dirty.proofs.newest.greatest_there.Goals.{then-stamp-newest, else-stamp-newest}

pub loop-path-preserved : goal.loop-path-preserved
loop-path-preserved c = λ builds ranks ranked.
    let state = c.args.cells.now.state in
    let f = visible_stamp builds state in
    let path = c.path-item.result in
    let stamp = c.stamp-stamp.result in
    let newest = c.loop-path.newest in
    let there : nat_eq (stamp_of state path) 0 ≡ false = ap (λ n. nat_eq n 0) (sym c.stamp-stamp.ensures) ∙ ne_eqb stamp 0 c.if-stamp-eq0.false in
    let own : stamp ≡ f (get_or c.args.paths.now c.loop-path.path-index path) =
    c.stamp-stamp.ensures ∙ sym (shows-own builds ranks state ranked path there) ∙ ap f c.path-item.is in
    let more : max newest stamp ≡ max c.args.least (greatest (map f (take (c.loop-path.path-index + 1) c.args.paths.now))) =
    (λ i. max (c.loop-path.invariant builds ranks ranked i) (own i)) ∙ greatest-next f c.args.paths.now c.loop-path.path-index path c.args.least c.loop-path-test.true in
    elim c.if-stamp-newest.branch [
      | then-stamp-newest w ↦
          let top : stamp ≡ max newest stamp = omega arith in
          w.newest-is ∙ top ∙ more
      | else-stamp-newest w ↦
          let top : newest ≡ max newest stamp = omega arith in
          w.newest-is ∙ top ∙ more
    ]
