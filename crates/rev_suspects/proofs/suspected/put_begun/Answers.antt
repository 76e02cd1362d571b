use Rattle.std.proofs.Common.{◌<◌, length, sym, ap, ◌∙◌, arith}
use Rattle.rev_history.specs.Timeline.{state_at}
use Rattle.std.proofs.lemmas.List.{length-set}
use Rattle.rev_suspects.specs.declared.failed.Failure.{Failure}
use Rattle.rev_suspects.specs.Suspects.{list_in, suspects_in}
use Rattle.rev_suspects.proofs.SuspectLemmas.{put-more, put-none}
use Rattle.rev_suspects.proofs.suspected.put_begun.Goals as goal
use Rattle.rev_suspects.proofs.suspected.put_begun.Goals.{then-failure-number+in_ok-found, else-failure-number}

pub loop-place-preserved : goal.loop-place-preserved
loop-place-preserved c =
    let t = c.args.history.now.timeline in
    let failures = c.args.failures.now in
    let files = c.args.files.now in
    let S = suspects_in c.args.history.now.timeline.manifest c.args.files.now (state_at c.args.past.now.timeline) in
    let inside : c.loop-place.place < length c.args.failures.now = omega (arith, c.loop-place-test.true, c.loop-place.auto.place-end) in
    elim c.if-failure-number.branch [
      | then-failure-number+in_ok-found w ↦ record {
        each = ap (λ v. length v.items) w.lists-is ∙ ap length w.put_list.ensures ∙ length-set c.loop-place.lists.items c.loop-place.place w.in_ok-found.found ∙ c.loop-place.invariant.each;
        lists =
            put-more failures c.args.number c.loop-place.place c.loop-place.lists.items c.if-failure-number.lists.items c.args.lists.now.items S w.in_ok-found.found inside c.loop-place.invariant.each
            (ap (λ (f : Failure). f.began) (sym c.run_at-failure.ensures) ∙ w.if-failure-number.true)
            (w.in_ok-found.ensures ∙ (λ i. suspects_in (c.graph-graph.ensures i) files (w.cells.ensures.state i) (c.run_at-failure.ensures i)))
            (ap (λ v. v.items) w.lists-is ∙ w.put_list.ensures) c.loop-place.invariant.lists;
      }
      | else-failure-number w ↦ record {
        each = ap (λ v. length v.items) w.lists-is ∙ c.loop-place.invariant.each;
        lists = λ j within.
            ap (λ v. list_in v.items j) w.lists-is
            ∙ put-none failures c.args.number c.loop-place.place c.loop-place.lists.items c.args.lists.now.items S (λ e. w.if-failure-number.false (ap (λ (f : Failure). f.began) c.run_at-failure.ensures ∙ e)) c.loop-place.invariant.lists j within;
      }
    ]
