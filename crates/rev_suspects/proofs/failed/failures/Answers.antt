use Rattle.std.proofs.Common.{◌≡◌, ℕ, ◌<◌, List, [], ◌++◌, Option, None, length, get_or, take, sym, ap, subst, ◌∙◌}
use Rattle.std.specs.List.{cons_option, filter_map}
use Rattle.rev_history.specs.Timeline.{chosen}
use Rattle.rev_suspects.specs.Failures.{AreStarts, failure_at, last_start}
use Rattle.rev_suspects.proofs.FailureLemmas.{below-are, filter-more}
use Rattle.rev_suspects.proofs.SuspectLemmas.{grown}
use Rattle.rev_suspects.proofs.failed.failures.Goals as goal

pub failure_at-failure-requires : goal.failure_at-failure-requires
failure_at-failure-requires c = λ edge.
    let t = c.args.history.now.timeline in
    let i = c.loop-number.number-index in
    let n : ℕ = get_or c.kept-number-items.result.now c.loop-number.number-index 0 in
    let within : c.loop-number.number-index < length c.args.history.now.timeline.kept =
    subst (λ (xs : List ℕ). c.loop-number.number-index < length xs) c.kept-number-items.ensures.kept c.loop-number-test.true in
    let here : get_or c.args.history.now.timeline.kept c.loop-number.number-index 0 ≡ get_or c.kept-number-items.result.now c.loop-number.number-index 0 =
    ap (λ (xs : List ℕ). get_or xs i 0) (sym c.kept-number-items.ensures.kept) in
    ap (λ (bs : List (Option ℕ)). get_or bs edge None) c.deref.ensures.value
    ∙ c.loop-number.invariant.starts.exact edge
    ∙ ap (λ (ks : List ℕ). last_start t (chosen t.accepted ks) edge) (sym (below-are t.kept i n 0 c.kept-number-items.ensures.legal.rising within here))

pub loop-number-preserved : goal.loop-number-preserved
loop-number-preserved c =
    let t = c.args.history.now.timeline in
    let i = c.loop-number.number-index in
    let n : ℕ = get_or c.kept-number-items.result.now c.loop-number.number-index 0 in
    let within : c.loop-number.number-index < length c.args.history.now.timeline.kept =
    subst (λ (xs : List ℕ). c.loop-number.number-index < length xs) c.kept-number-items.ensures.kept c.loop-number-test.true in
    let here : get_or c.args.history.now.timeline.kept c.loop-number.number-index 0 ≡ get_or c.kept-number-items.result.now c.loop-number.number-index 0 =
    ap (λ (xs : List ℕ). get_or xs i 0) (sym c.kept-number-items.ensures.kept) in
    let more = grown t.kept i n 0 within here in
    record {
      starts = subst (λ (ks : List ℕ). AreStarts t ks c.note_start.new.begins.items) (sym more) (c.note_start.ensures (take i t.kept) c.loop-number.invariant.starts);
      found =
          c.in_ok-add_failure.ensures.failures ∙ (λ j. c.loop-number.invariant.found j ++ cons_option (c.failure_at-failure.ensures.failure j) [])
          ∙ sym (filter-more (failure_at t) (take i t.kept) n) ∙ ap (filter_map (failure_at t)) (sym more);
      within = c.in_ok-add_failure.ensures.within (length c.args.history.now.timeline.manifest.builds) c.loop-number.invariant.within c.failure_at-failure.ensures.within;
    }
