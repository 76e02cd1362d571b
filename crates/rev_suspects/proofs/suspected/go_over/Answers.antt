use Rattle.std.proofs.Common.{◌≡◌, ℕ, ◌<◌, List, length, get_or, take, sym, ap, subst, ◌∙◌, arith}
use Rattle.std.proofs.Math.Seq.{take-length}
use Rattle.rev_causal.specs.Machine.{run}
use Rattle.rev_history.specs.Timeline.{chosen, machine_at}
use Rattle.rev_suspects.specs.Past.{IsPast}
use Rattle.rev_suspects.specs.Suspects.{AreFound}
use Rattle.rev_suspects.proofs.FailureLemmas.{below-are}
use Rattle.rev_suspects.proofs.SuspectLemmas.{found-more, grown}
use Rattle.rev_suspects.proofs.suspected.go_over.Goals as goal

pub loop-number-init : goal.loop-number-init
loop-number-init c = record { past = c.requires.past; found = c.requires.lists }

pub loop-number-preserved : goal.loop-number-preserved
loop-number-preserved c =
    let t = c.args.history.now.timeline in
    let files = c.args.files.now in
    let failures = c.args.failures.now in
    let i = c.loop-number.number-index in
    let n : ℕ = get_or c.kept-number-items.result.now c.loop-number.number-index 0 in
    let within : c.loop-number.number-index < length c.args.history.now.timeline.kept =
    subst (λ (xs : List ℕ). c.loop-number.number-index < length xs) c.kept-number-items.ensures.kept c.loop-number-test.true in
    let here : get_or c.args.history.now.timeline.kept c.loop-number.number-index 0 ≡ get_or c.kept-number-items.result.now c.loop-number.number-index 0 =
    ap (λ (xs : List ℕ). get_or xs i 0) (sym c.kept-number-items.ensures.kept) in
    let more = grown t.kept i n 0 within here in
    record {
      past = subst (λ (ks : List ℕ). IsPast t ks c.follow.new.past.timeline) (sym more) (c.in_ok-follow.ensures (take i t.kept) c.loop-number.invariant.past);
      found =
          subst (λ (ks : List ℕ). AreFound t files failures ks c.put_begun.new.lists.items) (sym more)
          (found-more t files failures (take i t.kept) n c.loop-number.lists.items c.put_begun.new.lists.items _
          (c.loop-number.invariant.past.state_is ∙ ap (λ (ks : List ℕ). run (machine_at t) t.opening (chosen t.accepted ks)) (sym (below-are t.kept i n 0 c.kept-number-items.ensures.legal.rising within here)))
          c.in_ok-put_begun.ensures.each c.in_ok-put_begun.ensures.lists c.loop-number.invariant.found);
    }

pub returns : goal.returns
returns c =
    let t = c.args.history.now.timeline in
    let all : c.loop-number.number-index ≡ length c.args.history.now.timeline.kept =
    omega (arith, c.loop-number-test.false, c.loop-number.auto.number-index-end, ap (λ (xs : List ℕ). length xs) c.kept-number-items.ensures.kept) in
    subst (λ (ks : List ℕ). AreFound t c.args.files.now c.args.failures.now ks c.loop-number.lists.items) (ap (λ n. take n t.kept) all ∙ take-length t.kept) c.loop-number.invariant.found
