use Rattle.std.proofs.Common.{◌≡◌, ◌∙◌, Contains, ap, arith, get_or, length, refl, subst, sym, take, true≢false}
use Rattle.std.proofs.Math.Seq.{take-length}
use Rattle.rev_witness.specs.Progress.{GoesOn}
use Rattle.rev_witness.proofs.ProgressLemmas.{free-still, goes-more, goes-none}
use Rattle.rev_witness.proofs.found.all_end.Goals as goal

pub loop-edge-init : goal.loop-edge-init
loop-edge-init c = record {
  began = λ manifest opening began. began;
  goes = λ opening way free. goes-none c.args.graph.now.manifest opening (Contains (take 0 c.args.edges.now)) c.args.history.now.timeline way (λ x h. absurd (omega (arith, h.1)));
}

pub loop-edge-preserved : goal.loop-edge-preserved
loop-edge-preserved c = record {
  began = λ manifest opening began. c.in_ok-ends.ensures.began manifest opening (c.loop-edge.invariant.began manifest opening began);
  goes = λ opening way free.
      let manifest = c.args.graph.now.manifest in
      let edges = c.args.edges.now in
      let i = c.loop-edge.edge-index in
      let first = c.args.history.now.timeline in
      let now = c.loop-edge.history.timeline in
      let before = c.loop-edge.invariant.goes opening way free in
      let went = c.in_ok-ends.ensures.goes opening before.under_way (free-still manifest opening (Contains (take i edges)) first now (get_or edges i 0) before (free i 0 c.loop-edge-test.true)) in
      goes-more manifest opening edges i 0 first now c.ends.new.history.timeline c.loop-edge-test.true before went.1;
}

pub returns-then-not-branch-clause-goes : goal.returns-then-not-branch-clause-goes
returns-then-not-branch-clause-goes c = λ opening way free.
    let manifest = c.args.graph.now.manifest in
    let edges = c.args.edges.now in
    let i = c.loop-edge.edge-index in
    let before = c.loop-edge.invariant.goes opening way free in
    let went = c.in_ok-ends.ensures.goes opening before.under_way
    (free-still manifest opening (Contains (take i edges)) c.args.history.now.timeline c.loop-edge.history.timeline (get_or edges i 0) before (free i 0 c.loop-edge-test.true)) in
    absurd (true≢false (sym went.0 ∙ c.if-not-branch.true))

pub returns-clause-goes : goal.returns-clause-goes
returns-clause-goes c = λ opening way free.
    let edges = c.args.edges.now in
    let all : c.loop-edge.edge-index ≡ length c.args.edges.now = omega (arith, c.loop-edge-test.false, c.loop-edge.auto.edge-index-end) in (
      refl,
      subst (λ xs. GoesOn c.args.graph.now.manifest opening (Contains xs) c.args.history.now.timeline c.loop-edge.history.timeline)
          (ap (λ n. take n edges) all ∙ take-length edges) (c.loop-edge.invariant.goes opening way free),
    )
