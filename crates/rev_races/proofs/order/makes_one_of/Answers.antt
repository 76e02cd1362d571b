use Rattle.std.proofs.Common.{◌≡◌, Some, sym, ◌∙◌, arith, true≢false, subst, []}
use Rattle.std.proofs.lemmas.List.{get_or_default}
use Rattle.rev_graph.specs.Graph.{Produces}
use Rattle.rev_races.proofs.KeyLemmas.{none-more}
use Rattle.rev_races.proofs.order.makes_one_of.Goals as goal
use Rattle.rev_races.proofs.order.makes_one_of.Goals.{in-Some+else-producer-edge, in_default}

pub loop-file-preserved : goal.loop-file-preserved
loop-file-preserved c =
    let more = none-more c.args.graph.now.manifest.builds c.args.edge c.args.files.now c.loop-file.file-index c.file-item.result c.loop-file-test.true c.file-item.is in
    elim c.match-producer.branch [
      | in-Some+else-producer-edge w ↦ more (λ made.
          let both : Some w.in-Some.producer ≡ Some c.args.edge = sym w.in-Some.is ∙ c.producer.ensures.only c.args.edge made in
          let same : w.in-Some.producer ≡ c.args.edge = cc in
          omega (arith, same, w.if-producer-edge.false)) c.loop-file.invariant
      | in_default w ↦ more (λ made.
          let no = sym w.in_default.is ∙ c.producer.ensures.only c.args.edge made in
          true≢false cc) c.loop-file.invariant
    ]

pub returns : goal.returns
returns c = (
  λ h. absurd (true≢false (sym h)),
  λ m.
      let f = m.is_file in
      absurd (c.loop-file.invariant f.0 (omega (arith, f.1, c.loop-file-test.false))
      (subst (λ p. Produces c.args.graph.now.manifest.builds c.args.edge p) (sym (get_or_default c.args.files.now f.0 [] m.out f.1 ∙ f.2)) m.is_output)),
)
