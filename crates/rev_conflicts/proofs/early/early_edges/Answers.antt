use Rattle.std.proofs.Common.{◌≡◌, ◌+◌, Bool, List, Some, sym, ap, subst, ◌∙◌, arith}
use Rattle.rev_graph.proofs.GraphLemmas.{producer_of-within}
use Rattle.rev_graph.specs.Graph.{producer_of}
use Rattle.rev_conflicts.proofs.EarlyLemmas.{AreEarlyBy, early-all, early-none, early-one}
use Rattle.rev_conflicts.proofs.early.early_edges.Goals.{in-Some, in_default}
use Rattle.rev_conflicts.proofs.early.early_edges.Goals as goal

pub loop-file-preserved : goal.loop-file-preserved
loop-file-preserved c =
    let builds = c.args.graph.now.manifest.builds in
    let files = c.args.files.now in
    let i = c.loop-file.file-index in
    let marks = c.loop-file.marks.items in
    elim c.match-producer.branch [
      | in-Some w ↦
          let made : producer_of c.args.graph.now.manifest.builds c.file-item.result ≡ Some w.in-Some.producer = sym c.producer.ensures.value ∙ w.in-Some.is in
          subst (λ (ms : List Bool). AreEarlyBy builds files (i + 1) ms) (sym (ap (λ v. v.items) w.marks-is))
          (early-one builds files i c.file-item.result c.loop-file-test.true c.file-item.is marks w.in-Some.producer made (producer_of-within c.file-item.result builds w.in-Some.producer made) c.loop-file.invariant)
      | in_default w ↦
          subst (λ (ms : List Bool). AreEarlyBy builds files (i + 1) ms) (sym (ap (λ v. v.items) w.marks-is))
          (early-none builds files i c.file-item.result c.loop-file-test.true c.file-item.is marks (sym c.producer.ensures.value ∙ w.in_default.is) c.loop-file.invariant)
    ]

pub returns : goal.returns
returns c =
    early-all c.args.graph.now.manifest.builds c.args.files.now c.loop-file.file-index c.loop-file.marks.items (omega (arith, c.loop-file-test.false, c.loop-file.auto.file-index-end)) c.loop-file.invariant
