use Rattle.std.proofs.Common.{◌≡◌, ◌+◌, ◌++◌, [], ℕ, Option, None, get_or, take, refl, ap, ◌∙◌}
use Rattle.std.specs.List.{cons_option}
use Rattle.rev_dirty.specs.Facts.{phony_only}
use Rattle.rev_footprint.specs.Behind.{phony_among}
use Rattle.rev_footprint.proofs.AddsLemmas.{kept-next}
use Rattle.rev_footprint.proofs.BehindLemmas.{grows-not, grows-then, grows-as, producer-within}
use Rattle.rev_footprint.proofs.behind.add_phony.Goals as goal

pub phony_producer-requires : goal.phony_producer-requires
phony_producer-requires c =
    producer-within c.args.graph.now.manifest.builds c.args.producers.now c.requires.0 c.loop-producer.producer-index c.requires.1 c.loop-producer-test.true

pub loop-producer-init : goal.loop-producer-init
loop-producer-init c = grows-not c.args.edges.now.keys

pub loop-producer-preserved : goal.loop-producer-preserved
loop-producer-preserved c =
    let builds = c.args.graph.now.manifest.builds in
    let producers = c.args.producers.now in
    let i = c.loop-producer.producer-index in
    let one = cons_option c.phony_producer.result [] in
    let whole : phony_among builds (take i producers) ++ one ≡ phony_among builds (take (i + 1) producers) =
    ap (λ (o : Option ℕ). phony_among builds (take i producers) ++ cons_option o []) c.phony_producer.ensures
    ∙ kept-next (phony_only builds) producers i (get_or producers i None) None c.loop-producer-test.true refl in
    grows-as c.args.edges.now.keys c.add_edge.new.edges.keys (phony_among builds (take i producers) ++ one) (phony_among builds (take (i + 1) producers)) whole
    (grows-then c.args.edges.now.keys c.loop-producer.edges.keys c.add_edge.new.edges.keys (phony_among builds (take i producers)) one c.loop-producer.invariant c.in_ok-add_edge.ensures)
