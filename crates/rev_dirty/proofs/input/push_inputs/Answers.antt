use Rattle.std.proofs.Common.{◌≡◌, ◌++◌, length, map, take, ap, ◌∙◌, arith}
use Rattle.rev_dirty.specs.Facts.{input_facts}
use Rattle.rev_dirty.proofs.PushLemmas.{pushed-more, pushed-none, taken-all}
use Rattle.rev_dirty.proofs.input.push_inputs.Goals as goal

pub loop-place-init : goal.loop-place-init
loop-place-init c = pushed-none c.reserve.new.self.items

pub loop-place-preserved : goal.loop-place-preserved
loop-place-preserved c =
    pushed-more (input_facts c.args.graph.now.manifest.builds c.args.cells.now.state c.args.kind) c.args.paths.now c.loop-place.place c.index-paths-place.result c.reserve.new.self.items c.loop-place.inputs.items c.push.new.self.items
    c.input_of.result c.loop-place-test.true c.index-paths-place.is c.loop-place.invariant c.input_of.ensures c.in_ok-push.ensures.items

pub returns : goal.returns
returns c =
    let all : c.loop-place.place ≡ length c.args.paths.now = omega (arith, c.loop-place-test.false, c.loop-place.auto.place-end) in
    let facts = input_facts c.args.graph.now.manifest.builds c.args.cells.now.state c.args.kind in
    c.loop-place.invariant ∙ ap (λ old. old ++ map facts (take c.loop-place.place c.args.paths.now)) c.in_ok-reserve.ensures.items
    ∙ ap (λ paths. c.args.inputs.now.items ++ map facts paths) (taken-all c.args.paths.now c.loop-place.place all)
