use Rattle.std.proofs.Common.{◌≡◌, ◌++◌, length, map, take, ap, ◌∙◌, arith}
use Rattle.rev_dirty.specs.Inputs.{an}
use Rattle.rev_dirty.specs.Reasons.{is_rebuilt}
use Rattle.rev_dirty.proofs.PushLemmas.{pushed-none, pushed-twice, taken-all}
use Rattle.rev_dirty.proofs.change.push_changes.Goals as goal

pub loop-place-init : goal.loop-place-init
loop-place-init c = record { changed = c.requires.changed; changes = pushed-none c.reserve.new.self.items }

pub loop-place-preserved : goal.loop-place-preserved
loop-place-preserved c = record {
  changed = c.in_ok-rebuilt.ensures.changed;
  changes =
      pushed-twice (an c.args.kind) (is_rebuilt c.args.graph.now.manifest.builds c.args.cells.now.state) c.args.paths.now c.loop-place.place c.index-paths-place.result c.reserve.new.self.items c.loop-place.changes.items c.push.new.self.items
      c.in_ok-rebuilt.rebuilt c.loop-place-test.true c.index-paths-place.is c.loop-place.invariant.changes c.in_ok-rebuilt.ensures.value c.in_ok-push.ensures.items;
}

pub returns : goal.returns
returns c =
    let all : c.loop-place.place ≡ length c.args.paths.now = omega (arith, c.loop-place-test.false, c.loop-place.auto.place-end) in
    let made = is_rebuilt c.args.graph.now.manifest.builds c.args.cells.now.state in
    record {
      changed = c.loop-place.invariant.changed;
      changes =
          c.loop-place.invariant.changes ∙ ap (λ old. old ++ map made (map (an c.args.kind) (take c.loop-place.place c.args.paths.now))) c.in_ok-reserve.ensures.items
          ∙ ap (λ paths. c.args.changes.now.items ++ map made (map (an c.args.kind) paths)) (taken-all c.args.paths.now c.loop-place.place all);
    }
