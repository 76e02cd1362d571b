use Rattle.std.proofs.Common.{◌≡◌, length, take, sym, ap, ◌∙◌, arith}
use Rattle.std.specs.List.{filter_map}
use Rattle.std.proofs.Math.Seq.{take-length}
use Rattle.std.proofs.lemmas.List.{get_or_default}
use Rattle.rev_conflicts.specs.Tables.{scene, with_kind}
use Rattle.rev_conflicts.proofs.KindLemmas.{kinds-more, kinds-skip}
use Rattle.rev_conflicts.proofs.kinds.with_kinds.Goals.{in-Some+in_ok-push, in_default}
use Rattle.rev_conflicts.proofs.kinds.with_kinds.Goals as goal

pub loop-one-preserved : goal.loop-one-preserved
loop-one-preserved c =
    let s = scene c.args.graph.now.manifest.builds c.args.files.now c.args.paths.now c.args.commands.now c.args.edges.now c.args.hidden.now in
    let told = c.args.told.now in
    let i = c.loop-one.one-index in
    record {
      conflicts = elim c.match-found.branch [
        | in-Some+in_ok-push w ↦
            kinds-more s told i _ w.in-Some.kind c.loop-one.conflicts.items c.match-found.conflicts.items c.loop-one-test.true (get_or_default told i _ _ c.loop-one-test.true) (sym c.kind-found.ensures ∙ w.in-Some.is)
            (ap (λ v. v.items) w.conflicts-is ∙ w.in_ok-push.ensures.items) c.loop-one.invariant.conflicts
        | in_default w ↦
            ap (λ v. v.items) w.conflicts-is
            ∙ kinds-skip s told i _ c.loop-one.conflicts.items c.loop-one-test.true (get_or_default told i _ _ c.loop-one-test.true) (sym c.kind-found.ensures ∙ w.in_default.is) c.loop-one.invariant.conflicts
      ];
      kept = c.in_ok-search_for.ensures.kept;
    }

pub returns : goal.returns
returns c =
    let all : c.loop-one.one-index ≡ length c.args.told.now = omega (arith, c.loop-one-test.false, c.loop-one.auto.one-index-end) in
    c.loop-one.invariant.conflicts
    ∙ ap (filter_map (with_kind (scene c.args.graph.now.manifest.builds c.args.files.now c.args.paths.now c.args.commands.now c.args.edges.now c.args.hidden.now))) (ap (λ n. take n c.args.told.now) all ∙ take-length c.args.told.now)
