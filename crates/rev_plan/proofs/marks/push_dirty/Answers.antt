use Rattle.std.proofs.Common.{◌≡◌, ℕ, ◌<◌, ◌&&◌, List, ◌++◌, ◌∷◌, [], length, ◌∙◌, refl, ap, arith, sym}
use Rattle.std.proofs.lemmas.List.{get_or-map}
use Rattle.std.proofs.lemmas.List.FromFn.{map-range_with_len_more}
use Rattle.rev_manifest.specs.Manifest.{BuildValue}
use Rattle.rev_graph.specs.Graph.{build_at, no_build}
use Rattle.rev_ranks.specs.Graph.{successors_of}
use Rattle.rev_ranks.specs.Sets.{is_marked}
use Rattle.rev_ranks.proofs.Ways.{successors_are}
use Rattle.rev_dirty.specs.Inputs.{producers_in, paths_in, deps_record}
use Rattle.rev_plan.specs.Steps.{listed_paths}
use Rattle.rev_plan.specs.Plan.{is_dirty}
use Rattle.rev_plan.proofs.PlanLemmas.{dirty-are}
use Rattle.rev_plan.proofs.marks.push_dirty.Goals as goal

pub loop-edge-init : goal.loop-edge-init
loop-edge-init c = record { same = refl; dirty = c.requires.none }

pub is_dirty_where-requires-clause-listed : goal.is_dirty_where-requires-clause-listed
is_dirty_where-requires-clause-listed c =
    let edge = c.loop-edge.edge in
    let builds = c.args.scan.now.graph.manifest.builds in
    let state = c.args.scan.now.state in
    let within : edge < length c.args.listed.now = omega (arith, c.loop-edge-test.true, c.requires.each, c.requires.each_listed) in
    let inside : edge < length builds = omega (arith, c.loop-edge-test.true, c.requires.each) in
    c.deref.ensures.value ∙ sym (successors_are c.args.listed.now edge c.index-listed-edge.result within c.index-listed-edge.is)
    ∙ ap (λ (lists : List (List ℕ)). successors_of lists edge) c.requires.listed.are
    ∙ get_or-map (λ (build : BuildValue). producers_in builds (listed_paths state build)) builds edge no_build [] inside
    ∙ sym (λ i. producers_in (c.loop-edge.invariant.same i).graph.manifest.builds (paths_in (deps_record (c.loop-edge.invariant.same i).state (build_at (c.loop-edge.invariant.same i).graph.manifest.builds edge))))

pub loop-edge-preserved : goal.loop-edge-preserved
loop-edge-preserved c =
    let edge = c.loop-edge.edge in
    let is : c.in_ok-is_dirty_where.field-0 ≡ (is_marked c.args.marks.now edge && is_dirty c.args.scan.now.graph.manifest.builds c.args.scan.now.state edge) =
    c.in_ok-is_dirty_where.ensures.dirty ∙ (λ i. is_marked c.args.marks.now edge && is_dirty (c.loop-edge.invariant.same i).graph.manifest.builds (c.loop-edge.invariant.same i).state edge) in
    record {
      same = c.in_ok-is_dirty_where.ensures.same ∙ c.loop-edge.invariant.same;
      dirty =
          c.in_ok-push.ensures.items ∙ (λ i. c.loop-edge.invariant.dirty i ++ is i ∷ [])
          ∙ sym (map-range_with_len_more (λ edge. is_marked c.args.marks.now edge && is_dirty c.args.scan.now.graph.manifest.builds c.args.scan.now.state edge) 0 edge edge (omega arith));
    }

pub returns : goal.returns
returns c =
    dirty-are c.args.scan.now.graph.manifest.builds c.args.scan.now.state c.args.marks.now c.loop-edge.dirty.items c.loop-edge.edge c.requires.each (omega (arith, c.loop-edge-test.false, c.requires.each))
    c.loop-edge.invariant.dirty
