use Rattle.std.proofs.Common.{◌≡◌, ◌++◌, ◌∷◌, [], ℕ, List, length, map, ◌∙◌, ap, arith, sym, if◌then◌else◌}
use Rattle.std.specs.Global.{Vec}
use Rattle.std.specs.List.{range_with_len}
use Rattle.std.proofs.lemmas.List.{map-append}
use Rattle.std.proofs.lemmas.List.FromFn.{map-range_with_len_more, length-map-range_with_len}
use Rattle.rev_ranks.specs.Graph.{graph_of, successors_of}
use Rattle.rev_ranks.specs.Sets.{is_marked}
use Rattle.rev_ranks.proofs.Ways.{nodes_are, successors_are}
use Rattle.rev_ranks.proofs.ReversedLemmas.{all-inside}
use Rattle.rev_graph.specs.Graph.{build_at}
use Rattle.rev_plan.specs.Steps.{paths_along, steps_with}
use Rattle.rev_plan.proofs.StepsLemmas.{as-listed, listed_step, step_list, no-paths, subgraph, steps-within}
use Rattle.rev_plan.proofs.steps.steps_among.Goals as goal

pub loop-edge-preserved : goal.loop-edge-preserved
loop-edge-preserved c =
    let builds = c.args.graph.now.manifest.builds in
    let marks = c.args.marks.now in
    let edge = c.loop-edge.edge in
    let list : c.deref.result.now ≡ successors_of (graph_of c.args.listed.now) c.loop-edge.edge =
    c.deref.ensures.value ∙ sym (successors_are c.args.listed.now edge c.index-listed-edge.result (omega (arith, c.loop-edge-test.true, c.requires.each, c.requires.listed)) c.index-listed-edge.is) in
    ap graph_of c.in_ok-push.ensures.items ∙ map-append (λ (v : Vec ℕ). v.items) c.loop-edge.all.items (c.in_ok-steps_where.field-0 ∷ [])
    ∙ (λ i. c.loop-edge.invariant i ++ (c.in_ok-steps_where.ensures
    ∙ ap (λ (listed : List ℕ). if is_marked marks edge then steps_with c.args.along builds listed (build_at builds edge) else []) list) i ∷ [])
    ∙ sym (map-range_with_len_more (listed_step c.args.along builds (graph_of c.args.listed.now) marks) 0 edge edge (omega arith))

pub returns-clause-steps : goal.returns-clause-steps
returns-clause-steps c = λ state listed.
    subgraph (paths_along c.args.along state) (no-paths c.args.along state) c.args.graph.now.manifest.builds c.args.marks.now c.requires.each (graph_of c.loop-edge.all.items)
    (as-listed c.args.along c.args.graph.now.manifest.builds state (graph_of c.args.listed.now) c.args.marks.now c.loop-edge.edge (graph_of c.loop-edge.all.items) listed (omega (arith, c.loop-edge-test.false, c.requires.each)) c.loop-edge.invariant)

pub returns-clause-inside : goal.returns-clause-inside
returns-clause-inside c =
    let state = c.requires.known.0 in
    all-inside c.loop-edge.all.items (length c.args.graph.now.manifest.builds)
    (steps-within (paths_along c.args.along state) (no-paths c.args.along state) c.args.graph.now.manifest.builds c.args.marks.now c.requires.each (graph_of c.loop-edge.all.items)
    (as-listed c.args.along c.args.graph.now.manifest.builds state (graph_of c.args.listed.now) c.args.marks.now c.loop-edge.edge (graph_of c.loop-edge.all.items) c.requires.known.1 (omega (arith, c.loop-edge-test.false, c.requires.each)) c.loop-edge.invariant))

pub returns-clause-each : goal.returns-clause-each
returns-clause-each c =
    let lists = sym (nodes_are c.loop-edge.all.items) ∙ ap length c.loop-edge.invariant
    ∙ length-map-range_with_len (listed_step c.args.along c.args.graph.now.manifest.builds (graph_of c.args.listed.now) c.args.marks.now) 0 c.loop-edge.edge in
    omega (arith, lists, c.loop-edge-test.false, c.requires.each, c.loop-edge.all.ok.0)
