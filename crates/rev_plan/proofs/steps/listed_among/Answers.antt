use Rattle.std.proofs.Common.{◌++◌, ◌∷◌, [], ℕ, length, ◌∙◌, ap, arith, sym}
use Rattle.std.specs.Global.{Vec}
use Rattle.std.proofs.lemmas.List.{map-append}
use Rattle.std.proofs.lemmas.List.FromFn.{map-range_with_len_more, length-map-range_with_len}
use Rattle.rev_ranks.specs.Graph.{graph_of}
use Rattle.rev_ranks.proofs.Ways.{nodes_are}
use Rattle.rev_dirty.specs.Inputs.{producers_in}
use Rattle.rev_plan.proofs.StepsLemmas.{are-listed, listed_at}
use Rattle.rev_plan.proofs.steps.listed_among.Goals as goal

pub loop-edge-preserved : goal.loop-edge-preserved
loop-edge-preserved c =
    let builds = c.args.graph.now.manifest.builds in
    ap graph_of c.in_ok-push.ensures.items ∙ map-append (λ (v : Vec ℕ). v.items) c.loop-edge.all.items (c.in_ok-producers_of.field-0 ∷ [])
    ∙ (λ i. c.loop-edge.invariant i ++ (c.in_ok-producers_of.ensures ∙ ap (producers_in builds) c.listed_inputs.ensures) i ∷ [])
    ∙ sym (map-range_with_len_more (listed_at builds c.args.cells.now.state) 0 c.loop-edge.edge c.loop-edge.edge (omega arith))

pub returns-clause-listed : goal.returns-clause-listed
returns-clause-listed c =
    are-listed c.args.graph.now.manifest.builds c.args.cells.now.state c.loop-edge.edge (graph_of c.loop-edge.all.items) (omega (arith, c.loop-edge-test.false, c.edges-edge-end.ensures.edges)) c.loop-edge.invariant

pub returns-clause-each : goal.returns-clause-each
returns-clause-each c =
    let lists = sym (nodes_are c.loop-edge.all.items) ∙ ap length c.loop-edge.invariant
    ∙ length-map-range_with_len (listed_at c.args.graph.now.manifest.builds c.args.cells.now.state) 0 c.loop-edge.edge in
    omega (arith, lists, c.loop-edge-test.false, c.edges-edge-end.ensures.edges, c.loop-edge.all.ok.0)
