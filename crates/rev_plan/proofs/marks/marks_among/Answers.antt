use Rattle.std.proofs.Common.{ℕ, List, Bool, length, map, ◌∙◌, subst}
use Rattle.std.specs.Global.{Vec}
use Rattle.std.specs.List.{range_with_len}
use Rattle.std.proofs.lemmas.List.{length-map}
use Rattle.rev_manifest.specs.Manifest.{BuildValue}
use Rattle.rev_dirty.specs.Inputs.{producers_in}
use Rattle.rev_ranks.specs.Graph.{graph_of}
use Rattle.rev_ranks.specs.Sets.{is_marked_or_leads, IsSetOf}
use Rattle.rev_plan.specs.Plan.{counted_paths, edges_by}
use Rattle.rev_plan.specs.Steps.{IsSubgraph, mark_by}
use Rattle.rev_plan.proofs.PlanLemmas.{marks-are}
use Rattle.rev_plan.proofs.marks.marks_among.Goals as goal

pub steps_among-requires-clause-known : goal.steps_among-requires-clause-known
steps_among-requires-clause-known c = (c.args.cells.now.state, c.requires.listed)

pub returns : goal.returns
returns c =
    λ roots reached is.
    let also : IsSubgraph (edges_by (counted_paths c.args.cells.now.state) c.args.graph.now.manifest.builds) c.args.reached.now (graph_of c.in_ok-counted.counted.items) =
    c.in_ok-counted.ensures.steps c.args.cells.now.state c.requires.listed in
    let want : IsSetOf (graph_of c.in_ok-counted.counted.items) (is_marked_or_leads (graph_of c.in_ok-counted.counted.items) c.in_ok-dirty.dirty.items) c.in_ok-wanted.wanted.items =
    subst (λ (marks : List Bool). IsSetOf (graph_of c.in_ok-counted.counted.items) (is_marked_or_leads (graph_of c.in_ok-counted.counted.items) marks) c.in_ok-wanted.wanted.items) c.deref-2.ensures.value
    (subst (λ (lists : List (Vec ℕ)). IsSetOf (graph_of lists) (is_marked_or_leads (graph_of lists) c.deref-2.result.now) c.in_ok-wanted.wanted.items) c.deref.ensures.value c.in_ok-wanted.ensures) in
    let wait : IsSetOf (graph_of c.args.inputs.now) (is_marked_or_leads (graph_of c.args.inputs.now) c.in_ok-wanted.wanted.items) c.in_ok-waiting.waiting.items =
    subst (λ (marks : List Bool). IsSetOf (graph_of c.args.inputs.now) (is_marked_or_leads (graph_of c.args.inputs.now) marks) c.in_ok-waiting.waiting.items) c.deref-3.ensures.value c.in_ok-waiting.ensures in
    c.in_ok-marks.ensures ∙ (λ i. map (mark_by (c.deref-4.ensures.value i) (c.deref-5.ensures.value i)) (range_with_len 0 (length (c.deref-4.ensures.value i))))
    ∙ marks-are c.args.graph.now.manifest.builds c.args.cells.now.state roots c.args.reached.now reached (graph_of c.args.inputs.now) (graph_of c.in_ok-counted.counted.items) c.in_ok-dirty.dirty.items
    c.in_ok-wanted.wanted.items c.in_ok-waiting.waiting.items is also c.in_ok-dirty.ensures want wait
    (want.length_is ∙ also.length_is ∙ length-map c.args.graph.now.manifest.builds (λ (build : BuildValue). producers_in c.args.graph.now.manifest.builds (counted_paths c.args.cells.now.state build)))
