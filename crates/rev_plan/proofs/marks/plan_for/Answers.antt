use Rattle.std.proofs.Common.{◌≡◌, ℕ, List, Bool, None, length, ◌∙◌, ap, subst, sym}
use Rattle.std.specs.Global.{Vec}
use Rattle.std.specs.Option.{option_map}
use Rattle.std.proofs.lemmas.Result.{err_from_is_err_and}
use Rattle.rev_ranks.specs.Graph.{graph_of, Reaches}
use Rattle.rev_ranks.specs.Sets.{is_marked}
use Rattle.rev_plan.specs.Fault.{NamesCycle}
use Rattle.rev_plan.specs.Plan.{edges_by, input_paths, missing_among, missing_input, needs_refusal, PlanRefusal.MissingInput}
use Rattle.rev_plan.specs.Steps.{AreReached, IsSubgraph}
use Rattle.rev_plan.proofs.StepsLemmas.{listed-here}
use Rattle.rev_plan.proofs.PlanLemmas.{cycle-explains, first-of-two, least-cycle, missing-are, no-cycle, none-of-two, second-of-two}
use Rattle.rev_plan.proofs.marks.plan_for.Goals as goal

pub reached_from-requires-clause-known : goal.reached_from-requires-clause-known
reached_from-requires-clause-known c = (c.args.cells.now.state, listed-here c.args.graph.now.manifest.builds c.args.cells.now.state c.in_ok-lists.lists.items c.as_slice-listed.result.now c.as_slice-listed.ensures.value c.in_ok-lists.ensures.listed)

pub steps_among-requires-clause-known : goal.steps_among-requires-clause-known
steps_among-requires-clause-known c = (c.args.cells.now.state, listed-here c.args.graph.now.manifest.builds c.args.cells.now.state c.in_ok-lists.lists.items c.as_slice-listed.result.now c.as_slice-listed.ensures.value c.in_ok-lists.ensures.listed)

pub returns-in-Some-clause-refused : goal.returns-in-Some-clause-refused
unfolding needs_refusal
returns-in-Some-clause-refused c =
    first-of-two _ _ _
    (sym (missing-are c.args.graph.now.manifest.builds c.args.cells.now.state c.args.roots.now c.in_ok-reached.reached.items (c.in_ok-reached.ensures c.args.cells.now.state (listed-here c.args.graph.now.manifest.builds c.args.cells.now.state c.in_ok-lists.lists.items c.as_slice-listed.result.now c.as_slice-listed.ensures.value c.in_ok-lists.ensures.listed)))
    ∙ ap (λ (marks : List Bool). missing_among c.args.graph.now.manifest.builds c.args.cells.now.state (is_marked marks)) (sym c.deref.ensures.value) ∙ sym c.missing_input_among.ensures
    ∙ ap (option_map (λ (at : ℕ × ℕ). MissingInput at.0 at.1)) c.in-Some.is)

pub returns-in_err-refuse_cycle-clause-refused : goal.returns-in_err-refuse_cycle-clause-refused
unfolding needs_refusal
returns-in_err-refuse_cycle-clause-refused c =
    let builds = c.args.graph.now.manifest.builds in
    let state = c.args.cells.now.state in
    let inputs = graph_of c.in_ok-inputs.inputs.items in
    let missing : missing_input c.args.graph.now.manifest.builds c.args.cells.now.state c.args.roots.now ≡ None =
    sym (missing-are builds state c.args.roots.now c.in_ok-reached.reached.items (c.in_ok-reached.ensures c.args.cells.now.state (listed-here c.args.graph.now.manifest.builds c.args.cells.now.state c.in_ok-lists.lists.items c.as_slice-listed.result.now c.as_slice-listed.ensures.value c.in_ok-lists.ensures.listed)))
    ∙ ap (λ (marks : List Bool). missing_among c.args.graph.now.manifest.builds c.args.cells.now.state (is_marked marks)) (sym c.deref.ensures.value) ∙ sym c.missing_input_among.ensures
    ∙ ap (option_map (λ (at : ℕ × ℕ). MissingInput at.0 at.1)) c.in_default.is in
    let is : IsSubgraph (edges_by (input_paths c.args.cells.now.state) c.args.graph.now.manifest.builds) c.in_ok-reached.reached.items (graph_of c.in_ok-inputs.inputs.items) =
    subst (λ (marks : List Bool). IsSubgraph (edges_by (input_paths c.args.cells.now.state) c.args.graph.now.manifest.builds) marks (graph_of c.in_ok-inputs.inputs.items)) c.deref-2.ensures.value (c.in_ok-inputs.ensures.steps c.args.cells.now.state (listed-here c.args.graph.now.manifest.builds c.args.cells.now.state c.in_ok-lists.lists.items c.as_slice-listed.result.now c.as_slice-listed.ensures.value c.in_ok-lists.ensures.listed)) in
    let names = subst (λ (lists : List (Vec ℕ)). NamesCycle c.in_err-refuse_cycle.field-0.0 (graph_of lists)) c.deref-3.ensures.value c.in_err-refuse_cycle.ensures.cycle in
    let p = err_from_is_err_and c.from_residual-in_err-refuse_cycle.result c.from_residual-in_err-refuse_cycle.ensures.1 in
    rw (p.1, p.2)
    (cycle-explains c.in_err-refuse_cycle.field-0.0 inputs _ names
    (λ edge least. second-of-two _ _ _ missing (least-cycle builds state c.args.roots.now c.in_ok-reached.reached.items (c.in_ok-reached.ensures c.args.cells.now.state (listed-here c.args.graph.now.manifest.builds c.args.cells.now.state c.in_ok-lists.lists.items c.as_slice-listed.result.now c.as_slice-listed.ensures.value c.in_ok-lists.ensures.listed)) inputs is edge least)))

pub marks_among-requires-clause-listed : goal.marks_among-requires-clause-listed
marks_among-requires-clause-listed c = listed-here c.args.graph.now.manifest.builds c.args.cells.now.state c.in_ok-lists.lists.items c.as_slice-listed.result.now c.as_slice-listed.ensures.value c.in_ok-lists.ensures.listed

pub marks_among-requires-clause-each_reached : goal.marks_among-requires-clause-each_reached
marks_among-requires-clause-each_reached c =
    let reached = c.in_ok-reached.ensures c.args.cells.now.state (listed-here c.args.graph.now.manifest.builds c.args.cells.now.state c.in_ok-lists.lists.items c.as_slice-listed.result.now c.as_slice-listed.ensures.value c.in_ok-lists.ensures.listed) in
    ap (λ (marks : List Bool). length marks) c.deref-4.ensures.value ∙ reached.length_is

pub returns-clause-marks : goal.returns-clause-marks
returns-clause-marks c =
    let reached : AreReached c.args.graph.now.manifest.builds c.args.cells.now.state c.args.roots.now c.deref-4.result.now =
    subst (λ (marks : List Bool). AreReached c.args.graph.now.manifest.builds c.args.cells.now.state c.args.roots.now marks) (sym c.deref-4.ensures.value) (c.in_ok-reached.ensures c.args.cells.now.state (listed-here c.args.graph.now.manifest.builds c.args.cells.now.state c.in_ok-lists.lists.items c.as_slice-listed.result.now c.as_slice-listed.ensures.value c.in_ok-lists.ensures.listed)) in
    let is : IsSubgraph (edges_by (input_paths c.args.cells.now.state) c.args.graph.now.manifest.builds) c.deref-4.result.now (graph_of c.deref-5.result.now) =
    subst (λ (lists : List (Vec ℕ)). IsSubgraph (edges_by (input_paths c.args.cells.now.state) c.args.graph.now.manifest.builds) c.deref-4.result.now (graph_of lists)) (sym c.deref-5.ensures.value)
    (subst (λ (marks : List Bool). IsSubgraph (edges_by (input_paths c.args.cells.now.state) c.args.graph.now.manifest.builds) marks (graph_of c.in_ok-inputs.inputs.items)) (c.deref-2.ensures.value ∙ sym c.deref-4.ensures.value) (c.in_ok-inputs.ensures.steps c.args.cells.now.state (listed-here c.args.graph.now.manifest.builds c.args.cells.now.state c.in_ok-lists.lists.items c.as_slice-listed.result.now c.as_slice-listed.ensures.value c.in_ok-lists.ensures.listed))) in
    c.in_ok-marks.ensures c.args.roots.now reached is

pub returns-clause-accepted : goal.returns-clause-accepted
unfolding needs_refusal
returns-clause-accepted c =
    let builds = c.args.graph.now.manifest.builds in
    let state = c.args.cells.now.state in
    let missing : missing_input c.args.graph.now.manifest.builds c.args.cells.now.state c.args.roots.now ≡ None =
    sym (missing-are builds state c.args.roots.now c.in_ok-reached.reached.items (c.in_ok-reached.ensures c.args.cells.now.state (listed-here c.args.graph.now.manifest.builds c.args.cells.now.state c.in_ok-lists.lists.items c.as_slice-listed.result.now c.as_slice-listed.ensures.value c.in_ok-lists.ensures.listed)))
    ∙ ap (λ (marks : List Bool). missing_among c.args.graph.now.manifest.builds c.args.cells.now.state (is_marked marks)) (sym c.deref.ensures.value) ∙ sym c.missing_input_among.ensures
    ∙ ap (option_map (λ (at : ℕ × ℕ). MissingInput at.0 at.1)) c.in_default.is in
    let is : IsSubgraph (edges_by (input_paths c.args.cells.now.state) c.args.graph.now.manifest.builds) c.in_ok-reached.reached.items (graph_of c.in_ok-inputs.inputs.items) =
    subst (λ (marks : List Bool). IsSubgraph (edges_by (input_paths c.args.cells.now.state) c.args.graph.now.manifest.builds) marks (graph_of c.in_ok-inputs.inputs.items)) c.deref-2.ensures.value (c.in_ok-inputs.ensures.steps c.args.cells.now.state (listed-here c.args.graph.now.manifest.builds c.args.cells.now.state c.in_ok-lists.lists.items c.as_slice-listed.result.now c.as_slice-listed.ensures.value c.in_ok-lists.ensures.listed)) in
    let acyclic : (edge : ℕ) → Reaches (graph_of c.in_ok-inputs.inputs.items) edge edge → ⊥ =
    subst (λ (lists : List (Vec ℕ)). (edge : ℕ) → Reaches (graph_of lists) edge edge → ⊥) c.deref-3.ensures.value c.in_ok-refuse_cycle.ensures.acyclic in
    none-of-two _ _ missing (no-cycle builds state c.args.roots.now c.in_ok-reached.reached.items (c.in_ok-reached.ensures c.args.cells.now.state (listed-here c.args.graph.now.manifest.builds c.args.cells.now.state c.in_ok-lists.lists.items c.as_slice-listed.result.now c.as_slice-listed.ensures.value c.in_ok-lists.ensures.listed)) (graph_of c.in_ok-inputs.inputs.items) is acyclic)
