use Rattle.std.proofs.Common.{◌≡◌, ◌<◌, ℕ, List, Option, None, length, not, map, ◌∙◌, ap, subst, sym}
use Rattle.std.specs.Prelude.{IfErr, IfOk, OnOk}
use Rattle.std.specs.List.{All, position}
use Rattle.std.specs.Option.{option_map}
use Rattle.rev_graph.specs.Graph.{is_known}
use Rattle.rev_dirty.specs.Inputs.{producers_in}
use Rattle.rev_plan.specs.Fault.{Explains}
use Rattle.rev_plan.specs.Plan.{edge_numbers, mark_for, marks_of, needs_refusal, plan_refusal, targets_or, PlanRefusal, PlanRefusal.StillRunning, PlanRefusal.UnknownTarget}
use Rattle.rev_plan.proofs.PlanLemmas.{first-of-four, second-of-four, rest-of-four}
use Rattle.rev_plan.proofs.StepsLemmas.{producers-within}
use Rattle.rev_plan.proofs.marks.plan.Goals as goal

pub returns-in-Some-clause-refused : goal.returns-in-Some-clause-refused
unfolding plan_refusal
returns-in-Some-clause-refused c = first-of-four _ _ _ _ _ (ap (option_map StillRunning) (sym c.first_running.ensures ∙ c.in-Some.is))

pub returns-in-Some-first_unknown-clause-refused : goal.returns-in-Some-first_unknown-clause-refused
unfolding plan_refusal
returns-in-Some-first_unknown-clause-refused c =
    second-of-four _ _ _ _ _ (ap (option_map StillRunning) (sym c.first_running.ensures ∙ c.in_default.is))
    (ap (option_map UnknownTarget)
    (ap (λ (targets : List (List ℕ)). position (λ path. not (is_known c.args.graph.now.manifest.builds path)) targets) (sym c.targets_or_defaults-targets.ensures) ∙ sym c.first_unknown.ensures ∙ c.in-Some-first_unknown.is))

pub plan_for-requires-clause-nodes : goal.plan_for-requires-clause-nodes
plan_for-requires-clause-nodes c =
    subst (λ (roots : List ℕ). All (λ edge. edge < length c.args.graph.now.manifest.builds) roots) (sym (c.deref.ensures.value ∙ c.in_ok-roots.ensures))
    (producers-within c.args.graph.now.manifest.builds c.targets_or_defaults-targets.result.now)

pub returns-clause-marks : goal.returns-clause-marks
unfolding marks_of
returns-clause-marks c =
    let builds = c.args.graph.now.manifest.builds in
    let roots : c.deref.result.now ≡ producers_in c.args.graph.now.manifest.builds (targets_or c.args.graph.now.manifest.defaults c.args.targets.now) =
    c.deref.ensures.value ∙ c.in_ok-roots.ensures ∙ ap (producers_in c.args.graph.now.manifest.builds) c.targets_or_defaults-targets.ensures in
    subst (λ (roots : List ℕ). IfOk c.plan_for.result (λ marks. marks.items ≡ map (mark_for c.args.graph.now.manifest.builds c.args.cells.now.state roots) (edge_numbers c.args.graph.now.manifest.builds))) roots c.plan_for.ensures.marks

pub returns-clause-accepted : goal.returns-clause-accepted
unfolding plan_refusal needs_refusal
returns-clause-accepted c =
    let roots : c.deref.result.now ≡ producers_in c.args.graph.now.manifest.builds (targets_or c.args.graph.now.manifest.defaults c.args.targets.now) =
    c.deref.ensures.value ∙ c.in_ok-roots.ensures ∙ ap (producers_in c.args.graph.now.manifest.builds) c.targets_or_defaults-targets.ensures in
    let running = ap (option_map StillRunning) (sym c.first_running.ensures ∙ c.in_default.is) in
    let unknown = ap (option_map UnknownTarget)
    (ap (λ (targets : List (List ℕ)). position (λ path. not (is_known c.args.graph.now.manifest.builds path)) targets) (sym c.targets_or_defaults-targets.ensures) ∙ sym c.first_unknown.ensures ∙ c.in_default-first_unknown.is) in
    subst (λ (refusal : Option PlanRefusal). OnOk c.plan_for.result (refusal ≡ None))
    (ap (needs_refusal c.args.graph.now.manifest.builds c.args.cells.now.state) roots ∙ sym (rest-of-four _ _ _ _ running unknown)) c.plan_for.ensures.accepted

pub returns-clause-refused : goal.returns-clause-refused
unfolding plan_refusal needs_refusal
returns-clause-refused c =
    let roots : c.deref.result.now ≡ producers_in c.args.graph.now.manifest.builds (targets_or c.args.graph.now.manifest.defaults c.args.targets.now) =
    c.deref.ensures.value ∙ c.in_ok-roots.ensures ∙ ap (producers_in c.args.graph.now.manifest.builds) c.targets_or_defaults-targets.ensures in
    let running = ap (option_map StillRunning) (sym c.first_running.ensures ∙ c.in_default.is) in
    let unknown = ap (option_map UnknownTarget)
    (ap (λ (targets : List (List ℕ)). position (λ path. not (is_known c.args.graph.now.manifest.builds path)) targets) (sym c.targets_or_defaults-targets.ensures) ∙ sym c.first_unknown.ensures ∙ c.in_default-first_unknown.is) in
    subst (λ (refusal : Option PlanRefusal). IfErr c.plan_for.result (λ fault. Explains fault refusal))
    (ap (needs_refusal c.args.graph.now.manifest.builds c.args.cells.now.state) roots ∙ sym (rest-of-four _ _ _ _ running unknown)) c.plan_for.ensures.refused
