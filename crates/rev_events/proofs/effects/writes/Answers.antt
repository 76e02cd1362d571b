use Rattle.std.proofs.Common.{◌≡◌, List, ℕ, None, sym, subst, ◌∙◌}
use Rattle.rev_plan.specs.Plan.{plan_refusal}
use Rattle.rev_events.proofs.EffectLemmas.{plan-accepted, finish-accepted}
use Rattle.rev_events.proofs.effects.writes.Goals as goal

pub plan_effect-requires : goal.plan_effect-requires
plan_effect-requires c =
    let manifest = c.args.graph.now.manifest in
    let state = c.args.cells.now.state in
    subst (λ (ts : List (List ℕ)). plan_refusal manifest state ts ≡ None) (sym c.as_slice.ensures) (plan-accepted manifest c.args.cells.now.jobs state c.args.event.now _ c.in-Plan.is c.requires)

pub accepted_listing-requires-clause-listing : goal.accepted_listing-requires-clause-listing
accepted_listing-requires-clause-listing c =
    finish-accepted c.args.graph.now.manifest c.args.cells.now.jobs c.args.cells.now.state c.args.event.now c.in-Finish.out c.in-Finish.stamps c.in-Finish.listing c.in-Some-named.edge c.in-Finish.is
    (sym c.named-in-Finish.ensures.value ∙ c.in-Some-named.is) c.requires
