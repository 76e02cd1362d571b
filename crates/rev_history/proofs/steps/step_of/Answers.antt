use Rattle.std.proofs.Common.{◌≡◌, ◌<◌, ℕ, false, List, Option, Some, None, is_some, length, get_or, refl, sym, ap, ◌∙◌, nat_eq, arith}
use Rattle.std.specs.Map.{lookup}
use Rattle.std.proofs.lemmas.Option.{slice_get-get_or}
use Rattle.rev_causal.specs.History.{event_at, numbered_by}
use Rattle.rev_causal.proofs.Beside.{IsPlace, none_beside, place_found, place_within, beside_at}
use Rattle.rev_causal.proofs.Chosen.{lookup-event_at}
use Rattle.rev_events.specs.declared.event.Event.{Event}
use Rattle.rev_history.specs.Steps.{Placed, step_in}
use Rattle.rev_history.proofs.steps.step_of.Goals as goal

none_is : {A : Type 0} (o : Option A) → is_some o ≡ false → o ≡ None
none_is None h = refl
none_is (Some a) h = cc

pub returns-in_default : goal.returns-in_default
returns-in_default c =
    ap step_in (sym (none_beside c.args.number c.args.accepted.now.entries c.args.steps.now
    (sym (lookup-event_at c.args.number c.args.accepted.now.entries) ∙ none_is (lookup (nat_eq c.args.number) c.args.accepted.now.entries) (sym c.in_default.ensures.found))))

-- the step at an event's place
step_found : (n : ℕ) (es : List (ℕ × Event)) (steps : List Placed) (i : ℕ) (d : Placed) → IsPlace n es i → length steps ≡ length es → d ≡ get_or steps i d → event_at n (numbered_by es steps) ≡ Some d
step_found n es steps i d place same is =
    let within : i < length es = place_within n es i place in
    let lt : i < length steps = omega arith in
    beside_at n es steps i place ∙ slice_get-get_or steps i d lt ∙ ap Some (sym is)

pub returns-in-Some-steps : goal.returns-in-Some-steps
returns-in-Some-steps c =
    let place : IsPlace c.args.number c.args.accepted.now.entries c.in-Some.index = place_found c.args.number c.args.accepted.now.entries c.in-Some.index (sym c.in-Some.ensures.index) in
    sym (ap step_in (step_found c.args.number c.args.accepted.now.entries c.args.steps.now c.in-Some.index c.index-steps-index.result place c.requires c.index-steps-index.is)
    ∙ ap (λ (o : Placed). step_in (Some o)) c.in-Some-steps.is)

pub returns-in-None : goal.returns-in-None
returns-in-None c =
    let place : IsPlace c.args.number c.args.accepted.now.entries c.in-Some.index = place_found c.args.number c.args.accepted.now.entries c.in-Some.index (sym c.in-Some.ensures.index) in
    sym (ap step_in (step_found c.args.number c.args.accepted.now.entries c.args.steps.now c.in-Some.index c.index-steps-index.result place c.requires c.index-steps-index.is)
    ∙ ap (λ (o : Placed). step_in (Some o)) c.in-None.is)
