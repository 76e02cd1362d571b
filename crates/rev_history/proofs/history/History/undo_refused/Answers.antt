use Rattle.std.proofs.Common.{◌≡◌, true, ℕ, List, Some, None, IsSome, ap, subst, sym, refl, ◌∙◌, rules}
use Rattle.rev_history.specs.Sound.{beside_of, kept_prints}
use Rattle.rev_history.specs.Steps.{Placed, footprint_at, step_beside}
use Rattle.rev_history.specs.Timeline.{event_at, is_among}
use Rattle.rev_history.specs.Value.{HistoryValue}
use Rattle.rev_history.proofs.Fields.{has_print, undo_refusal_found}
use Rattle.rev_history.proofs.Listed.{prints_numbers, prints_rise}
use Rattle.rev_history.proofs.NamedLemmas.{none_named, placed_beside, some_named}
use Rattle.rev_history.proofs.NearestLemmas.{nearest_step}
use Rattle.rev_history.proofs.history.History.undo_refused.Goals as goal

pub unreachable-requires : goal.unreachable-requires
unreachable-requires c =
    has_print c.self.inside c.self.invariant.sound c.args.number (subst (λ (ks : List ℕ). is_among ks c.args.number ≡ true) c.as_slice.ensures.same c.in-Some.ensures.among)
    (none_named c.self.inside.cells.places c.args.number c.self.inside.accepted.entries c.self.inside.steps.items
    (c.in_default-step_of.ensures ∙ ap (λ (xs : List Placed). step_beside c.args.number c.self.inside.accepted.entries xs) c.deref.ensures.value))

pub returns-in_err-dependent : goal.returns-in_err-dependent
returns-in_err-dependent c =
    let some : IsSome (event_at c.args.self.now.timeline c.args.number) = search rules in
    let f = footprint_at c.self.inside.cells.places c.in-Some-step_of.step.now in
    c.from_residual.ensures
    ∙ undo_refusal_found c.self.inside c.self.invariant.sound c.args.self.now.timeline (ap (λ (h : HistoryValue). h.timeline) c.self.view_is) c.args.number f c.as_slice.result.now (beside_of c.self.inside)
    c.as_slice.ensures.same c.in-Some.ensures.among refl (some_named c.self.inside.cells.places c.args.number c.self.inside.accepted.entries c.self.inside.steps.items c.in-Some-step_of.step.now (c.in-Some-step_of.ensures ∙ ap (λ (xs : List Placed). step_beside c.args.number c.self.inside.accepted.entries xs) c.deref.ensures.value)) some None
    (nearest_step c.self.inside c.self.invariant c.args.self.now.timeline (ap (λ (h : HistoryValue). h.timeline) c.self.view_is) c.args.number c.in-Some-step_of.step.now
    (placed_beside c.self.inside.cells.places c.args.number c.self.inside.accepted.entries c.self.inside.steps.items c.in-Some-step_of.step.now c.self.invariant.placed
    (c.in-Some-step_of.ensures ∙ ap (λ (xs : List Placed). step_beside c.args.number c.self.inside.accepted.entries xs) c.deref.ensures.value)) None
    (c.in_err-dependent.ensures (kept_prints c.self.inside) (prints_rise c.self.inside c.self.invariant.sound) (prints_numbers c.self.inside c.self.invariant.sound ∙ sym c.as_slice-2.ensures.same) c.self.invariant.shown))

pub returns : goal.returns
returns c =
    let some : IsSome (event_at c.args.self.now.timeline c.args.number) = search rules in
    let f = footprint_at c.self.inside.cells.places c.in-Some-step_of.step.now in
    undo_refusal_found c.self.inside c.self.invariant.sound c.args.self.now.timeline (ap (λ (h : HistoryValue). h.timeline) c.self.view_is) c.args.number f c.as_slice.result.now (beside_of c.self.inside)
    c.as_slice.ensures.same c.in-Some.ensures.among refl (some_named c.self.inside.cells.places c.args.number c.self.inside.accepted.entries c.self.inside.steps.items c.in-Some-step_of.step.now (c.in-Some-step_of.ensures ∙ ap (λ (xs : List Placed). step_beside c.args.number c.self.inside.accepted.entries xs) c.deref.ensures.value)) some (Some c.in_ok-dependent.dependent)
    (nearest_step c.self.inside c.self.invariant c.args.self.now.timeline (ap (λ (h : HistoryValue). h.timeline) c.self.view_is) c.args.number c.in-Some-step_of.step.now
    (placed_beside c.self.inside.cells.places c.args.number c.self.inside.accepted.entries c.self.inside.steps.items c.in-Some-step_of.step.now c.self.invariant.placed
    (c.in-Some-step_of.ensures ∙ ap (λ (xs : List Placed). step_beside c.args.number c.self.inside.accepted.entries xs) c.deref.ensures.value)) (Some c.in_ok-dependent.dependent)
    (c.in_ok-dependent.ensures (kept_prints c.self.inside) (prints_rise c.self.inside c.self.invariant.sound) (prints_numbers c.self.inside c.self.invariant.sound ∙ sym c.as_slice-2.ensures.same) c.self.invariant.shown))
