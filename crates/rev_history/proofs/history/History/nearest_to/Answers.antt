use Rattle.std.proofs.Common.{◌≡◌, List, None, Some, refl, sym, ap, ◌∙◌}
use Rattle.rev_footprint.specs.Value.{FootprintValue}
use Rattle.rev_history.specs.Sound.{beside_of, kept_prints}
use Rattle.rev_history.specs.Steps.{Placed, footprint_at, step_beside}
use Rattle.rev_history.specs.Timeline.{kept_footprint, nearest_conflict}
use Rattle.rev_history.specs.Value.{HistoryValue}
use Rattle.rev_history.proofs.Fields.{no_print, print_found}
use Rattle.rev_history.proofs.Listed.{prints_numbers, prints_rise}
use Rattle.rev_history.proofs.NamedLemmas.{none_named, placed_beside, some_named}
use Rattle.rev_history.proofs.NearestLemmas.{nearest_step}
use Rattle.rev_history.proofs.history.History.nearest_to.Goals as goal

none-some : (f : FootprintValue) → None ≡ Some f → ⊥
none-some f h = cc

pub returns-in_err-_place-clause-same : goal.returns-in_err-_place-clause-same
returns-in_err-_place-clause-same c = λ f at.
    absurd (none-some f (no_print c.self.inside c.args.self.now.timeline (ap (λ (h : HistoryValue). h.timeline) c.self.view_is) c.args.other c.as_slice.result.now c.as_slice.ensures.same c.in_err-_place.ensures.absent ∙ at))

pub returns-in_err-step-clause-same : goal.returns-in_err-step-clause-same
returns-in_err-step-clause-same c = λ f at.
    absurd (none-some f (
    none_named c.self.inside.cells.places c.args.other c.self.inside.accepted.entries c.self.inside.steps.items (c.in_err-step.ensures ∙ ap (λ (xs : List Placed). step_beside c.args.other c.self.inside.accepted.entries xs) c.deref.ensures.value)
    ∙ print_found c.self.inside c.self.invariant.sound c.args.self.now.timeline (ap (λ (h : HistoryValue). h.timeline) c.self.view_is) c.args.other c.as_slice.result.now (beside_of c.self.inside) c.as_slice.ensures.same c.in_ok-_place.ensures.among refl
    ∙ at))

found : (c : goal.After-nearest_by) → Some (footprint_at c.self.inside.cells.places c.in_ok-step.step.now) ≡ kept_footprint c.args.self.now.timeline c.args.other
found c =
    some_named c.self.inside.cells.places c.args.other c.self.inside.accepted.entries c.self.inside.steps.items c.in_ok-step.step.now (c.in_ok-step.ensures ∙ ap (λ (xs : List Placed). step_beside c.args.other c.self.inside.accepted.entries xs) c.deref.ensures.value)
    ∙ print_found c.self.inside c.self.invariant.sound c.args.self.now.timeline (ap (λ (h : HistoryValue). h.timeline) c.self.view_is) c.args.other c.as_slice.result.now (beside_of c.self.inside) c.as_slice.ensures.same c.in_ok-_place.ensures.among refl

pub returns-clause-same : goal.returns-clause-same
returns-clause-same c = λ f at.
    let one : Some (footprint_at c.self.inside.cells.places c.in_ok-step.step.now) ≡ Some f = found c ∙ at in
    let same : footprint_at c.self.inside.cells.places c.in_ok-step.step.now ≡ f = cc in
    nearest_step c.self.inside c.self.invariant c.args.self.now.timeline (ap (λ (h : HistoryValue). h.timeline) c.self.view_is) c.args.number c.in_ok-step.step.now
    (placed_beside c.self.inside.cells.places c.args.other c.self.inside.accepted.entries c.self.inside.steps.items c.in_ok-step.step.now c.self.invariant.placed
    (c.in_ok-step.ensures ∙ ap (λ (xs : List Placed). step_beside c.args.other c.self.inside.accepted.entries xs) c.deref.ensures.value))
    c.nearest_by.result
    (c.nearest_by.ensures (kept_prints c.self.inside) (prints_rise c.self.inside c.self.invariant.sound) (prints_numbers c.self.inside c.self.invariant.sound ∙ sym c.as_slice-2.ensures.same) c.self.invariant.shown)
    ∙ ap (λ (g : FootprintValue). nearest_conflict c.args.number g c.args.self.now.timeline) same

pub returns-clause-none : goal.returns-clause-none
returns-clause-none c = λ none. absurd (none-some (footprint_at c.self.inside.cells.places c.in_ok-step.step.now) (sym none ∙ sym (found c)))
