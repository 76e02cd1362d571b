use Rattle.std.proofs.Common.{List, refl, ap, ◌∙◌}
use Rattle.rev_history.specs.Sound.{beside_of}
use Rattle.rev_history.specs.Steps.{Placed, step_beside}
use Rattle.rev_history.specs.Value.{HistoryValue}
use Rattle.rev_history.proofs.Fields.{no_print, print_found}
use Rattle.rev_history.proofs.NamedLemmas.{none_named, placed_beside, some_named}
use Rattle.rev_history.proofs.history.History.footprint_of.Goals as goal

pub returns-in_err-_place : goal.returns-in_err-_place
returns-in_err-_place c =
    c.from_residual.ensures
    ∙ no_print c.self.inside c.args.self.now.timeline (ap (λ (h : HistoryValue). h.timeline) c.self.view_is) c.args.number c.as_slice.result.now c.as_slice.ensures.same c.in_err-_place.ensures.absent

pub returns : goal.returns
returns c =
    some_named c.self.inside.cells.places c.args.number c.self.inside.accepted.entries c.self.inside.steps.items c.in_ok-step.step.now (c.in_ok-step.ensures ∙ ap (λ (xs : List Placed). step_beside c.args.number c.self.inside.accepted.entries xs) c.deref.ensures.value)
    ∙ print_found c.self.inside c.self.invariant.sound c.args.self.now.timeline (ap (λ (h : HistoryValue). h.timeline) c.self.view_is) c.args.number c.as_slice.result.now (beside_of c.self.inside) c.as_slice.ensures.same c.in_ok-_place.ensures.among refl

pub returns-in_err-step : goal.returns-in_err-step
returns-in_err-step c =
    c.from_residual-in_err-step.ensures
    ∙ none_named c.self.inside.cells.places c.args.number c.self.inside.accepted.entries c.self.inside.steps.items (c.in_err-step.ensures ∙ ap (λ (xs : List Placed). step_beside c.args.number c.self.inside.accepted.entries xs) c.deref.ensures.value)
    ∙ print_found c.self.inside c.self.invariant.sound c.args.self.now.timeline (ap (λ (h : HistoryValue). h.timeline) c.self.view_is) c.args.number c.as_slice.result.now (beside_of c.self.inside) c.as_slice.ensures.same c.in_ok-_place.ensures.among refl

pub invariant_of-result : goal.invariant_of-result
invariant_of-result c =
    placed_beside c.self.inside.cells.places c.args.number c.self.inside.accepted.entries c.self.inside.steps.items c.in_ok-step.step.now c.self.invariant.placed
    (c.in_ok-step.ensures ∙ ap (λ (xs : List Placed). step_beside c.args.number c.self.inside.accepted.entries xs) c.deref.ensures.value)
