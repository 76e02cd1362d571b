use Rattle.std.proofs.Common.{◌≡◌, ◌<◌, ◌++◌, ◌∷◌, [], Some, List, ℕ, ap, sym, subst, ◌∙◌, refl, nat_eq}
use Rattle.std.specs.Map.{lookup}
use Rattle.indexmap.specs.IndexMap.{IndexMap, insert_entry}
use Rattle.indexmap.proofs.CallerLemmas.{insert_entry-new}
use Rattle.rev_causal.proofs.Chosen.{lookup-above}
use Rattle.rev_events.specs.declared.event.Event.{Event}
use Rattle.rev_history.specs.declared.steps.Step.{Step}
use Rattle.rev_history.specs.Timeline.{Numbered, last_of, accepted_as}
use Rattle.rev_history.specs.Value.{HistoryValue}
use Rattle.rev_history.proofs.Effects.{values_found, state_found}
use Rattle.rev_history.proofs.Written.{writes_named}
use Rattle.rev_accesses.specs.Value.{Shows}
use Rattle.rev_history.specs.declared.history.History.TheInside.{Inside}
use Rattle.rev_history.specs.Sound.{ArePlacedIn, beside_of, kept_prints}
use Rattle.rev_history.specs.Steps.{StepValue, named, replaced_at, step_value}
use Rattle.rev_cells.specs.declared.cell.Cell.{Cell}
use Rattle.rev_numbers.specs.Value.{with_number}
use Rattle.rev_numbers.proofs.RisingLemmas.{with_number-last}
use Rattle.rev_history.proofs.OrderLemmas.{kept_below}
use Rattle.rev_history.proofs.NamedLemmas.{end_grown, named_grown, placed_end, placed_grown}
use Rattle.rev_history.proofs.Listed.{prints_rise, print_missing, accepted_prints, same_prints}
use Rattle.rev_history.proofs.Fields.{same_sound, accepted_sound, accept_refusal_found}
use Rattle.rev_history.proofs.history.History.accept.Goals as goal

-- an insert under a number above all others
inserted : {S : Type 0} (m : IndexMap ℕ Event S) (es fs : Numbered) (n : ℕ) (e event : Event) → fs ≡ insert_entry nat_eq m.entries n e → m.entries ≡ es → e ≡ event → last_of es < n → fs ≡ es ++ (n, event) ∷ []
inserted m es fs n e event is before same above =
    is ∙ insert_entry-new nat_eq m n e (ap (lookup (nat_eq n)) before ∙ lookup-above n es above)
    ∙ (λ i. before i ++ (n, same i) ∷ [])

pub write_noted-requires-clause-cells : goal.write_noted-requires-clause-cells
write_noted-requires-clause-cells c =
    writes_named c.self.inside.graph.manifest c.self.inside.cells.state c.args.event.now c.in_ok-writes.writes.items c.in_ok-footprint.footprint c.in_ok-writes.ensures.writes c.in_ok-footprint.ensures

pub invariant_of-self-in_err-step : goal.invariant_of-self-in_err-step
invariant_of-self-in_err-step c =
    let above : last_of c.self.inside.accepted.entries < c.args.number = subst (λ (h : HistoryValue). last_of h.timeline.accepted < c.args.number) (sym c.self.view_is) c.requires in
    let after : Inside = record c.self.inside { accepted = c.reserve.new.self; steps = c.reserve-2.new.self; kept = c.reserve-3.new.self; accesses = c.write_noted.new.accesses; cells = c.write_noted.new.cells } in
    let beside : beside_of after ≡ beside_of c.self.inside =
    ap (named c.write_noted.new.cells.places) c.reserve-2.ensures.items ∙ named_grown c.self.inside.cells.places c.write_noted.new.cells.places c.self.inside.steps.items c.in_err-step.ensures.grown c.self.invariant.placed in
    record {
      placed = subst (ArePlacedIn c.write_noted.new.cells.places) (sym c.reserve-2.ensures.items) (placed_grown c.self.inside.cells.places c.write_noted.new.cells.places c.self.inside.steps.items c.in_err-step.ensures.grown c.self.invariant.placed);
      sound = same_sound c.self.inside after c.self.invariant.sound refl refl c.reserve.ensures.entries beside c.reserve-3.ensures.same c.in_err-step.ensures.unchanged c.in_err-step.ensures.jobs refl;
      shown = subst (Shows c.write_noted.new.accesses) (same_prints c.self.inside after c.reserve.ensures.entries c.reserve-2.ensures.items c.reserve-3.ensures.same)
          (c.in_err-step.ensures.not_noted (kept_prints c.self.inside) (prints_rise c.self.inside c.self.invariant.sound) (print_missing c.self.inside c.self.invariant.sound c.args.number above) c.self.invariant.shown);
      distinct = c.in_err-step.ensures.distinct;
    }

pub invariant_of-self-2 : goal.invariant_of-self-2
invariant_of-self-2 c =
    let above : last_of c.self.inside.accepted.entries < c.args.number = subst (λ (h : HistoryValue). last_of h.timeline.accepted < c.args.number) (sym c.self.view_is) c.requires in
    let step : Step = c.in_ok-step.step in
    let new : List Cell = c.write_noted.new.cells.places in
    let v : StepValue = step_value new step in
    let accepted : c.insert.new.self.entries ≡ c.self.inside.accepted.entries ++ (c.args.number, c.args.event.now) ∷ [] =
    inserted c.reserve.new.self c.self.inside.accepted.entries c.insert.new.self.entries c.args.number c.in_ok-event.event c.args.event.now c.in_ok-insert.ensures.entries c.reserve.ensures.entries c.in_ok-event.ensures above in
    let kept : c.put.new.self.items ≡ c.self.inside.kept.items ++ c.args.number ∷ [] = c.in_ok-put.ensures.ok ∙ ap (with_number c.args.number) c.reserve-3.ensures.same ∙ with_number-last c.args.number c.self.inside.kept.items (kept_below c.self.inside c.self.invariant.sound c.args.number above) in
    let left : c.push.new.self.items ≡ c.self.inside.steps.items ++ Some step ∷ [] = c.in_ok-push.ensures.items ∙ ap (λ ss. ss ++ Some step ∷ []) c.reserve-2.ensures.items in
    let after : Inside = record c.self.inside { accepted = c.insert.new.self; steps = c.push.new.self; kept = c.put.new.self; accesses = c.write_noted.new.accesses; cells = c.write_noted.new.cells; last = c.args.number } in
    let steps : beside_of after ≡ beside_of c.self.inside ++ Some v ∷ [] =
    ap (named new) left ∙ end_grown c.self.inside.cells.places new c.self.inside.steps.items step c.in_ok-step.ensures.grown c.self.invariant.placed in
    record {
      placed = subst (ArePlacedIn new) (sym left) (placed_end new c.self.inside.steps.items step (placed_grown c.self.inside.cells.places new c.self.inside.steps.items c.in_ok-step.ensures.grown c.self.invariant.placed) c.in_ok-step.ensures.placed);
      shown = subst (Shows c.write_noted.new.accesses) (accepted_prints c.self.inside after c.args.number c.args.event.now (Some step) c.self.invariant.sound above accepted kept left)
          (c.in_ok-step.ensures.noted (kept_prints c.self.inside) (prints_rise c.self.inside c.self.invariant.sound) (print_missing c.self.inside c.self.invariant.sound c.args.number above) c.self.invariant.shown);
      sound = accepted_sound c.self.inside after c.args.number c.args.event.now v c.self.invariant.sound above c.in_ok-writes.ensures.accepted refl refl
          accepted kept steps
          (c.in_ok-step.ensures.print ∙ c.in_ok-footprint.ensures)
          (values_found c.self.inside.graph.manifest c.self.inside.cells.state c.args.event.now c.in_ok-writes.writes.items (replaced_at new step) c.in_ok-writes.ensures.once c.in_ok-step.ensures.stored c.in_ok-writes.ensures.writes)
          c.in_ok-step.ensures.former_fits
          (state_found c.self.inside.graph.manifest c.self.inside.cells.state c.write_noted.new.cells.state c.args.event.now c.in_ok-writes.writes.items c.in_ok-step.ensures.state c.in_ok-writes.ensures.writes)
          c.in_ok-step.ensures.jobs refl;
      distinct = c.in_ok-step.ensures.distinct;
    }

pub returns-clause-ok : goal.returns-clause-ok
returns-clause-ok c =
    let above : last_of c.self.inside.accepted.entries < c.args.number = subst (λ (h : HistoryValue). last_of h.timeline.accepted < c.args.number) (sym c.self.view_is) c.requires in
    let accepted : c.insert.new.self.entries ≡ c.self.inside.accepted.entries ++ (c.args.number, c.args.event.now) ∷ [] =
    inserted c.reserve.new.self c.self.inside.accepted.entries c.insert.new.self.entries c.args.number c.in_ok-event.event c.args.event.now c.in_ok-insert.ensures.entries c.reserve.ensures.entries c.in_ok-event.ensures above in
    let kept : c.put.new.self.items ≡ c.self.inside.kept.items ++ c.args.number ∷ [] =
    c.in_ok-put.ensures.ok ∙ ap (with_number c.args.number) c.reserve-3.ensures.same ∙ with_number-last c.args.number c.self.inside.kept.items (kept_below c.self.inside c.self.invariant.sound c.args.number above) in
    (λ i. record { manifest = c.self.inside.graph.manifest; jobs = c.self.inside.opening.jobs; opening = c.self.inside.opening.state; accepted = accepted i; kept = kept i })
    ∙ ap (λ (h : HistoryValue). accepted_as c.args.number c.args.event.now h.timeline) c.self.view_is

pub returns-clause-free : goal.returns-clause-free
returns-clause-free c =
    sym (accept_refusal_found c.self.inside c.self.invariant.sound c.args.self.now.timeline (ap (λ (h : HistoryValue). h.timeline) c.self.view_is) c.args.event.now) ∙ c.in_ok-writes.ensures.accepted
