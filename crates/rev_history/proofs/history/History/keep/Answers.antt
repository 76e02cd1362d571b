use Rattle.std.proofs.Common.{◌≡◌, List, false, None, Some, set, sym, refl, ap, subst, ◌∙◌}
use Rattle.rev_causal.proofs.Beside.{IsPlace, place_found}
use Rattle.rev_history.specs.declared.steps.Step.{Step}
use Rattle.rev_history.specs.Sound.{beside_of, kept_prints, timeline_of}
use Rattle.rev_history.specs.Steps.{StepValue, replaced_at, step_value}
use Rattle.rev_cells.specs.declared.cell.Cell.{Cell}
use Rattle.rev_history.proofs.NamedLemmas.{named_grown, placed_grown, placed_set, set_grown}
use Rattle.rev_footprint.specs.Footprint.{footprint}
use Rattle.rev_cells.specs.Effects.{stored_values}
use Rattle.rev_events.specs.Machine.{effect}
use Rattle.rev_history.specs.Timeline.{redo_refusal, placed, is_among}
use Rattle.std.specs.Vec.{with_item}
use Rattle.rev_numbers.specs.Value.{with_number}
use Rattle.rev_numbers.proofs.RisingLemmas.{with_number-apart}
use Rattle.rev_accesses.specs.Value.{Shows}
use Rattle.rev_history.specs.declared.history.History.TheInside.{Inside}
use Rattle.rev_history.proofs.Listed.{print_now, prints_rise, print_apart, put_prints, same_prints, stored_now}
use Rattle.rev_history.specs.Value.{HistoryValue}
use Rattle.rev_history.proofs.Commands.{is_ready}
use Rattle.rev_history.proofs.Effects.{values_found, state_found}
use Rattle.rev_history.proofs.Written.{writes_named}
use Rattle.rev_history.proofs.Fields.{same_sound, put_in, has_index}
use Rattle.rev_history.proofs.history.History.keep.Goals as goal

pub unreachable-requires : goal.unreachable-requires
unreachable-requires c =
    let r = is_ready (timeline_of c.self.inside) c.args.number (ap (λ (h : HistoryValue). redo_refusal h.timeline c.args.number) c.self.view_is ∙ c.requires.free) in
    has_index c.self.inside c.args.number r.event r.at c.in_default.ensures.found

pub write_noted-requires-clause-cells : goal.write_noted-requires-clause-cells
write_noted-requires-clause-cells c =
    let r = is_ready (timeline_of c.self.inside) c.args.number (ap (λ (h : HistoryValue). redo_refusal h.timeline c.args.number) c.self.view_is ∙ c.requires.free) in
    let print : c.args.footprint ≡ footprint c.self.inside.graph.manifest c.self.inside.cells.state r.event = print_now c.self.inside c.self.invariant.sound c.args.self.now.timeline (ap (λ (h : HistoryValue). h.timeline) c.self.view_is) c.args.number r.event c.args.footprint c.requires.print r.at in
    writes_named c.self.inside.graph.manifest c.self.inside.cells.state r.event c.args.writes.items c.args.footprint
    (stored_now c.self.inside c.self.invariant.sound c.args.self.now.timeline (ap (λ (h : HistoryValue). h.timeline) c.self.view_is) c.args.number r.event c.args.writes.items c.requires.writes r.at) print

pub invariant_of-self-in_err-step : goal.invariant_of-self-in_err-step
invariant_of-self-in_err-step c =
    let apart : is_among c.self.inside.kept.items c.args.number ≡ false = (is_ready (timeline_of c.self.inside) c.args.number (ap (λ (h : HistoryValue). redo_refusal h.timeline c.args.number) c.self.view_is ∙ c.requires.free)).apart in
    let after : Inside = record c.self.inside { kept = c.reserve.new.self; accesses = c.write_noted.new.accesses; cells = c.write_noted.new.cells } in
    let beside : beside_of after ≡ beside_of c.self.inside = named_grown c.self.inside.cells.places c.write_noted.new.cells.places c.self.inside.steps.items c.in_err-step.ensures.grown c.self.invariant.placed in
    record {
      placed = placed_grown c.self.inside.cells.places c.write_noted.new.cells.places c.self.inside.steps.items c.in_err-step.ensures.grown c.self.invariant.placed;
      sound = same_sound c.self.inside after c.self.invariant.sound refl refl refl beside c.reserve.ensures.same c.in_err-step.ensures.unchanged c.in_err-step.ensures.jobs refl;
      shown = subst (Shows c.write_noted.new.accesses) (same_prints c.self.inside after refl refl c.reserve.ensures.same)
          (c.in_err-step.ensures.not_noted (kept_prints c.self.inside) (prints_rise c.self.inside c.self.invariant.sound) (print_apart c.self.inside c.args.number apart) c.self.invariant.shown);
      distinct = c.in_err-step.ensures.distinct;
    }

pub invariant_of-self-2 : goal.invariant_of-self-2
invariant_of-self-2 c =
    let free : redo_refusal (timeline_of c.self.inside) c.args.number ≡ None = ap (λ (h : HistoryValue). redo_refusal h.timeline c.args.number) c.self.view_is ∙ c.requires.free in
    let r = is_ready (timeline_of c.self.inside) c.args.number free in
    let written : stored_values c.args.writes.items ≡ effect c.self.inside.graph.manifest c.self.inside.cells.state r.event = stored_now c.self.inside c.self.invariant.sound c.args.self.now.timeline (ap (λ (h : HistoryValue). h.timeline) c.self.view_is) c.args.number r.event c.args.writes.items c.requires.writes r.at in
    let step : Step = c.in_ok-step.step in
    let new : List Cell = c.write_noted.new.cells.places in
    let v : StepValue = step_value new step in
    let print : c.args.footprint ≡ footprint c.self.inside.graph.manifest c.self.inside.cells.state r.event = print_now c.self.inside c.self.invariant.sound c.args.self.now.timeline (ap (λ (h : HistoryValue). h.timeline) c.self.view_is) c.args.number r.event c.args.footprint c.requires.print r.at in
    let place : IsPlace c.args.number c.self.inside.accepted.entries c.in-Some.index = place_found c.args.number c.self.inside.accepted.entries c.in-Some.index (sym c.in-Some.ensures.index) in
    let apart : is_among c.self.inside.kept.items c.args.number ≡ false = r.apart in
    let kept : c.put.new.self.items ≡ placed c.args.number c.self.inside.kept.items = c.in_ok-put.ensures.ok ∙ ap (with_number c.args.number) c.reserve.ensures.same ∙ sym (with_number-apart c.args.number c.self.inside.kept.items apart) in
    let after : Inside = record c.self.inside { steps = with_item c.self.inside.steps c.in-Some.index (Some step); kept = c.put.new.self; accesses = c.write_noted.new.accesses; cells = c.write_noted.new.cells } in
    let steps : beside_of after ≡ set (beside_of c.self.inside) c.in-Some.index (Some v) = set_grown c.self.inside.cells.places new c.self.inside.steps.items step c.in_ok-step.ensures.grown c.self.invariant.placed c.in-Some.index in
    record {
      placed = placed_set new c.self.inside.steps.items c.in-Some.index (Some step) (placed_grown c.self.inside.cells.places new c.self.inside.steps.items c.in_ok-step.ensures.grown c.self.invariant.placed) c.in_ok-step.ensures.placed;
      shown = subst (Shows c.write_noted.new.accesses) (put_prints c.self.inside after c.args.number c.in-Some.index (Some step) c.self.invariant.sound place apart refl refl kept)
          (c.in_ok-step.ensures.noted (kept_prints c.self.inside) (prints_rise c.self.inside c.self.invariant.sound) (print_apart c.self.inside c.args.number apart) c.self.invariant.shown);
      sound = (put_in c.self.inside after c.args.number c.in-Some.index r.event v c.self.invariant.sound place r.at free
          refl refl refl refl steps (c.in_ok-step.ensures.print ∙ print)
          (values_found c.self.inside.graph.manifest c.self.inside.cells.state r.event c.args.writes.items (replaced_at new step) c.requires.writes.once c.in_ok-step.ensures.stored written)
          c.in_ok-step.ensures.former_fits
          (state_found c.self.inside.graph.manifest c.self.inside.cells.state c.write_noted.new.cells.state r.event c.args.writes.items c.in_ok-step.ensures.state written)
          c.in_ok-step.ensures.jobs
          kept).sound;
      distinct = c.in_ok-step.ensures.distinct;
    }
