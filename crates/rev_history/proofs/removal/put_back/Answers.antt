use Rattle.std.proofs.Common.{ℕ, List, length, get_or, set, sym, ap, subst, ◌∙◌}
use Rattle.std.specs.List.{AllByRecursion}
use Rattle.rev_cells.specs.declared.cell.Cell.{Cell}
use Rattle.rev_cells.specs.declared.value.Value.{Value}
use Rattle.rev_cells.specs.Places.{AreWithin, cells_at, with_values}
use Rattle.rev_cells.specs.Table.{written_all}
use Rattle.rev_cells.specs.Values.{Fits}
use Rattle.std.specs.Vec.{with_item}
use Rattle.rev_causal.proofs.Beside.{place_found}
use Rattle.rev_history.proofs.RemovalLemmas.{index_here, placed_here, step_here, ready_here, within_here, out_of}
use Rattle.rev_history.proofs.removal.put_back.Goals as goal

pub unreachable-requires : goal.unreachable-requires
unreachable-requires c = index_here c.requires c.in_default.ensures.found

pub unreachable-requires-in_default-take : goal.unreachable-requires-in_default-take
unreachable-requires-in_default-take c =
    step_here c.requires c.in-Some.index c.index_mut.result.now (place_found c.args.number c.args.accepted.now.entries c.in-Some.index (sym c.in-Some.ensures.index)) c.index_mut.ensures.value c.in_default-take.ensures.value

pub exchange_at-requires-clause-within : goal.exchange_at-requires-clause-within
exchange_at-requires-clause-within c =
    let place = place_found c.args.number c.args.accepted.now.entries c.in-Some.index (sym c.in-Some.ensures.index) in
    subst (AreWithin c.args.cells.now.places) (sym c.written.ensures)
    (placed_here c.requires c.in-Some.index c.in-Some-take.step (within_here c.requires c.in-Some.index place)
    (c.in-Some-take.ensures.value ∙ c.index_mut.ensures.value ∙ ap (get_or c.args.steps.now.items c.in-Some.index) (sym c.in-Some-take.ensures.value))).written

pub exchange_at-requires-clause-many : goal.exchange_at-requires-clause-many
exchange_at-requires-clause-many c =
    let place = place_found c.args.number c.args.accepted.now.entries c.in-Some.index (sym c.in-Some.ensures.index) in
    (placed_here c.requires c.in-Some.index c.in-Some-take.step (within_here c.requires c.in-Some.index place)
    (c.in-Some-take.ensures.value ∙ c.index_mut.ensures.value ∙ ap (get_or c.args.steps.now.items c.in-Some.index) (sym c.in-Some-take.ensures.value))).many
    ∙ ap (λ (ps : List ℕ). length ps) (sym c.written.ensures)

pub exchange_at-requires-clause-fits : goal.exchange_at-requires-clause-fits
exchange_at-requires-clause-fits c =
    subst (λ (ps : List ℕ). AllByRecursion (λ (w : Cell × Value). Fits w.0 w.1) (with_values (cells_at c.args.cells.now.places ps) c.in-Some-take.step.replaced.items)) (sym c.written.ensures)
    (ready_here c.requires c.in-Some.index c.in-Some-take.step (place_found c.args.number c.args.accepted.now.entries c.in-Some.index (sym c.in-Some.ensures.index))
    (c.in-Some-take.ensures.value ∙ c.index_mut.ensures.value ∙ ap (get_or c.args.steps.now.items c.in-Some.index) (sym c.in-Some-take.ensures.value)))

pub returns : goal.returns
returns c =
    out_of c.args.number c.in-Some.index c.in-Some-take.step c.args.accepted.now.entries c.args.steps.now.items c.args.cells.now (with_item c.args.steps.now c.in-Some.index c.take.new.self).items c.exchange_at.new.self
    (place_found c.args.number c.args.accepted.now.entries c.in-Some.index (sym c.in-Some.ensures.index))
    (c.in-Some-take.ensures.value ∙ c.index_mut.ensures.value ∙ ap (get_or c.args.steps.now.items c.in-Some.index) (sym c.in-Some-take.ensures.value))
    (ap (set c.args.steps.now.items c.in-Some.index) c.take.ensures.after)
    (c.exchange_at.ensures.after
    ∙ ap (λ (ps : List ℕ). written_all c.args.cells.now (with_values (cells_at c.args.cells.now.places ps) c.in-Some-take.step.replaced.items)) c.written.ensures)
