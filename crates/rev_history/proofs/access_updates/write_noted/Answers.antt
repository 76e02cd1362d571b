use Rattle.std.proofs.Common.{◌≡◌, ℕ, List, length, ap, sym, subst, ◌∙◌, None, Result, Ok, Err}
use Rattle.std.specs.Prelude.{OnErr}
use Rattle.std.specs.List.{AllByRecursion, IsDistinct}
use Rattle.std.specs.Ordering.{eq_by_cmp}
use Rattle.rev_accesses.specs.Value.{Prints, Shows}
use Rattle.rev_causal.specs.History.{IsRising, event_at}
use Rattle.rev_cells.specs.declared.cell.Cell.{Cell}
use Rattle.rev_cells.specs.declared.value.Value.{Value}
use Rattle.rev_cells.specs.Effects.{cells_of, set_all, stored_in, stored_values}
use Rattle.rev_cells.specs.Keys.{cell_cmp}
use Rattle.rev_cells.specs.Places.{AreWithin, IsGrown, cells_at, with_values}
use Rattle.rev_cells.specs.Table.{Table}
use Rattle.rev_cells.specs.Values.{Fits}
use Rattle.rev_cells.proofs.PlacesLemmas.{length_cells}
use Rattle.rev_footprint.specs.Value.{FootprintValue}
use Rattle.rev_history.specs.Sound.{IsPlacedIn}
use Rattle.rev_history.specs.Steps.{footprint_by_places}
use Rattle.rev_history.proofs.NotedLemmas.{as_many_values, with_parts}
use Rattle.rev_history.proofs.access_updates.write_noted.Goals as goal

on_err : {A E : Type 0} (r : Result A E) (P : Type 0) → P → OnErr r P
on_err (Ok a) P p = tt
on_err (Err e) P p = p

pub exchange_at-requires-clause-within : goal.exchange_at-requires-clause-within
exchange_at-requires-clause-within c = subst (AreWithin c.places_of.new.cells.places) (sym c.written.ensures) c.in_ok-places.ensures.places.written

pub exchange_at-requires-clause-many : goal.exchange_at-requires-clause-many
exchange_at-requires-clause-many c =
    ap (λ (vs : List Value). length vs) c.in_ok-replaced.ensures ∙ as_many_values c.args.writes.items
    ∙ ap (λ (cs : List Cell). length cs) (c.requires.cells ∙ sym (ap (λ (f : FootprintValue). f.writes) c.in_ok-places.ensures.places.is))
    ∙ length_cells c.places_of.new.cells.places c.in_ok-places.places.written c.in_ok-places.ensures.places.written
    ∙ ap (λ (ps : List ℕ). length ps) (sym c.written.ensures)

pub exchange_at-requires-clause-fits : goal.exchange_at-requires-clause-fits
exchange_at-requires-clause-fits c =
    let cells : cells_of c.args.writes.items ≡ cells_at c.places_of.new.cells.places c.written.result.now =
    c.requires.cells ∙ sym (ap (λ (f : FootprintValue). f.writes) c.in_ok-places.ensures.places.is) ∙ ap (cells_at c.places_of.new.cells.places) (sym c.written.ensures) in
    subst (AllByRecursion (λ (w : Cell × Value). Fits w.0 w.1)) (sym (with_parts c.args.writes.items) ∙ (λ i. with_values (cells i) (sym c.in_ok-replaced.ensures i))) c.requires.fits

pub returns-clause-state : goal.returns-clause-state
returns-clause-state c =
    let cells : cells_at c.places_of.new.cells.places c.written.result.now ≡ cells_of c.args.writes.items =
    ap (cells_at c.places_of.new.cells.places) c.written.ensures ∙ ap (λ (f : FootprintValue). f.writes) c.in_ok-places.ensures.places.is ∙ sym c.requires.cells in
    ap (λ (t : Table). t.state) c.exchange_at.ensures.after
    ∙ (λ i. set_all (c.in_ok-places.ensures.state i) (with_values (cells i) (c.in_ok-replaced.ensures i)))
    ∙ ap (set_all c.args.cells.now.state) (with_parts c.args.writes.items)

pub returns-clause-jobs : goal.returns-clause-jobs
returns-clause-jobs c = ap (λ (t : Table). t.jobs) c.exchange_at.ensures.after ∙ c.in_ok-places.ensures.jobs

pub returns-clause-print : goal.returns-clause-print
returns-clause-print c = ap (λ (t : Table). footprint_by_places t.places c.in_ok-places.places) c.exchange_at.ensures.after ∙ c.in_ok-places.ensures.places.is

pub returns-clause-placed : goal.returns-clause-placed
returns-clause-placed c =
    subst (λ (t : Table). IsPlacedIn t.places (record { places = c.in_ok-places.places; replaced = c.exchange_at.new.values })) (sym c.exchange_at.ensures.after)
    (record {
      read = c.in_ok-places.ensures.places.read;
      written = c.in_ok-places.ensures.places.written;
      distinct = c.in_ok-places.ensures.places.distinct;
      first = c.in_ok-places.ensures.places.first;
      many = c.exchange_at.ensures.many ∙ ap (λ (vs : List Value). length vs) c.in_ok-replaced.ensures ∙ as_many_values c.args.writes.items
          ∙ ap (λ (cs : List Cell). length cs) (c.requires.cells ∙ sym (ap (λ (f : FootprintValue). f.writes) c.in_ok-places.ensures.places.is))
          ∙ length_cells c.places_of.new.cells.places c.in_ok-places.places.written c.in_ok-places.ensures.places.written;
    })

pub returns-clause-grown : goal.returns-clause-grown
returns-clause-grown c = subst (λ (t : Table). IsGrown c.args.cells.now.places t.places) (sym c.exchange_at.ensures.after) c.in_ok-places.ensures.grown

pub returns-clause-distinct : goal.returns-clause-distinct
returns-clause-distinct c = subst (λ (t : Table). IsDistinct (eq_by_cmp cell_cmp) t.places) (sym c.exchange_at.ensures.after) c.in_ok-places.ensures.distinct

pub returns-clause-former_fits : goal.returns-clause-former_fits
returns-clause-former_fits c =
    subst (λ (t : Table). AllByRecursion (λ (w : Cell × Value). Fits w.0 w.1) (with_values (cells_at t.places c.in_ok-places.places.written) c.exchange_at.new.values.items)) (sym c.exchange_at.ensures.after)
    (subst (λ (ps : List ℕ). AllByRecursion (λ (w : Cell × Value). Fits w.0 w.1) (with_values (cells_at c.places_of.new.cells.places ps) c.exchange_at.new.values.items)) c.written.ensures c.exchange_at.ensures.former_fits)

pub returns-clause-stored : goal.returns-clause-stored
returns-clause-stored c = λ distinct.
    let cells : cells_at c.places_of.new.cells.places c.written.result.now ≡ cells_of c.args.writes.items =
    ap (cells_at c.places_of.new.cells.places) c.written.ensures ∙ ap (λ (f : FootprintValue). f.writes) c.in_ok-places.ensures.places.is ∙ sym c.requires.cells in
    ap (λ (t : Table). stored_values (with_values (cells_at t.places c.in_ok-places.places.written) c.exchange_at.new.values.items)) c.exchange_at.ensures.after
    ∙ ap (λ (ps : List ℕ). stored_values (with_values (cells_at c.places_of.new.cells.places ps) c.exchange_at.new.values.items)) (sym c.written.ensures)
    ∙ c.exchange_at.ensures.stored (subst (IsDistinct (eq_by_cmp cell_cmp)) (sym cells) distinct)
    ∙ (λ i. stored_in (c.in_ok-places.ensures.state i) (with_values (cells i) (c.in_ok-replaced.ensures i)))
    ∙ ap (stored_in c.args.cells.now.state) (with_parts c.args.writes.items)

pub returns-in_err-put-clause-not_noted : goal.returns-in_err-put-clause-not_noted
returns-in_err-put-clause-not_noted c =
    on_err c.from_residual-in_err-put.result
    ((prints : Prints) → IsRising prints → event_at c.args.number prints ≡ None → Shows c.args.accesses.now prints → Shows c.put.new.self prints)
    (λ prints rising none shown. c.in_err-put.ensures.err prints none shown)
