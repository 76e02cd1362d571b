use Rattle.std.proofs.Common.{◌≡◌, ◌<◌, ◌≤◌, ◌+◌, ℕ, List, [], Some, refl, length, get_or, slice_get, take, drop, ap, sym, subst, ◌∙◌, append-nil, length-set, arith}
use Rattle.std.specs.List.{IsDistinct}
use Rattle.std.specs.Ordering.{eq_by_cmp}
use Rattle.rev_cells.specs.declared.cell.Cell.{Cell}
use Rattle.rev_cells.specs.declared.value.Value.{Value}
use Rattle.rev_cells.specs.Effects.{stored_values}
use Rattle.rev_cells.specs.Keys.{cell_cmp}
use Rattle.rev_cells.specs.Places.{cells_at, with_values}
use Rattle.rev_cells.specs.Table.{Table}
use Rattle.rev_cells.proofs.Exchanges.{IsBetween, WriteFits, between_first, between_last, between_place, between_step}
use Rattle.rev_cells.proofs.PlacesLemmas.{cell_there, cells_with, get_with, has_places, length_cells, length_with, place_within, set_with, some_within}
use Rattle.rev_cells.proofs.cells.Cells.exchange_at.Goals as goal

pub loop-index-init : goal.loop-index-init
loop-index-init c = record {
  between = between_first c.args.self.now (with_values (cells_at c.args.self.now.places c.args.places.now) c.args.values.now.items)
      (has_places c.args.self.now c.args.places.now c.args.values.now.items c.requires.within) c.requires.fits;
  as_many = refl;
  places = refl;
}

pub exchange_one_at-requires-clause-within : goal.exchange_one_at-requires-clause-within
exchange_one_at-requires-clause-within c =
    let i : ℕ = c.loop-index.index in
    let ps : List ℕ = c.args.places.now in
    let lt : i < length ps = omega (arith, c.loop-index-test.true) in
    subst (λ (cs : List Cell). get_or ps i 0 < length cs) (sym c.loop-index.invariant.places) (place_within c.args.self.now.places ps i c.requires.within lt)

pub exchange_one_at-requires-clause-fits : goal.exchange_one_at-requires-clause-fits
exchange_one_at-requires-clause-fits c = λ k at.
    let i : ℕ = c.loop-index.index in
    let ps : List ℕ = c.args.places.now in
    let lt : i < length ps = omega (arith, c.loop-index-test.true) in
    let cs : List Cell = cells_at c.args.self.now.places ps in
    let vs : List Value = c.loop-index.values.items in
    let v : Value = c.index_mut.result.now in
    let there : slice_get cs i ≡ Some k = sym (cell_there c.args.self.now.places ps i c.requires.within lt) ∙ ap (λ (ks : List Cell). slice_get ks (get_or ps i 0)) (sym c.loop-index.invariant.places) ∙ at in
    let many : length vs ≡ length cs = c.loop-index.invariant.as_many ∙ c.requires.many ∙ sym (length_cells c.args.self.now.places ps c.requires.within) in
    let placed : length (with_values cs vs) ≡ length cs = length_with cs vs many in
    let within : length cs ≡ length ps = length_cells c.args.self.now.places ps c.requires.within in
    subst WriteFits (sym (get_with cs vs i k v many there c.index_mut.ensures.value))
    (between_place c.args.self.now c.loop-index.self (with_values cs c.args.values.now.items) (with_values cs vs) i (k, v) (omega (arith, lt, placed, within)) c.loop-index.invariant.between).1

pub loop-index-preserved : goal.loop-index-preserved
loop-index-preserved c =
    let i : ℕ = c.loop-index.index in
    let ps : List ℕ = c.args.places.now in
    let lt : i < length ps = omega (arith, c.loop-index-test.true) in
    let cs : List Cell = cells_at c.args.self.now.places ps in
    let vs : List Value = c.loop-index.values.items in
    let v : Value = c.index_mut.result.now in
    let w : Value = c.exchange_one_at.new.value in
    let some = some_within c.args.self.now.places (get_or ps i 0) (place_within c.args.self.now.places ps i c.requires.within lt) in
    let k : Cell = some.0 in
    let at : slice_get c.loop-index.self.places (get_or ps i 0) ≡ Some k = ap (λ (ks : List Cell). slice_get ks (get_or ps i 0)) c.loop-index.invariant.places ∙ some.1 in
    let there : slice_get cs i ≡ Some k = sym (cell_there c.args.self.now.places ps i c.requires.within lt) ∙ some.1 in
    let many : length vs ≡ length cs = c.loop-index.invariant.as_many ∙ c.requires.many ∙ sym (length_cells c.args.self.now.places ps c.requires.within) in
    let placed : length (with_values cs vs) ≡ length cs = length_with cs vs many in
    let within : length cs ≡ length ps = length_cells c.args.self.now.places ps c.requires.within in
    let after = c.exchange_one_at.ensures.after k at in
    let between = between_step c.args.self.now c.loop-index.self c.exchange_one_at.new.self (with_values cs c.args.values.now.items) (with_values cs vs) i (k, v) (k, w)
    (omega (arith, lt, placed, within)) c.loop-index.invariant.between (get_with cs vs i k v many there c.index_mut.ensures.value) after
    (ap (λ (x : Value). (k, x)) (c.exchange_one_at.ensures.former k at)) (c.exchange_one_at.ensures.stored k at) (c.exchange_one_at.ensures.former_fits k at) in
    record {
      between = subst (λ (ws : List (Cell × Value)). IsBetween c.args.self.now c.exchange_one_at.new.self (with_values cs c.args.values.now.items) (take (i + 1) ws) (drop (i + 1) ws)) (sym (set_with cs vs i k w there)) between;
      as_many = length-set vs i w ∙ c.loop-index.invariant.as_many;
      places = ap (λ (t : Table). t.places) after ∙ c.loop-index.invariant.places;
    }

done : (c : goal.After-loop-index) → IsBetween c.args.self.now c.loop-index.self (with_values (cells_at c.args.self.now.places c.args.places.now) c.args.values.now.items) (with_values (cells_at c.args.self.now.places c.args.places.now) c.loop-index.values.items) []
done c =
    let i : ℕ = c.loop-index.index in
    let ps : List ℕ = c.args.places.now in
    let cs : List Cell = cells_at c.args.self.now.places ps in
    let vs : List Value = c.loop-index.values.items in
    let many : length vs ≡ length cs = c.loop-index.invariant.as_many ∙ c.requires.many ∙ sym (length_cells c.args.self.now.places ps c.requires.within) in
    let placed : length (with_values cs vs) ≡ length cs = length_with cs vs many in
    let within : length cs ≡ length ps = length_cells c.args.self.now.places ps c.requires.within in
    let le : length (with_values cs vs) ≤ i = omega (arith, c.loop-index-test.false, placed, within) in
    between_last c.args.self.now c.loop-index.self (with_values cs c.args.values.now.items) (with_values cs vs) i le c.loop-index.invariant.between

pub returns-clause-after : goal.returns-clause-after
returns-clause-after c = (done c).after

pub returns-clause-former : goal.returns-clause-former
returns-clause-former c = sym (append-nil (with_values (cells_at c.args.self.now.places c.args.places.now) c.loop-index.values.items)) ∙ (done c).former

pub returns-clause-former_fits : goal.returns-clause-former_fits
returns-clause-former_fits c = (done c).former_fits

pub returns-clause-stored : goal.returns-clause-stored
returns-clause-stored c = λ d.
    let cs : List Cell = cells_at c.args.self.now.places c.args.places.now in
    let many : length c.args.values.now.items ≡ length cs = c.requires.many ∙ sym (length_cells c.args.self.now.places c.args.places.now c.requires.within) in
    sym (append-nil (stored_values (with_values cs c.loop-index.values.items)))
    ∙ ((done c).stored (subst (IsDistinct (eq_by_cmp cell_cmp)) (sym (cells_with cs c.args.values.now.items many)) d)).1
