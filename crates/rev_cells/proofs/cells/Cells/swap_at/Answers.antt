use Rattle.std.proofs.Common.{◌≡◌, ℕ, ◌<◌, List, Some, ap, sym, ◌∙◌, subst, cond, IfSome, length, slice_get}
use Rattle.std.specs.FinMap as map
use Rattle.std.specs.List.{IsDistinct}
use Rattle.std.specs.Map.{keys_of, lookup}
use Rattle.std.specs.Ordering.{eq_by_cmp}
use Rattle.indexmap.specs.IndexMap.{set_value_at}
use Rattle.rev_cells.specs.declared.cell.Cell.{Cell}
use Rattle.rev_cells.specs.declared.value.Value.{Value}
use Rattle.rev_cells.specs.Keys.{cell_cmp}
use Rattle.rev_cells.specs.Same.{cell_eq}
use Rattle.rev_cells.specs.State.{default_or, value_at}
use Rattle.rev_cells.specs.Values.{Fits, unless_default}
use Rattle.rev_cells.specs.Table.{Table}
use Rattle.rev_cells.proofs.EntryLemmas.{AllFit-update, fits_at, get-state_of-bare, table-write, value_at-state_of}
use Rattle.rev_cells.proofs.PlacesLemmas.{IsPlaced, is_placed, one_cell, value_within}
use Rattle.rev_cells.proofs.cells.Cells.swap_at.Goals as goal

-- the cell at the place is that of the entry
same_cell : (es : List (Cell × Value)) (i : ℕ) (v : Value) (p : IsPlaced es i v) (t : Table) → keys_of es ≡ t.places → (k : Cell) → slice_get t.places i ≡ Some k → p.cell ≡ k
same_cell es i v p t view k at = one_cell (keys_of es) i p.cell k p.key (ap (λ (ks : List Cell). slice_get ks i) view ∙ at)

pub unreachable-requires : goal.unreachable-requires
unreachable-requires c =
    value_within c.self.inside.entries.entries c.args.place (subst (λ (t : Table). c.args.place < length t.places) (sym c.self.view_is) c.requires.within) c.in_default.ensures.value

pub invariant_of-self : goal.invariant_of-self
invariant_of-self c =
    let es : List (Cell × Value) = c.self.inside.entries.entries in
    let p : IsPlaced es c.args.place c.in-Some.slot.now = is_placed c.self.inside.entries c.args.place c.in-Some.slot.now c.in-Some.ensures.unique c.in-Some.ensures.value in
    let fits : Fits p.cell c.args.value = c.requires.fits p.cell (subst (λ (t : Table). slice_get t.places c.args.place ≡ Some p.cell) c.self.view_is p.key) in
    record {
      distinct = subst (IsDistinct (eq_by_cmp cell_cmp)) (sym (p.keys c.replace-former.new.dest)) c.self.invariant.distinct;
      fit = AllFit-update es (set_value_at es c.args.place c.replace-former.new.dest) p.cell c.args.value c.self.invariant.fit fits
          (λ q. p.written c.replace-former.new.dest q ∙ ap (λ v. cond (cell_eq p.cell q) (Some v) (lookup (cell_eq q) es)) c.replace-former.ensures.after);
    }

pub returns-clause-former : goal.returns-clause-former
returns-clause-former c = λ k at.
    let es : List (Cell × Value) = c.self.inside.entries.entries in
    let p : IsPlaced es c.args.place c.in-Some.slot.now = is_placed c.self.inside.entries c.args.place c.in-Some.slot.now c.in-Some.ensures.unique c.in-Some.ensures.value in
    let same : p.cell ≡ k = same_cell es c.args.place c.in-Some.slot.now p c.args.self.now (ap (λ (t : Table). t.places) c.self.view_is) k at in
    c.replace-former.ensures.value ∙ ap (default_or p.cell) (sym p.found) ∙ sym (value_at-state_of es p.cell c.self.invariant.fit)
    ∙ ap (λ (t : Table). value_at t.state p.cell) c.self.view_is ∙ ap (value_at c.args.self.now.state) same

pub returns-clause-after : goal.returns-clause-after
returns-clause-after c = λ k at.
    let es : List (Cell × Value) = c.self.inside.entries.entries in
    let p : IsPlaced es c.args.place c.in-Some.slot.now = is_placed c.self.inside.entries c.args.place c.in-Some.slot.now c.in-Some.ensures.unique c.in-Some.ensures.value in
    let same : p.cell ≡ k = same_cell es c.args.place c.in-Some.slot.now p c.args.self.now (ap (λ (t : Table). t.places) c.self.view_is) k at in
    table-write c.self.inside.jobs c.self.inside.writes _ es (set_value_at es c.args.place c.replace-former.new.dest) k c.args.value
    c.args.self.now c.self.view_is (p.keys c.replace-former.new.dest)
    (λ q. p.written c.replace-former.new.dest q
    ∙ (λ j. cond (cell_eq (same j) q) (Some (c.replace-former.ensures.after j)) (lookup (cell_eq q) es)))
    c.one_write_more-self-inside.ensures

pub returns-clause-former_fits : goal.returns-clause-former_fits
returns-clause-former_fits c = λ k at.
    let es : List (Cell × Value) = c.self.inside.entries.entries in
    let p : IsPlaced es c.args.place c.in-Some.slot.now = is_placed c.self.inside.entries c.args.place c.in-Some.slot.now c.in-Some.ensures.unique c.in-Some.ensures.value in
    let same : p.cell ≡ k = same_cell es c.args.place c.in-Some.slot.now p c.args.self.now (ap (λ (t : Table). t.places) c.self.view_is) k at in
    subst (Fits k) (sym c.replace-former.ensures.value)
    (subst (λ (x : Cell). Fits x c.in-Some.slot.now) same (subst (λ o. IfSome o (Fits p.cell)) p.found (fits_at es c.self.invariant.fit p.cell)))

pub returns-clause-stored : goal.returns-clause-stored
returns-clause-stored c = λ k at.
    subst (λ (t : Table). map.get t.state k ≡ unless_default (value_at t.state k)) c.self.view_is (get-state_of-bare c.self.inside.entries.entries k)
    ∙ ap unless_default (sym (returns-clause-former c k at))
