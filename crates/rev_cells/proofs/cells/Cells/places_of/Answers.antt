use Rattle.std.proofs.Common.{ℕ, ◌<◌, ◌++◌, ◌∷◌, [], List, length, take, arith, refl, sym, ap, ap₂, subst, ◌∙◌}
use Rattle.std.specs.List.{cons_option}
use Rattle.std.proofs.lemmas.List.{take_more}
use Rattle.std.proofs.lemmas.Option.{slice_get_within}
use Rattle.rev_cells.specs.declared.cell.Cell.{Cell}
use Rattle.rev_cells.specs.Places.{AreWithin, cells_at}
use Rattle.rev_cells.proofs.PlacesLemmas.{cells_append, cells_grown, grown_not, grown_then, within_end, within_grown}
use Rattle.rev_cells.proofs.cells.Cells.places_of.Goals as goal

pub loop-cell-init : goal.loop-cell-init
loop-cell-init c = record {
  named = ap (cells_at c.args.self.now.places) c.in_ok-places.ensures.items;
  within = subst (AreWithin c.args.self.now.places) (sym c.in_ok-places.ensures.items) tt;
  grown = grown_not c.args.self.now.places c.args.self.now.places refl;
  state = refl;
  jobs = refl;
  writes = refl;
}

pub loop-cell-preserved : goal.loop-cell-preserved
loop-cell-preserved c =
    let i : ℕ = c.loop-cell.cell-index in
    let old : List Cell = c.loop-cell.self.places in
    let new : List Cell = c.place_or_new.new.self.places in
    let lt : i < length c.args.cells.now = omega (arith, c.loop-cell-test.true) in record {
      named = ap (cells_at new) c.in_ok-push.ensures.items ∙ cells_append new c.loop-cell.places.items (c.in_ok-place.place ∷ [])
          ∙ ap₂ (λ (xs ys : List Cell). xs ++ ys) (cells_grown old new c.loop-cell.places.items c.in_ok-place.ensures.grown c.loop-cell.invariant.within ∙ c.loop-cell.invariant.named) (ap (λ o. cons_option o []) c.in_ok-place.ensures.place)
          ∙ ap (λ (k : Cell). take i c.args.cells.now ++ k ∷ []) c.cell-item.is
          ∙ sym (take_more c.args.cells.now i c.cell-item.result lt);
      within = subst (AreWithin new) (sym c.in_ok-push.ensures.items)
          (within_end new c.loop-cell.places.items c.in_ok-place.place (within_grown old new c.loop-cell.places.items c.in_ok-place.ensures.grown c.loop-cell.invariant.within)
          (slice_get_within new c.in_ok-place.place c.cell-item.result c.in_ok-place.ensures.place));
      grown = grown_then c.args.self.now.places old new c.loop-cell.invariant.grown c.in_ok-place.ensures.grown;
      state = c.in_ok-place.ensures.state ∙ c.loop-cell.invariant.state;
      jobs = c.in_ok-place.ensures.jobs ∙ c.loop-cell.invariant.jobs;
      writes = c.in_ok-place.ensures.writes ∙ c.loop-cell.invariant.writes;
    }

pub returns-in_err-place-clause-grown : goal.returns-in_err-place-clause-grown
returns-in_err-place-clause-grown c = grown_then c.args.self.now.places c.loop-cell.self.places c.place_or_new.new.self.places c.loop-cell.invariant.grown c.in_err-place.ensures.grown
