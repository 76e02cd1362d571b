use Rattle.std.proofs.Common.{◌≡◌, ◌<◌, ◌+◌, List, length, take, IfOk, ap, subst, ◌∙◌, sym, arith}
use Rattle.std.proofs.lemmas.Grind.{common_steps}
use Rattle.rev_cells.specs.declared.cell.Cell.{Cell}
use Rattle.rev_listing.proofs.CellLemmas.{AreThere, all_there, none_there, place_within, puts_cell, skips_default, told_there}
use Rattle.rev_listing.specs.Listing.{cells_told, is_told}
use Rattle.rev_listing.proofs.LineLemmas.{cells_from}
use Rattle.rev_listing.proofs.nondefault_cells.cells_told.Goals as goal
use Rattle.rev_listing.proofs.nondefault_cells.cells_told.Goals.{then-is_told+in_ok-copy+in_ok-insert, else-is_told}

pub loop-place-init : goal.loop-place-init
loop-place-init c = none_there _ _ c.new-there.ensures.empty

pub loop-place-preserved : goal.loop-place-preserved
loop-place-preserved c =
    let p = is_told c.args.kinds c.args.cells.now.state in
    let places = c.args.cells.now.places in
    let i = c.loop-place.place in
    let cell = c.in-Some.cell.now in
    elim c.if-is_told.branch [
      | then-is_told+in_ok-copy+in_ok-insert w ↦
          puts_cell p places i cell _ c.loop-place.there.entries c.if-is_told.there.entries c.in-Some.ensures.place (sym c.is_told.ensures ∙ w.if-is_told.true) w.in_ok-copy.ensures (ap (λ m. m.entries) w.there-is ∙ w.in_ok-insert.ensures.entries) c.loop-place.invariant
      | else-is_told w ↦
          let P : List (Cell × Unit {0}) → Type 0 = λ es. AreThere p (take (i + 1) places) es in
          subst P (sym (ap (λ m. m.entries) w.there-is)) (skips_default p places i cell c.loop-place.there.entries c.in-Some.ensures.place (sym c.is_told.ensures ∙ w.if-is_told.false) c.loop-place.invariant)
    ]

pub returns : goal.returns
returns c =
    let collected : IfOk c.collect.result (λ there. there.items ≡ c.loop-place.there.entries) = grind (arith, common_steps) in
    let k = c.args.kinds in
    let s = c.args.cells.now.state in
    let whole = all_there s (is_told k s) (told_there k s) c.args.cells.now.places c.loop-place.place c.loop-place.there.entries c.in_default.ensures.place c.in_default.ensures.all c.loop-place.invariant in
    cells_from c.collect.result c.loop-place.there.entries (cells_told k s) collected whole

pub loop-place-smaller : goal.loop-place-smaller
loop-place-smaller c =
    let within : c.loop-place.place < length c.args.cells.now.places = place_within c.args.cells.now.places c.loop-place.place c.in-Some.cell.now c.in-Some.ensures.place in
    omega (arith, within)

pub overflow_add-place : goal.overflow_add-place
overflow_add-place c =
    let within : c.loop-place.place < length c.args.cells.now.places = place_within c.args.cells.now.places c.loop-place.place c.in-Some.cell.now c.in-Some.ensures.place in
    omega (arith, within, c.in-Some.ensures.few)
