use Rattle.std.proofs.Common.{◌≡◌, ℕ, ◌<◌, ◌+◌, List, ◌∷◌, Option, length, drop, drop-cons, get_or, refl, sym, ap, add-one, arith, ◌∙◌}
use Rattle.rev_accesses.proofs.PlaceLemmas.{drop_whole}
use Rattle.rev_accesses.proofs.ShowsLemmas.{lesser-assoc, lesser-right}
use Rattle.rev_causal.specs.AccessLists.{first_above, lesser, lists_write, nearest_writer, numbers_by}
use Rattle.rev_cells.specs.declared.cell.Cell.{Cell}
use Rattle.rev_cells.specs.Keys.{cell_cmp}
use Rattle.rev_history.proofs.access_updates.nearest_writer.Goals as goal

pub loop-cell-init : goal.loop-cell-init
loop-cell-init c = λ prints named shown are. refl

pub loop-cell-preserved : goal.loop-cell-preserved
loop-cell-preserved c = λ prints named shown are.
    let i : ℕ = c.loop-cell.cell-index in
    let cs : List Cell = c.args.read.now in
    let k : Cell = c.cell-item.result in
    let lt : i < length cs = omega (arith, c.loop-cell-test.true) in
    let rest : Option ℕ = nearest_writer cell_cmp c.args.number (drop (i + 1) cs) named in
    let next : drop i cs ≡ k ∷ drop (i + 1) cs = drop-cons cs i k lt ∙ (λ j. sym c.cell-item.is j ∷ drop (sym (add-one i) j) cs) in
    ap (λ o. lesser o rest) (c.lesser-least.ensures ∙ ap (lesser c.loop-cell.least) (c.first_writer.ensures prints named shown are))
    ∙ lesser-assoc c.loop-cell.least (first_above c.args.number (numbers_by (lists_write cell_cmp k) named)) rest
    ∙ ap (λ ds. lesser c.loop-cell.least (nearest_writer cell_cmp c.args.number ds named)) (sym next)
    ∙ c.loop-cell.invariant prints named shown are

pub returns : goal.returns
returns c = λ prints named shown are.
    sym (lesser-right c.loop-cell.least)
    ∙ ap (λ ds. lesser c.loop-cell.least (nearest_writer cell_cmp c.args.number ds named)) (sym (drop_whole c.args.read.now c.loop-cell.cell-index (omega (arith, c.loop-cell-test.false))))
    ∙ c.loop-cell.invariant prints named shown are
