use Rattle.std.proofs.Common.{ℕ, List, sym, ap, ap₂, ◌∙◌}
use Rattle.rev_causal.specs.AccessLists.{first_above, lesser}
use Rattle.rev_causal.specs.KeptHistory.{nearest_in}
use Rattle.rev_causal.specs.Store.{Footprint, Footprint.Whole, Footprint.Cells}
use Rattle.rev_causal.proofs.AccessLists.{nearest_is_by_lists}
use Rattle.rev_cells.specs.declared.cell.Cell.{Cell}
use Rattle.rev_cells.specs.Keys.{cell_cmp}
use Rattle.rev_cells.proofs.EntryLemmas.{cells_total}
use Rattle.rev_history.proofs.Listed.{print_whole}
use Rattle.rev_history.proofs.PairedLemmas.{nearest_listed, wholes_same}
use Rattle.rev_history.proofs.access_updates.nearest.Goals as goal

pub returns-then-whole : goal.returns-then-whole
returns-then-whole c = λ prints named rising numbers shown are.
    c.first_above.ensures ∙ ap (first_above c.args.number) (sym numbers) ∙ sym (nearest_is_by_lists cells_total c.args.number Whole named rising)
    ∙ ap (λ (f : Footprint Cell). nearest_in cell_cmp c.args.number f named) (sym (print_whole c.args.footprint.now (sym c.whole.ensures ∙ c.if-whole.true)))

pub returns : goal.returns
returns c = λ prints named rising numbers shown are.
    c.lesser-2.ensures
    ∙ ap₂ lesser (c.first_whole-whole.ensures ∙ ap (first_above c.args.number) (shown.whole ∙ sym (wholes_same c.args.cells.now.places are.distinct prints named are.paired)))
    (c.lesser.ensures ∙ ap₂ lesser (c.nearest_user-used.ensures prints named shown are) (c.nearest_writer-source.ensures prints named shown are))
    ∙ sym (nearest_is_by_lists cells_total c.args.number (Cells c.reads.result.now c.writes.result.now) named rising)
    ∙ nearest_listed c.args.number c.args.footprint.now c.reads.result.now c.writes.result.now named (sym c.whole.ensures ∙ c.if-whole.false) c.reads.ensures.same c.writes.ensures.same
