use Rattle.std.proofs.Common.{Bool, ap, ◌∙◌}
use Rattle.std.specs.List.{list_any}
use Rattle.rev_cells.specs.declared.cell.Cell.{Cell}
use Rattle.rev_cells.proofs.EntryLemmas.{cell_eq-is, cell_eq_equiv}
use Rattle.rev_footprint.proofs.listed.is_among.Goals as goal

pub returns : goal.returns
returns c =
    let cells = c.args.cells.now in
    let cell = c.args.cell.now in
    c.contains.ensures.value ∙ (λ i. list_any (λ y. cell_eq_equiv.symm y cell i) cells)
    ∙ ap (λ (e : Cell → Cell → Bool). list_any (e cell) cells) cell_eq-is
