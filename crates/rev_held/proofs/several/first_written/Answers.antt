use Rattle.std.proofs.Common.{false, ◌||◌, ◌∙◌}
use Rattle.rev_causal.specs.Store.{among}
use Rattle.rev_cells.specs.declared.cell.Cell.{Cell}
use Rattle.rev_cells.specs.Keys.{cell_cmp}
use Rattle.rev_held.proofs.SeveralLemmas.{found-at-place, length-place}
use Rattle.rev_held.proofs.several.first_written.Goals as goal

pub returns : goal.returns
returns c =
    let keys = c.args.set.now.keys in
    let one = c.first_place-place.ensures (λ (w : Cell). false) (c.len.ensures.len ∙ length-place keys) in
    let two = c.first_place-place-2.ensures (λ (w : Cell). false || among cell_cmp c.writes.result w) one in
    c.get_index.ensures.key
    ∙ found-at-place c.args.other.now keys c.writes.result c.reads.result c.first_place-place-2.result c.writes.ensures.same c.reads.ensures.same two
