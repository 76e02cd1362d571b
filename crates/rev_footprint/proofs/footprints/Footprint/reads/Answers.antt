use Rattle.std.proofs.Common.{◌≡◌, List, length, take, ap, sym, subst}
use Rattle.std.proofs.lemmas.List.{length-take-le}
use Rattle.rev_cells.specs.declared.cell.Cell.{Cell}
use Rattle.rev_footprint.specs.Value.{FootprintValue}
use Rattle.rev_footprint.proofs.footprints.Footprint.reads.Goals as goal

pub returns-clause-first : goal.returns-clause-first
returns-clause-first c =
    let cells = c.self.inside.cells.items in
    let many = c.self.inside.written in
    subst (λ (f : FootprintValue). take (length f.writes) c.as_slice.result.now ≡ f.writes) c.self.view_is
    (subst (λ (lent : List Cell). take (length (take many cells)) lent ≡ take many cells) (sym c.as_slice.ensures.value)
    (ap (λ n. take n cells) (length-take-le many cells c.self.invariant.within)))
