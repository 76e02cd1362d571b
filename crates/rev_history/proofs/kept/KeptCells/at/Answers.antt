use Rattle.std.proofs.Common.{◌<◌, List, length, slice_get, ap, ◌∙◌, arith}
use Rattle.rev_cells.specs.declared.cell.Cell.{Cell}
use Rattle.rev_cells.proofs.PlacesLemmas.{cell_there, place_within}
use Rattle.rev_history.proofs.KeptLemmas.{cell_read, none_within, within_places}
use Rattle.rev_history.proofs.kept.KeptCells.at.Goals as goal

pub bounds-self-inside-index : goal.bounds-self-inside-index
bounds-self-inside-index c = within_places c.self.inside.cells.now.places c.self.inside.places.now c.args.self.now c.args.index c.self.invariant c.self.view_is c.requires

pub offset_bounds-self-inside-index : goal.offset_bounds-self-inside-index
offset_bounds-self-inside-index c =
    let lt : c.args.index < length c.self.inside.places.now = within_places c.self.inside.cells.now.places c.self.inside.places.now c.args.self.now c.args.index c.self.invariant c.self.view_is c.requires in
    let room = c.self.told.1 in
    omega (arith, lt, room)

pub unreachable-requires : goal.unreachable-requires
unreachable-requires c =
    let lt : c.args.index < length c.self.inside.places.now = within_places c.self.inside.cells.now.places c.self.inside.places.now c.args.self.now c.args.index c.self.invariant c.self.view_is c.requires in
    none_within c.self.inside.cells.now.places _ (place_within c.self.inside.cells.now.places c.self.inside.places.now c.args.index c.self.invariant lt) c.in-None.ensures.place

pub returns : goal.returns
returns c =
    let lt : c.args.index < length c.self.inside.places.now = within_places c.self.inside.cells.now.places c.self.inside.places.now c.args.self.now c.args.index c.self.invariant c.self.view_is c.requires in
    cell_read c.args.self.now c.args.index c.in-Some.cell.now
    (c.in-Some.ensures.place
    ∙ cell_there c.self.inside.cells.now.places c.self.inside.places.now c.args.index c.self.invariant lt
    ∙ ap (λ (xs : List Cell). slice_get xs c.args.index) c.self.view_is)
