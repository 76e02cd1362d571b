use Rattle.std.proofs.Common.{◌≡◌, take}
use Rattle.rev_cells.specs.Places.{AreWithin, IsGrown, cells_at}
use Rattle.rev_cells.proofs.cells.Cells.places_of.Given as goal

-- the places are those of the cells so far
abbrev pub invariant-loop-cell : goal.invariant-loop-cell
invariant-loop-cell l = record {
  named : cells_at l.self.places l.places.items ≡ take l.cell-index l.cells;
  within : AreWithin l.self.places l.places.items;
  grown : IsGrown l.fn.self.places l.self.places;
  state : l.self.state ≡ l.fn.self.state;
  jobs : l.self.jobs ≡ l.fn.self.jobs;
  writes : l.self.writes ≡ l.fn.self.writes;
}
