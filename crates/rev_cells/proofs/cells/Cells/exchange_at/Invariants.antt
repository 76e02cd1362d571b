use Rattle.std.proofs.Common.{◌≡◌, length, take, drop}
use Rattle.rev_cells.specs.Places.{cells_at, with_values}
use Rattle.rev_cells.proofs.Exchanges.{IsBetween}
use Rattle.rev_cells.proofs.cells.Cells.exchange_at.Given as goal

abbrev pub invariant-loop-index : goal.invariant-loop-index
invariant-loop-index l = record {
  between : IsBetween l.fn.self l.self (with_values (cells_at l.fn.self.places l.places) l.fn.values.items)
      (take l.index (with_values (cells_at l.fn.self.places l.places) l.values.items)) (drop l.index (with_values (cells_at l.fn.self.places l.places) l.values.items));
  as_many : length l.values.items ≡ length l.fn.values.items;
  places : l.self.places ≡ l.fn.self.places;
}
