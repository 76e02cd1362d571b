use Rattle.std.proofs.Common.{◌≡◌, ◌<◌, ◌+◌, ℕ, Some, slice_get, length}
use Rattle.std.specs.List.{AllByRecursion}
use Rattle.rev_workers.specs.Waiting.{IsOutOfWay}
use Rattle.rev_workers.specs.Tracks.{fresh}
use Rattle.rev_workers.proofs.held.Held.new.Given as goal

abbrev pub invariant-loop-number : goal.invariant-loop-number
invariant-loop-number g l =
    record {
      parts : l.rest.parts + l.number ≡ l.fn.desk.lanes;
      nothing : l.rest.amount ≡ 0;
      first : l.number ≡ 0 → l.book.total ≡ 0;
      total : 0 < l.number → l.book.total ≡ l.entries;
      standings : length l.standings.items ≡ l.number;
      out : AllByRecursion IsOutOfWay l.standings.items;
      count : length l.lanes.items ≡ l.number;
      lanes : (k : ℕ) → k < l.number → slice_get l.lanes.items k ≡ Some (fresh l.entries k);
    }
