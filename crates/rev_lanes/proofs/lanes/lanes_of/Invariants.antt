use Rattle.std.proofs.Common.{◌≡◌, ◌≤◌, ℕ, Some, length, slice_get, slice_index}
use Rattle.rev_lanes.specs.Lanes.{AreApart, AreWithin}
use Rattle.rev_lanes.specs.declared.span.Span.{Span}
use Rattle.rev_lanes.proofs.lanes.lanes_of.Given as goal

-- the lanes of the spans so far; the end that is noted of a lane is that of its last span or a later one
abbrev pub invariant-loop-span : goal.invariant-loop-span
invariant-loop-span l = record {
  each : length l.of.items ≡ l.span-index;
  within : AreWithin (length l.filled.ends.items) l.of.items;
  ended : (i lane : ℕ) (one : Span) → slice_get l.of.items i ≡ Some lane → slice_get l.spans i ≡ Some one
      → one.to ≤ slice_index l.filled.ends.items lane;
  apart : AreApart l.spans l.of.items;
}
