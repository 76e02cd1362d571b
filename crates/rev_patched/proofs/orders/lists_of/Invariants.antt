use Rattle.std.proofs.Common.{◌≡◌, length, take}
use Rattle.rev_patched.specs.Same.{AreListed}
use Rattle.rev_patched.proofs.orders.lists_of.Given as goal

abbrev pub invariant-loop-order : goal.invariant-loop-order
invariant-loop-order l = record {
  each : length l.lists.items ≡ l.edges;
  listed : AreListed l.edges (take l.order-index l.orders) l.lists.items;
}
