use Rattle.std.proofs.Common.{ℕ, ◌⊎◌, take, Contains}
use Rattle.rev_ranks.specs.Sets.{IsMarked, IsMarking}
use Rattle.rev_ranks.proofs.searches.mark_each.Given as goal

abbrev pub invariant-loop-node : goal.invariant-loop-node
invariant-loop-node l = record {
  marking : IsMarking (take l.node-index l.nodes) l.initial.marks.items l.initial.open_nodes.items l.marks.items l.open_nodes.items;
  opens : (n : ℕ) → Contains l.open_nodes.items n → Contains l.initial.open_nodes.items n ⊎ (IsMarked l.initial.marks.items n → ⊥);
}
