use Rattle.std.proofs.Common.{List, ℕ, bytes_eq}
use Rattle.std.specs.Map.{lookup}
use Rattle.rev_clashes.proofs.ClashLemmas.{AreBelow, IsFirst}
use Rattle.rev_clashes.proofs.sharing.clashes.Given as goal

abbrev pub invariant-loop-place : goal.invariant-loop-place
invariant-loop-place l = record {
  firsts : (path : List ℕ) → IsFirst l.kind l.builds l.place path (lookup (bytes_eq path) l.firsts.entries);
  clashes : AreBelow l.kind l.builds l.place l.clashes.items;
}
