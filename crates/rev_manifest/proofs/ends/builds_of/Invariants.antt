use Rattle.std.proofs.Common.{◌≡◌, ℕ, ◌+◌, ◌-◌, ◌≤◌, List, ◌++◌, map, length}
use Rattle.std.specs.Vec.Iter.{into_iter_items}
use Rattle.rev_manifest.specs.Answers.{onto_list}
use Rattle.rev_manifest.specs.Declarations.{DeclaredEdgeValue}
use Rattle.rev_manifest.specs.Manifest.{builds_of}
use Rattle.rev_manifest.specs.Held.{seen_edge}
use Rattle.rev_manifest.proofs.ends.builds_of.Given as goal

abbrev pub invariant-loop-edge : goal.invariant-loop-edge
invariant-loop-edge l =
    record {
      within : l.left ≤ l.room;
      ended :
          (more : ℕ) (others : List DeclaredEdgeValue)
          → builds_of l.scopes l.pools (l.room - l.left + more) (map seen_edge l.fn.edges.items ++ others)
          ≡ onto_list l.builds.items (builds_of l.scopes l.pools more (map seen_edge (into_iter_items l.rest) ++ others));
    }

abbrev pub decreases-loop-edge : goal.decreases-loop-edge
decreases-loop-edge l = length (into_iter_items l.rest)
