use Rattle.std.proofs.Common.{◌≡◌, ◌≤◌, length, map, drop}
use Rattle.rev_syntax.specs.Seen.{seen_binding}
use Rattle.rev_scopes.specs.Scopes.{variable_in}
use Rattle.rev_manifest.specs.Blocks.{kept_values, values_of, has_large}
use Rattle.rev_manifest.proofs.blocks.block_of.Given as goal

abbrev pub invariant-loop-left : goal.invariant-loop-left
invariant-loop-left l =
    record {
      within : l.left ≤ length l.bindings;
      values : l.block.values ≡ kept_values (variable_in l.scopes l.scope) (map seen_binding (drop l.left l.bindings));
      large : l.block.is_large ≡ has_large (values_of (variable_in l.scopes l.scope) (map seen_binding (drop l.left l.bindings)));
    }

abbrev pub decreases-loop-left : goal.decreases-loop-left
decreases-loop-left l = l.left
