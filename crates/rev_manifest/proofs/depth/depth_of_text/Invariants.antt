use Rattle.std.proofs.Common.{◌≡◌, ◌≤◌, length, false}
use Rattle.rev_scopes.specs.Scopes.{variable_in}
use Rattle.rev_scopes.specs.Expansion.{expanded}
use Rattle.rev_manifest.specs.Names.{is_empty}
use Rattle.rev_manifest.specs.Depths.{depth_from}
use Rattle.rev_manifest.proofs.depth.depth_of_text.Given as goal

abbrev pub invariant-loop-piece : goal.invariant-loop-piece
invariant-loop-piece l =
    record {
      some : is_empty l.text ≡ false;
      value : depth_from l.number (expanded (variable_in l.scopes l.scope) l.rest) ≡ depth_from 0 (expanded (variable_in l.scopes l.scope) l.text);
      small : l.number ≤ 1000000;
    }

abbrev pub decreases-loop-piece : goal.decreases-loop-piece
decreases-loop-piece l = length l.rest
