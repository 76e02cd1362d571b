use Rattle.std.proofs.Common.{◌≡◌, map, drop}
use Rattle.rev_syntax.specs.Seen.{seen_binding}
use Rattle.rev_scopes.specs.Scopes.{variable_in}
use Rattle.rev_manifest.specs.Made.{all_made, left_of}
use Rattle.rev_manifest.proofs.made.left_of_bindings.Given as goal

abbrev pub invariant-loop-binding : goal.invariant-loop-binding
invariant-loop-binding l =
    left_of l.left (all_made (variable_in l.scopes l.scope) (map seen_binding (drop l.binding-index l.bindings)))
    ≡ left_of l.room (all_made (variable_in l.scopes l.scope) (map seen_binding l.bindings))
