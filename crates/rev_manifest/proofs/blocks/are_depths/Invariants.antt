use Rattle.std.proofs.Common.{◌≡◌, drop, map}
use Rattle.rev_syntax.specs.Seen.{seen_binding}
use Rattle.rev_manifest.specs.Blocks.{are_depths}
use Rattle.rev_manifest.proofs.blocks.are_depths.Given as goal

abbrev pub invariant-loop-binding : goal.invariant-loop-binding
invariant-loop-binding l = are_depths (map seen_binding (drop l.binding-index l.bindings)) ≡ are_depths (map seen_binding l.bindings)
