use Rattle.std.proofs.Common.{◌≡◌, drop, map}
use Rattle.rev_syntax.specs.Seen.{seen_binding}
use Rattle.rev_manifest.specs.Blocks.{binds}
use Rattle.rev_manifest.proofs.blocks.binds.Given as goal

abbrev pub invariant-loop-binding : goal.invariant-loop-binding
invariant-loop-binding l = binds l.name (map seen_binding (drop l.binding-index l.bindings)) ≡ binds l.name (map seen_binding l.bindings)
