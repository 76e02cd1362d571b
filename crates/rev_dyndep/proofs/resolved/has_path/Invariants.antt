use Rattle.std.proofs.Common.{◌≡◌, drop, bytes_eq}
use Rattle.std.specs.List.{list_any}
use Rattle.rev_dyndep.proofs.resolved.has_path.Given as goal

abbrev pub invariant-loop-other : goal.invariant-loop-other
invariant-loop-other l = list_any (bytes_eq l.path) (drop l.other-index l.paths) ≡ list_any (bytes_eq l.path) l.paths
