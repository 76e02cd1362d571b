use Rattle.std.proofs.Common.{ℕ, Contains}
use Rattle.std.specs.Prelude.{◌↔◌}
use Rattle.rev_unlisted.specs.Found.{IsReadAt}
use Rattle.rev_unlisted.proofs.ReadLemmas.{IsAmong}
use Rattle.rev_unlisted.proofs.reading.unlisted_paths.Given as goal

abbrev pub invariant-loop-path : goal.invariant-loop-path
invariant-loop-path l =
    (path : ℕ) → Contains l.found.items path
    ↔ IsAmong l.path-items l.path-index (IsReadAt l.graph.manifest.builds l.paths l.hidden l.builds l.stronger l.marks l.user l.used) path
