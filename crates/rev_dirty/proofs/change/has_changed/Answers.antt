use Rattle.std.proofs.Common.{refl}
use Rattle.std.specs.Map.{lookup}
use Rattle.std.proofs.Common.{nat_eq}
use Rattle.rev_dirty.proofs.ChangeLemmas.{changes-more}
use Rattle.rev_dirty.proofs.change.has_changed.Goals as goal

pub returns-clause-changed : goal.returns-clause-changed
returns-clause-changed c = λ other.
    changes-more c.args.graph.now.manifest.builds c.args.cells.now.state c.args.edge other c.in_ok-outputs.outputs (nat_eq c.args.edge other) (lookup (nat_eq other) c.args.changed.now.entries)
    (lookup (nat_eq other) c.insert.new.self.entries) refl (c.in_ok-insert.ensures.updates.0 other) c.in_ok-outputs.ensures (c.requires.changed other)
