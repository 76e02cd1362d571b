use Rattle.std.proofs.Common.{rules}
use Rattle.rev_entry_conflicts.specs.Deeds.{does}
use Rattle.rev_entry_conflicts.proofs.deed.does.Goals as goal

pub returns : goal.returns
unfolding does
returns c = search rules
