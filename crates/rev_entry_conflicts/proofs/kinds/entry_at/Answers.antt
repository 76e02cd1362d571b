use Rattle.std.proofs.lemmas.List.{get_or_default}
use Rattle.rev_entry_conflicts.specs.Deeds.{no_entry}
use Rattle.rev_entry_conflicts.proofs.kinds.entry_at.Goals as goal

pub returns : goal.returns
returns c = get_or_default c.args.entries.now c.args.entry _ no_entry c.requires
