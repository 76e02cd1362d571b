-- Flags of a command.
use Rattle.std.specs.Prelude.{Bool, not, ◌||◌}
use Rattle.rev_observed.specs.declared.flags.Flags.{Flags}

-- whether no flag is set
abbrev pub is_whole : Flags → Bool
is_whole f = not (f.cut || f.server || f.namespace || f.uring || f.unresolved || f.twin)
