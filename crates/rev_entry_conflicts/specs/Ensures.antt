-- Who ensures a folder.
use Rattle.std.specs.Prelude.{ℕ, Bool, false, List, Option, Some, None, slice_get}
use Rattle.rev_entry_conflicts.specs.declared.deed.Command.{Command}
use Rattle.rev_entry_conflicts.specs.declared.word.Act.TheVariants as act
use Rattle.rev_entry_conflicts.specs.Deeds.{does}

abbrev pub ensures_it : ℕ → Option Command → Bool
ensures_it entry None = false
ensures_it entry (Some command) = does act.Ensures command entry

-- the command with the number ensures a folder at the entry
abbrev pub ensures_of : List Command → ℕ → ℕ → Bool
ensures_of commands entry number = ensures_it entry (slice_get commands number)
