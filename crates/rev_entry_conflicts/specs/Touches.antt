-- The entries that a command leaves or ensures.
use Rattle.std.specs.Prelude.{ℕ, Bool, ◌&&◌, ◌||◌, List}
use Rattle.std.specs.List.{filter, list_any, range_with_len}
use Rattle.rev_entry_conflicts.specs.declared.deed.Command.{Command}
use Rattle.rev_entry_conflicts.specs.declared.deed.Deed.{Deed}
use Rattle.rev_entry_conflicts.specs.declared.word.Act.TheVariants as act
use Rattle.rev_entry_conflicts.specs.Deeds.{is_at, is_of}

abbrev pub is_touch : Deed → Bool
is_touch deed = is_of act.Leaves deed.word || is_of act.Ensures deed.word

abbrev pub touch_at : ℕ → Deed → Bool
touch_at entry deed = is_touch deed && is_at entry deed

abbrev pub touched_by : List Deed → ℕ → Bool
touched_by deeds entry = list_any (touch_at entry) deeds

abbrev pub touches : Command → ℕ → Bool
touches command = touched_by command.deeds.items

-- the entries below a count that the command touches, in the order of their numbers
abbrev pub touched_in : ℕ → Command → List ℕ
touched_in count command = filter (touches command) (range_with_len 0 count)
