-- Deeds, in the order of their lines.
use Rattle.std.specs.Prelude.{ℕ, ◌+◌, Bool, true, false}
use Rattle.rev_observation.specs.declared.deed.Deed.{Deed}
use Rattle.rev_observation.specs.declared.deed.Deed.TheVariants as deed
use Rattle.rev_observation.specs.declared.look.Change.{Change}
use Rattle.rev_observation.specs.declared.look.Change.TheVariants.{Left, Edited, Taken, Temps, Linked, Made, Found, Ensured, Removed}
use Rattle.rev_observation.specs.declared.look.Look.{Look}
use Rattle.rev_observation.specs.declared.look.Look.TheVariants.{Read, Status, Mode, There, Folder, Link, Missing, Passed, Listed, Own, Searched, After}

-- the place of a look among the twelve
abbrev pub look_rank : Look → ℕ
look_rank Read = 0
look_rank Status = 1
look_rank Mode = 2
look_rank There = 3
look_rank Folder = 4
look_rank Link = 5
look_rank Missing = 6
look_rank Passed = 7
look_rank Listed = 8
look_rank Own = 9
look_rank Searched = 10
look_rank After = 11

-- the place of a change among the nine
abbrev pub change_rank : Change → ℕ
change_rank Left = 0
change_rank Edited = 1
change_rank Taken = 2
change_rank Temps = 3
change_rank Linked = 4
change_rank Made = 5
change_rank Found = 6
change_rank Ensured = 7
change_rank Removed = 8

-- the place of a deed among the twenty-three: caches, looks, changes, and what Ninja prepared
abbrev pub deed_rank : Deed → ℕ
deed_rank deed.Cached = 0
deed_rank (deed.Look look) = look_rank look + 1
deed_rank (deed.Change change) = change_rank change + 13
deed_rank deed.Prepared = 22

-- links have what they say, searches and ensured folders the name of a program
abbrev pub look_has_text : Look → Bool
look_has_text Link = true
look_has_text Searched = true
look_has_text look = false

abbrev pub change_has_text : Change → Bool
change_has_text Linked = true
change_has_text Ensured = true
change_has_text change = false

abbrev pub has_text : Deed → Bool
has_text deed.Cached = false
has_text (deed.Look look) = look_has_text look
has_text (deed.Change change) = change_has_text change
has_text deed.Prepared = false

abbrev pub is_change : Deed → Bool
is_change deed.Cached = false
is_change (deed.Look look) = false
is_change (deed.Change change) = true
is_change deed.Prepared = false
