-- Conflicts of two commands at an entry.
use Rattle.std.specs.Prelude.{ℕ, ◌==◌, nat_lt, Bool, false, not, ◌&&◌, ◌||◌, List, [], ◌∷◌, length, Option, Some, None, slice_get, if◌then◌else◌}
use Rattle.std.specs.List.{filter, filter_map, flat_map, list_any, range_with_len}
use Rattle.rev_entry_conflicts.specs.declared.conflict.Conflict.{Conflict}
use Rattle.rev_entry_conflicts.specs.declared.conflict.Kind.{Kind}
use Rattle.rev_entry_conflicts.specs.declared.conflict.Kind.TheVariants as kind
use Rattle.rev_entry_conflicts.specs.declared.deed.Command.{Command}
use Rattle.rev_entry_conflicts.specs.declared.word.Act.TheVariants as act
use Rattle.rev_entry_conflicts.specs.Deeds.{Scene, asks, does, entry_at, looks, waits}

-- WHO COUNTS
-- The two can conflict: they are of two edges, neither runs before all else, and the user does not wait for the maker.
abbrev pub are_apart : Scene → Command → Command → Bool
are_apart s made used =
    not (made.edge == used.edge) && (not made.early && (not used.early && not (waits s used.edge made.edge)))

-- It is determined that the user finds a folder: one for which it waits ensures the folder, and none for which it waits
-- leaves anything there. One that runs before all else does not count.
abbrev pub comes_before : Scene → Command → Command → Bool
comes_before s used command = not command.early && waits s used.edge command.edge

abbrev pub is_determined : Scene → Command → ℕ → Bool
is_determined s used entry =
    list_any (λ (c : Command). comes_before s used c && does act.Ensures c entry) s.commands
    && not (list_any (λ (c : Command). comes_before s used c && does act.Leaves c entry) s.commands)

-- WITHOUT AN ORDER
-- How a look meets what the maker leaves. A folder that is taken away is a matter of folders. A link that the maker
-- leaves, or that the user sees, and an entry that the user only passes, are matters of links.
abbrev pub kind_of_look : Scene → Command → Command → ℕ → Kind
kind_of_look s made used entry =
    if does act.Removes made entry then kind.Folder
    else if does act.Links made entry || (does act.SeesLink used entry || not (asks s used entry)) then kind.Link
    else kind.Race

-- The maker leaves the entry. Where the user leaves it too, this is a clash, told once of the two. Where the user ensures
-- a folder there, or looks at it, that is told.
abbrev pub kind_where_left : Scene → Command → Command → ℕ → Option Kind
kind_where_left s made used entry =
    if does act.Leaves used entry then (if nat_lt made.edge used.edge then Some kind.Clash else None)
    else if does act.Ensures used entry then Some kind.Folder
    else if looks s used entry then Some (kind_of_look s made used entry) else None

-- The maker ensures a folder there, and leaves nothing. Where the user asks for it, and it is not determined what it
-- finds, that is told. Where the user ensures it too, or passes it, nothing is.
abbrev pub kind_where_ensured : Scene → Command → ℕ → Option Kind
kind_where_ensured s used entry =
    if not (does act.Leaves used entry) && (asks s used entry && not (is_determined s used entry))
    then Some kind.Folder else None

abbrev pub kind_unordered : Scene → Command → Command → ℕ → Option Kind
kind_unordered s made used entry =
    if does act.Leaves made entry then kind_where_left s made used entry
    else if does act.Ensures made entry then kind_where_ensured s used entry else None

-- WHERE THE MAKER WAITS FOR THE USER
abbrev pub is_edge : Option ℕ → ℕ → Bool
is_edge None edge = false
is_edge (Some maker) edge = maker == edge

-- The maker leaves what the user asked for by itself: a cycle, where it is an output of the maker. Where the user saw the
-- content, or that nothing was there, the next build shows it another file.
abbrev pub kind_back : Scene → Command → Command → ℕ → Option Kind
kind_back s made used entry =
    if does act.Leaves made entry && (does act.Stays made entry && does act.Asks used entry)
    then (if is_edge (entry_at s entry).maker made.edge then Some kind.Cycle
    else if does act.Sees used entry then Some kind.Unstable else None)
    else None

-- BOTH
abbrev pub kind_apart : Scene → Command → Command → ℕ → Option Kind
kind_apart s made used entry =
    if waits s made.edge used.edge then kind_back s made used entry else kind_unordered s made used entry

-- how a maker and a user conflict at an entry that no filter hides
abbrev pub kind_at : Scene → Command → Command → ℕ → Option Kind
kind_at s made used entry =
    if are_apart s made used && not (entry_at s entry).hidden then kind_apart s made used entry else None

-- THE ANSWER
abbrev pub kind_number : Kind → ℕ
kind_number kind.Clash = 0
kind_number kind.Race = 1
kind_number kind.Folder = 2
kind_number kind.Link = 3
kind_number kind.Cycle = 4
kind_number kind.Unstable = 5

abbrev pub is_kind : Kind → Option Kind → Bool
is_kind kind None = false
is_kind kind (Some found) = kind_number found == kind_number kind

-- the entries at which the two conflict so, in the order of their numbers
abbrev pub places : Scene → Command → Command → Kind → List ℕ
places s made used kind =
    filter (λ entry. is_kind kind (kind_at s made used entry)) (range_with_len 0 (length s.entries))

-- the first of them, with a count of the others
abbrev pub told : ℕ → ℕ → Kind → List ℕ → Option Conflict
told made_by used_by kind [] = None
told made_by used_by kind (entry ∷ others) =
    Some (record { kind = kind; made_by = made_by; used_by = used_by; entry = entry; others = length others })

abbrev pub kinds : List Kind
kinds = kind.Clash ∷ kind.Race ∷ kind.Folder ∷ kind.Link ∷ kind.Cycle ∷ kind.Unstable ∷ []

-- what is told of two commands: a conflict for each kind, where there is one
abbrev pub of_pair : Scene → Command → Command → ℕ → ℕ → List Conflict
of_pair s made used made_by used_by = filter_map (λ kind. told made_by used_by kind (places s made used kind)) kinds

abbrev pub of_found_pair : Scene → ℕ → ℕ → Option Command → Option Command → List Conflict
of_found_pair s made_by used_by None used = []
of_found_pair s made_by used_by (Some made) None = []
of_found_pair s made_by used_by (Some made) (Some used) = of_pair s made used made_by used_by

abbrev pub of_numbers : Scene → ℕ → ℕ → List Conflict
of_numbers s used_by made_by = of_found_pair s made_by used_by (slice_get s.commands made_by) (slice_get s.commands used_by)

-- what is told of a user, in the order of the makers
abbrev pub of_user : Scene → ℕ → List Conflict
of_user s used_by = flat_map (of_numbers s used_by) (range_with_len 0 (length s.commands))

-- All conflicts: in the order of the users, then of the makers, and then of the kinds. Of two commands each kind is told
-- once, with the first entry and a count of the others.
abbrev pub conflicts : Scene → List Conflict
conflicts s = flat_map (of_user s) (range_with_len 0 (length s.commands))
