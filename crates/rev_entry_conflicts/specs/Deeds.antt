-- What commands do at entries.
use Rattle.std.specs.Prelude.{ℕ, nat_eq, nat_le, Bool, true, false, not, ◌&&◌, ◌||◌, List, Option, Some, None, slice_index_or}
use Rattle.std.specs.List.{list_any}
use Rattle.rev_ranks.specs.Leads.{leads_to}
use Rattle.rev_entry_conflicts.specs.declared.deed.Command.{Command}
use Rattle.rev_entry_conflicts.specs.declared.deed.Deed.{Deed}
use Rattle.rev_entry_conflicts.specs.declared.deed.Entry.{Entry}
use Rattle.rev_entry_conflicts.specs.declared.word.Act.{Act}
use Rattle.rev_entry_conflicts.specs.declared.word.Act.TheVariants as act
use Rattle.rev_entry_conflicts.specs.declared.word.Word.{Word}
use Rattle.rev_entry_conflicts.specs.declared.word.Word.TheVariants as word

-- ONE LINE
-- A word says an act. A folder that is removed is left, and so is a file, a link or a temporary. A folder that is made,
-- found or ensured, or that Ninja prepared, is ensured.
abbrev pub is_of : Act → Word → Bool
is_of act.Leaves word.Left = true
is_of act.Leaves word.Edited = true
is_of act.Leaves word.Taken = true
is_of act.Leaves word.Temp = true
is_of act.Leaves word.Linked = true
is_of act.Leaves word.Removed = true
is_of act.Stays word.Left = true
is_of act.Stays word.Edited = true
is_of act.Stays word.Taken = true
is_of act.Stays word.Linked = true
is_of act.Ensures word.Made = true
is_of act.Ensures word.Found = true
is_of act.Ensures word.Ensured = true
is_of act.Ensures word.Prepared = true
is_of act.Asks word.Read = true
is_of act.Asks word.Status = true
is_of act.Asks word.Mode = true
is_of act.Asks word.There = true
is_of act.Asks word.Folder = true
is_of act.Asks word.Link = true
is_of act.Asks word.Missing = true
is_of act.Sees word.Read = true
is_of act.Sees word.Link = true
is_of act.Sees word.Missing = true
is_of act.Passes word.Passed = true
is_of act.Lists word.Listed = true
is_of act.Owns word.Own = true
is_of act.Began word.Prepared = true
is_of act.Removes word.Removed = true
is_of act.Links word.Linked = true
is_of act.SeesLink word.Link = true
is_of _ _ = false

-- the line has the entry
abbrev pub is_at : ℕ → Deed → Bool
is_at entry deed = nat_le deed.first entry && nat_le entry deed.last

abbrev pub is_deed : Act → ℕ → Deed → Bool
is_deed act entry deed = is_of act deed.word && is_at entry deed

-- ONE COMMAND
-- the command did the act at the entry
unfoldable pub does : Act → Command → ℕ → Bool
does act command entry = list_any (is_deed act entry) command.deeds.items

-- What is judged: for each edge the edges that produce its inputs, the entries and the commands.
pub record Scene : Type 0 where
  pub steps : List (List ℕ)
  pub entries : List Entry
  pub commands : List Command

-- an entry that has no number counts as hidden
abbrev pub no_entry : Entry
no_entry = record { folder = None; maker = None; hidden = true }

abbrev pub entry_at : Scene → ℕ → Entry
entry_at s entry = slice_index_or s.entries entry no_entry

-- The command lists a folder, and did not change the entry before.
abbrev pub lists_at : Command → ℕ → Option ℕ → Bool
lists_at command entry None = false
lists_at command entry (Some folder) = does act.Lists command folder && not (does act.Owns command entry)

-- The command asks for the entry: by itself, or by a listing of the folder that has it. What it finds of a folder that
-- Ninja made for it before does not count.
abbrev pub asks : Scene → Command → ℕ → Bool
asks s command entry =
    (does act.Asks command entry || lists_at command entry (entry_at s entry).folder)
    && not (does act.Began command entry)

-- it looks at the entry in one of these ways, or passes it
abbrev pub looks : Scene → Command → ℕ → Bool
looks s command entry = asks s command entry || does act.Passes command entry

-- an edge waits for another one: a way of inputs leads to it
abbrev pub waits_in : List (List ℕ) → ℕ → ℕ → Bool
waits_in steps edge other = leads_to steps (nat_eq other) edge

abbrev pub waits : Scene → ℕ → ℕ → Bool
waits s = waits_in s.steps
