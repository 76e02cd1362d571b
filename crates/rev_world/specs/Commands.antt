-- Commands as functions of what they look at, in a world with folders and links.
use Rattle.std.specs.Prelude.{ℕ, Bool, true, false, ◌&&◌, List, [], ◌∷◌, bytes_eq, if◌then◌else◌}

-- PLACES
-- A place is an entry: a name in a folder, whose own place follows it. The root is []. No part of it is a link, and none
-- is '.' or '..': what a path with such parts means is worked out by looks (Ways).
abbrev pub Place : Type 0
Place = List (List ℕ)

abbrev pub place_eq : Place → Place → Bool
place_eq [] [] = true
place_eq [] (name ∷ folder) = false
place_eq (name ∷ folder) [] = false
place_eq (name ∷ folder) (other ∷ there) = bytes_eq name other && place_eq folder there

-- the place is an entry of the folder
abbrev pub is_entry_of : Place → Place → Bool
is_entry_of folder [] = false
is_entry_of folder (name ∷ there) = place_eq folder there

-- What stands at a place. A link holds the text that says where it leads.
pub data Value : Type 0 where
  Nothing : Value
  File : List ℕ → Value
  Folder : Value
  Link : List ℕ → Value

-- No folder can be made there: something else stands there.
abbrev pub is_blocked : Value → Bool
is_blocked Nothing = false
is_blocked (File content) = true
is_blocked Folder = false
is_blocked (Link text) = true

-- what a listing shows of an entry: which kind of thing stands there, and none of its content
abbrev pub shape : Value → Value
shape Nothing = Nothing
shape (File content) = File []
shape Folder = Folder
shape (Link text) = Link []

-- What a place shows to a command on its way to a place below: a file or a link, and nothing else. It does not show
-- whether a folder is there. Where the folder is missing, nothing stands below it, and the call says no more than that
-- (ENOENT in both cases).
abbrev pub pass : Value → Value
pass Nothing = Folder
pass (File content) = File []
pass Folder = Folder
pass (Link text) = Link text

abbrev pub Disk : Type 0
Disk = Place → Value

-- LOOKS
-- A command can ask what stands at an entry: it reads a file or a link, or asks for a file or a folder, also in vain. It
-- can pass an entry on its way to a place below. It can ask which of the entries that pass a test are there, and of which
-- kind: so it lists a folder, whose entries pass.
pub data Look : Type 0 where
  Entry : Place → Look
  Way : Place → Look
  Names : (Place → Bool) → Look

pub data Seen : Type 0 where
  Holds : Value → Seen
  Shows : (Place → Value) → Seen

abbrev pub see : Disk → Look → Seen
see disk (Entry place) = Holds (disk place)
see disk (Way place) = Holds (pass (disk place))
see disk (Names test) = Shows (λ place. if test place then shape (disk place) else Nothing)

-- ACTS
-- What a command does next: it looks; it leaves something or nothing at a place; it ensures that a folder is there; or it
-- has ended with a status.
pub data Act : Type 0 where
  Ask : Look → Act
  Leave : Place → Value → Act
  Ensure : Place → Act
  End : ℕ → Act

abbrev pub is_end : Act → Bool
is_end (Ask look) = false
is_end (Leave place value) = false
is_end (Ensure place) = false
is_end (End status) = true

-- What a command did, with what it saw. To ensure a folder does not show the command whether the folder was there. Where
-- a file or a link stands, the command cannot ensure the folder: this is a look that shows what stands there.
pub data Step : Type 0 where
  Saw : Look → Seen → Step
  Left : Place → Value → Step
  Ensured : Place → Step

-- A command decides what it does next by what it did and saw so far, and by nothing else. The newest step stands first.
abbrev pub Command : Type 0
Command = List Step → Act

-- WHAT STEPS HAVE TO DO WITH PLACES
abbrev pub is_left : Place → Step → Bool
is_left place (Saw look seen) = false
is_left place (Left left value) = place_eq left place
is_left place (Ensured ensured) = false

abbrev pub is_ensured : Place → Step → Bool
is_ensured place (Saw look seen) = false
is_ensured place (Left left value) = false
is_ensured place (Ensured ensured) = place_eq ensured place

-- the look depends on what is at the place, also on whether a folder is there
abbrev pub is_asked : Place → Look → Bool
is_asked place (Entry asked) = place_eq asked place
is_asked place (Way passed) = false
is_asked place (Names test) = test place

-- the look depends on whether a file or a link is there
abbrev pub is_passed : Place → Look → Bool
is_passed place (Entry asked) = false
is_passed place (Way passed) = place_eq passed place
is_passed place (Names test) = false

abbrev pub is_look : Place → Step → Bool
is_look place (Saw look seen) = is_asked place look
is_look place (Left left value) = false
is_look place (Ensured ensured) = false

abbrev pub is_pass : Place → Step → Bool
is_pass place (Saw look seen) = is_passed place look
is_pass place (Left left value) = false
is_pass place (Ensured ensured) = false
