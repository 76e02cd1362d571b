-- From the parts of a path to a place, look by look.
use Rattle.std.specs.Prelude.{◌≡◌, ℕ, zero, suc, Bool, true, false, List, [], ◌∷◌, ◌++◌, Option, Some, None, if◌then◌else◌}
use Rattle.rev_world.specs.Commands.{Disk, Look, Look.Entry, Look.Way, Place, Value, Value.Nothing, Value.File, Value.Folder, Value.Link, pass, see}

-- A part of a path: a name, or '..'. ('.' and empty parts are none.)
pub data Part : Type 0 where
  Up : Part
  Name : List ℕ → Part

-- What the text of a link says: whether it leads from the root or from the link's own folder, and by which parts.
pub record Target : Type 0 where
  pub from_root : Bool
  pub parts : List Part

-- The looks on the way, the first one first, and the place where the way ends. There is none where the way breaks off.
pub record Walked : Type 0 where
  pub looks : List Look
  pub ends : Option Place

abbrev pub folder_of : Place → Place
folder_of [] = []
folder_of (name ∷ folder) = folder

abbrev pub nowhere : Walked
nowhere = record { looks = []; ends = None }

abbrev pub here : Place → Walked
here place = record { looks = []; ends = Some place }

abbrev pub after_look : Look → Walked → Walked
after_look look walked = record { looks = look ∷ walked.looks; ends = walked.ends }

-- A name follows: then a missing folder and a folder without that name give the call one answer. Where '..' or nothing
-- follows, the call says whether the folder is there.
abbrev pub has_name_next : List Part → Bool
has_name_next [] = false
has_name_next (Up ∷ parts) = false
has_name_next (Name name ∷ parts) = true

abbrev pub look_at : Place → List Part → Look
look_at place parts = if has_name_next parts then Way place else Entry place

abbrev pub shown_at : Disk → Place → List Part → Value
shown_at disk place parts = if has_name_next parts then pass (disk place) else disk place

-- the rest of the way from a name, by what stood there
abbrev pub on_from : (List ℕ → Target) → (Place → List Part → Walked) → Place → Place → List Part → Value → Walked
on_from target walk folder place parts Folder = walk place parts
on_from target walk folder place parts (Link text) =
    walk (if (target text).from_root then [] else folder) ((target text).parts ++ parts)
on_from target walk folder place [] Nothing = here place
on_from target walk folder place (part ∷ parts) Nothing = nowhere
on_from target walk folder place [] (File content) = here place
on_from target walk folder place (part ∷ parts) (File content) = nowhere

-- A walk of at most n parts. (The kernel bounds the links of a walk: ELOOP.)
abbrev pub walk : (List ℕ → Target) → ℕ → Disk → Place → List Part → Walked
walk target zero disk folder parts = nowhere
walk target (suc n) disk folder [] = here folder
walk target (suc n) disk folder (Up ∷ parts) = walk target n disk (folder_of folder) parts
walk target (suc n) disk folder (Name name ∷ parts) =
    after_look (look_at (name ∷ folder) parts)
    (on_from target (walk target n disk) folder (name ∷ folder) parts (shown_at disk (name ∷ folder) parts))

-- THE LAW
abbrev pub ShowAlike : Disk → Disk → List Look → Type 0
ShowAlike one other [] = Unit {0}
ShowAlike one other (look ∷ looks) = (see one look ≡ see other look) × ShowAlike one other looks

-- Where a path leads depends on what its looks show, and on nothing else: where another disk shows the same to each look
-- of the way, the path has the same way there, to the same place.
abbrev pub WaysAreTold : Type 0
WaysAreTold =
    (target : List ℕ → Target) (n : ℕ) (one other : Disk) (folder : Place) (parts : List Part)
    → ShowAlike one other (walk target n one folder parts).looks
    → walk target n one folder parts ≡ walk target n other folder parts
