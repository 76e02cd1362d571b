-- Commands as functions of what they look at.
use Rattle.std.specs.Prelude.{ℕ, Bool, true, false, ◌&&◌, List, Option, bytes_eq, is_some}

-- What stands at each path: a file's bytes, or where a link leads; nothing where there is no such file. Folders are no
-- files here: what a folder has is told by the files that stand in it.
abbrev pub Disk : Type 0
Disk = List ℕ → Option (List ℕ)

-- A command can ask what stands at a path, and which of the paths that pass a test are there. The first is to read a
-- file, to ask for its stamp, or to ask for it in vain. The second is to list a folder, where paths that stand in it
-- pass.
pub data Look : Type 0 where
  File : List ℕ → Look
  Names : (List ℕ → Bool) → Look

-- what it sees
pub data Seen : Type 0 where
  Holds : Option (List ℕ) → Seen
  Present : (List ℕ → Bool) → Seen

abbrev pub see : Disk → Look → Seen
see disk (File path) = Holds (disk path)
see disk (Names test) = Present (λ path. test path && is_some (disk path))

-- What a command does next: it looks, leaves at a path a file or nothing, or has ended with a status.
pub data Act : Type 0 where
  Ask : Look → Act
  Leave : List ℕ → Option (List ℕ) → Act
  End : ℕ → Act

abbrev pub is_end : Act → Bool
is_end (Ask look) = false
is_end (Leave path content) = false
is_end (End status) = true

-- what it did, with what it saw
pub data Step : Type 0 where
  Saw : Look → Seen → Step
  Left : List ℕ → Option (List ℕ) → Step

-- A command decides what it does next by what it did and saw so far, and by nothing else. The newest step stands first.
abbrev pub Command : Type 0
Command = List Step → Act

-- WHAT STEPS HAVE TO DO WITH PATHS
-- the step leaves the path: it makes, changes or takes away the file there
abbrev pub is_left : List ℕ → Step → Bool
is_left path (Left left content) = bytes_eq left path
is_left path (Saw look seen) = false

-- the look depends on the path
abbrev pub is_asked : List ℕ → Look → Bool
is_asked path (File asked) = bytes_eq asked path
is_asked path (Names test) = test path

-- the step looks at the path or leaves it
abbrev pub is_used : List ℕ → Step → Bool
is_used path (Left left content) = bytes_eq left path
is_used path (Saw look seen) = is_asked path look
