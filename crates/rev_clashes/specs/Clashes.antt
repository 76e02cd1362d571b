-- Edges that have a file at one path.
use Rattle.std.specs.Prelude.{◌≡◌, ◌≢◌, ◌↔◌, ℕ, ◌<◌, Bool, List, Option, Some, None, is_none, slice_get, option_and_then, Contains, if◌then◌else◌}
use Rattle.std.specs.List.{AllPairs}
use Rattle.rev_paths.specs.Canonical.{canonical}
use Rattle.rev_manifest.specs.Builds.{BuildValue}
use Rattle.rev_manifest.specs.Names.{path_fault}
use Rattle.rev_clashes.specs.declared.sharing.Clash.{Clash}
use Rattle.rev_clashes.specs.declared.side_file.SideFile.{SideFile}
use Rattle.rev_clashes.specs.declared.side_file.SideFile.TheVariants.{Depfile, ResponseFile}

-- the path that an edge's rule gives for its file of a kind, as it stands there
abbrev pub path_in : SideFile → BuildValue → List ℕ
path_in Depfile build = build.depfile
path_in ResponseFile build = build.rspfile

-- The path of an edge's file of a kind, in canonical form. None where it has no such file, or where the path is longer
-- than a path may be.
abbrev pub file_of : SideFile → BuildValue → Option (List ℕ)
file_of kind build = if is_none (path_fault (path_in kind build)) then Some (canonical (path_in kind build)) else None

-- that of the edge at a place
abbrev pub file_at : SideFile → List BuildValue → ℕ → Option (List ℕ)
file_at kind builds place = option_and_then (file_of kind) (slice_get builds place)

-- Two edges clash: both have their file of this kind at one path, and the first is the first that does.
pub record IsClash (kind : SideFile) (builds : List BuildValue) (first other : ℕ) : Type 0 where
  pub path : List ℕ
  pub earlier : first < other
  pub first_has : file_at kind builds first ≡ Some path
  pub other_has : file_at kind builds other ≡ Some path
  pub none_before : (place : ℕ) → place < first → file_at kind builds place ≢ Some path

-- exactly the clashes, each once, in the order of the later edges
pub record AreClashes (kind : SideFile) (builds : List BuildValue) (clashes : List Clash) : Type 0 where
  pub exact : (c : Clash) → Contains clashes c ↔ IsClash kind builds c.first c.other
  pub rising : AllPairs (λ (c : Clash) (d : Clash). c.other < d.other) clashes

-- a value where a test holds
abbrev pub given : {A : Type 0} → Bool → A → Option A
given holds x = if holds then Some x else None
