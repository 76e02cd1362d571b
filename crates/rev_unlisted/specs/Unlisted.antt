-- Files that commands read, and that no line declares.
use Rattle.std.specs.Prelude.{◌≡◌, ◌≢◌, ℕ, ◌+◌, ◌<◌, Bool, true, false, List, length, Some, slice_index_or}
use Rattle.std.specs.List.{Contains}
use Rattle.rev_manifest.specs.Manifest.{BuildValue}
use Rattle.rev_graph.specs.Graph.{producer_of}
use Rattle.rev_ranks.specs.Graph.{Reaches}
use Rattle.rev_waits.specs.Waits.{Makes}
use Rattle.rev_observed.specs.CommandValues.{CommandValue}
use Rattle.rev_observed.specs.declared.kind.Kind.TheVariants.{Reads, Writes}
use Rattle.rev_conflicts.specs.Places.{does}
use Rattle.rev_conflicts.specs.Conflicts.{Ran, Scene}
use Rattle.rev_undeclared.specs.Undeclared.{IsOpen, path_at}
use Rattle.rev_unlisted.specs.Follows.{counted_of, follow_lists}
use Rattle.rev_unlisted.specs.declared.input.Cover.{Cover}
use Rattle.rev_unlisted.specs.declared.input.Cover.TheVariants.{Covered, HeldBack, Neither}

-- A command reads a file that no filter hides, and that is no depfile or response file of its edge. Neither does the
-- command leave it, nor is it an output of the edge; and it does not count for the edge.
pub record ReadsUnlisted
    (builds : List BuildValue) (paths : List (List ℕ)) (hidden : List Bool) (sides : List BuildValue)
    (lists : List (List (List ℕ))) (user : ℕ) (used : CommandValue) (path : ℕ)
    : Type 0 where
  pub reads : does Reads used path ≡ true
  pub finds : does Writes used path ≡ false
  pub is_open : IsOpen paths hidden sides user path
  pub foreign : producer_of builds (path_at paths path) ≢ Some user
  pub unlisted : Contains (counted_of builds lists user) (path_at paths path) → ⊥

-- the command of this number is one of the user's, and reads such a file
pub record IsUnlisted
    (s : Scene) (sides : List BuildValue) (lists : List (List (List ℕ))) (user path used_by : ℕ)
    : Type 0 where
  pub used : CommandValue
  pub ran : Ran s used_by user used
  pub unlisted : ReadsUnlisted s.builds s.paths s.hidden sides lists user used path

-- the command of this number is one of the edge's, and leaves the file
pub record LeftBy (commands : List CommandValue) (edges : List ℕ) (path maker number : ℕ) : Type 0 where
  pub command : CommandValue
  pub within : number < length commands
  pub is : slice_index_or commands number command ≡ command
  pub of : slice_index_or edges number 0 ≡ maker
  pub left : does Writes command path ≡ true

-- An edge makes a file: its command was seen to leave it, or the build lines say so.
pub data IsMaker
    (builds : List BuildValue) (paths : List (List ℕ)) (commands : List CommandValue) (edges : List ℕ) (path : ℕ)
    : ℕ → Type 0 where
  left : {maker number : ℕ} → LeftBy commands edges path maker number → IsMaker builds paths commands edges path maker
  made : {maker : ℕ} → Makes builds maker (path_at paths path) → IsMaker builds paths commands edges path maker

abbrev pub MakerIn : Scene → ℕ → ℕ → Type 0
MakerIn s path maker = IsMaker s.builds s.paths s.commands s.edges path maker

-- Ninja runs the user again when the file changes: somebody makes it, and each who does is met from the user; or nobody
-- does, and an edge that is met, or the user, counts it. Of sure ways no edge has restat but for the user.
pub data IsMet (s : Scene) (lists : List (List (List ℕ))) (sure : Bool) (user path : ℕ) : Type 0 where
  by_makers : {maker : ℕ} → MakerIn s path maker
      → ((other : ℕ) → MakerIn s path other → Reaches (follow_lists s.builds lists s.paths sure) user other)
      → IsMet s lists sure user path
  as_source : ((maker : ℕ) → MakerIn s path maker → ⊥)
      → Reaches (follow_lists s.builds lists s.paths sure) user (length s.builds + path) → IsMet s lists sure user path

-- A file is covered where it is met by sure ways, and held back where it is met, and not by sure ways.
pub data IsCover (s : Scene) (lists : List (List (List ℕ))) (user path : ℕ) : Cover → Type 0 where
  covers : IsMet s lists true user path → IsCover s lists user path Covered
  holds_back : IsMet s lists false user path → (IsMet s lists true user path → ⊥) → IsCover s lists user path HeldBack
  neither : (IsMet s lists false user path → ⊥) → (IsMet s lists true user path → ⊥) → IsCover s lists user path Neither
