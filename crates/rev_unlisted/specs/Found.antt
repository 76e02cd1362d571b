-- What is found, as it is found.
use Rattle.std.specs.Prelude.{◌≡◌, ◌≢◌, ◌↔◌, ◌⊎◌, ℕ, ◌+◌, ◌<◌, ◌^◌, ◌==◌, Bool, true, false, if◌then◌else◌, List, [], ◌∷◌, map, length, Option, Some, None, slice_index_or}
use Rattle.std.specs.Global.{Vec}
use Rattle.std.specs.List.{All, Contains, list_all}
use Rattle.std.specs.List.Sorted.{IsStrictlySortedBy}
use Rattle.std.specs.Ordering.{nat_cmp}
use Rattle.std.specs.Cmp.Lexicographic.{slice_cmp}
use Rattle.std.specs.Borrow.{Bor}
use Rattle.rev_manifest.specs.Manifest.{BuildValue}
use Rattle.rev_paths.specs.Paths.{place_of}
use Rattle.rev_graph.specs.Graph.{producer_of}
use Rattle.rev_observed.specs.CommandValues.{CommandValue}
use Rattle.rev_observed.specs.declared.kind.Kind.TheVariants.{Reads, Writes}
use Rattle.rev_conflicts.specs.Places.{does}
use Rattle.rev_conflicts.specs.Conflicts.{Scene}
use Rattle.rev_undeclared.specs.Undeclared.{IsOpen, path_at}
use Rattle.rev_unlisted.specs.Answer.{unlisted_key}
use Rattle.rev_unlisted.specs.Follows.{counted_of, follow_lists}
use Rattle.rev_unlisted.specs.Unlisted.{IsCover, IsMaker, IsUnlisted}
use Rattle.rev_unlisted.specs.declared.input.Unlisted.{Unlisted}
use Rattle.rev_ranks.specs.Graph.{Reaches, Steps, successors_of}
use Rattle.rev_unlisted.specs.declared.input.Cover.{Cover}
use Rattle.rev_unlisted.specs.declared.input.Cover.TheVariants.{Covered, HeldBack, Neither}

-- the paths of slices of names
abbrev pub names_of : List (Bor (List (List ℕ))) → List (List (List ℕ))
names_of slices = map (λ s. s.now) slices

-- a mark for each node, set exactly where a node reaches it
pub record AreReached (graph : List (List ℕ)) (node : ℕ) (marks : List Bool) : Type 0 where
  pub each : length marks ≡ length graph
  pub exact : (other : ℕ) → (slice_index_or marks other false ≡ true) ↔ Reaches graph node other

-- a mark for each node, set wherever one of the first nodes leads
pub record AreLedTo (graph : List (List ℕ)) (count : ℕ) (marks : List Bool) : Type 0 where
  pub each : length marks ≡ length graph
  pub complete : (node other : ℕ) → node < count → Reaches graph node other → slice_index_or marks other false ≡ true

-- who makes a file is marked, or nobody makes it, and its own node is marked
abbrev pub met_by : List ℕ → ℕ → List Bool → Bool
met_by [] node marks = slice_index_or marks node false
met_by (maker ∷ makers) node marks = list_all (λ e. slice_index_or marks e false) (maker ∷ makers)

abbrev pub cover_by : Bool → Bool → Cover
cover_by sure met = if sure then Covered else if met then HeldBack else Neither

-- by these marks each of these files is neither covered nor held back
abbrev pub AreNeither : ℕ → List (List ℕ) → List Bool → List Bool → List ℕ → Type 0
AreNeither count makers sure met files =
    (path : ℕ) → Contains files path
    → cover_by (met_by (successors_of makers path) (count + path) sure)
    (met_by (successors_of makers path) (count + path) met)
    ≡ Neither

-- one more edge at these places of a table
pub record PutsWhere (old new : List (List ℕ)) (edge : ℕ) (places : List ℕ) : Type 0 where
  pub each : length new ≡ length old
  pub exact : (p a : ℕ) → p < length old → Steps new p a ↔ (Steps old p a ⊎ ((a ≡ edge) × Contains places p))

-- a mark for each path; a mark with an edge's number says that the path counts for the edge
pub record AreCountedAtMost
    (builds : List BuildValue) (lists : List (List (List ℕ))) (paths : List (List ℕ)) (marks : List (Option ℕ))
    : Type 0 where
  pub each : length marks ≡ length paths
  pub sound : (edge path : ℕ) → slice_index_or marks path None ≡ Some edge
      → Contains (counted_of builds lists edge) (path_at paths path)

-- a mark with this edge's number says exactly that the path counts for the edge
abbrev pub AreCountedOf :
    List BuildValue → List (List (List ℕ)) → List (List ℕ) → ℕ → List (Option ℕ) → Type 0
AreCountedOf builds lists paths edge marks =
    (path : ℕ) → path < length paths
    → (slice_index_or marks path None ≡ Some edge) ↔ Contains (counted_of builds lists edge) (path_at paths path)

-- the paths of these names are marked with this number besides
pub record IsMarked (paths : List (List ℕ)) (user : ℕ) (names : List (List ℕ)) (old new : List (Option ℕ)) : Type 0 where
  pub each : length new ≡ length old
  pub sound : (edge path : ℕ) → slice_index_or new path None ≡ Some edge
      → (slice_index_or old path None ≡ Some edge) ⊎ ((edge ≡ user) × Contains names (path_at paths path))
  pub kept : (path : ℕ) → slice_index_or old path None ≡ Some user → slice_index_or new path None ≡ Some user
  pub complete : (name : List ℕ) (path : ℕ) → Contains names name → place_of name paths ≡ Some path
      → slice_index_or new path None ≡ Some user

-- A file that a command reads is unlisted by a test of what counts, and nothing stronger is told of it.
pub record IsReadBy
    (builds : List BuildValue) (paths : List (List ℕ)) (hidden : List Bool) (sides : List BuildValue)
    (told : List (List ℕ)) (counts : ℕ → Type 0) (user : ℕ) (used : CommandValue) (path : ℕ)
    : Type 0 where
  pub finds : does Writes used path ≡ false
  pub is_open : IsOpen paths hidden sides user path
  pub foreign : producer_of builds (path_at paths path) ≢ Some user
  pub uncounted : counts path → ⊥
  pub alone : Contains told (user ∷ path ∷ []) → ⊥

-- `marks` has the user's number at the paths that count for it
abbrev pub IsReadAt :
    List BuildValue → List (List ℕ) → List Bool → List BuildValue → List (List ℕ) → List (Option ℕ) → ℕ
    → CommandValue → ℕ → Type 0
IsReadAt builds paths hidden sides told marks user used path =
    IsReadBy builds paths hidden sides told (λ p. slice_index_or marks p None ≡ Some user) user used path

-- the same by what counts for the user
abbrev pub IsReadOf :
    List BuildValue → List (List ℕ) → List Bool → List BuildValue → List (List ℕ) → List (List (List ℕ)) → ℕ
    → CommandValue → ℕ → Type 0
IsReadOf builds paths hidden sides told lists user used path =
    IsReadBy builds paths hidden sides told (λ p. Contains (counted_of builds lists user) (path_at paths p)) user used
    path

-- the command of this number reads such a file
pub record IsReadByNumber
    (builds : List BuildValue) (paths : List (List ℕ)) (hidden : List Bool) (sides : List BuildValue)
    (told : List (List ℕ)) (lists : List (List (List ℕ))) (commands : List CommandValue) (edges : List ℕ)
    (number path : ℕ)
    : Type 0 where
  pub command : CommandValue
  pub is : slice_index_or commands number command ≡ command
  pub reads : does Reads command path ≡ true
  pub read : IsReadOf builds paths hidden sides told lists (slice_index_or edges number 0) command path

-- for each command such files that it reads
pub record AreReads
    (builds : List BuildValue) (paths : List (List ℕ)) (hidden : List Bool) (sides : List BuildValue)
    (told : List (List ℕ)) (lists : List (List (List ℕ))) (commands : List CommandValue) (edges : List ℕ)
    (files : List (List ℕ))
    : Type 0 where
  pub each : length files ≡ length commands
  pub exact : (number path : ℕ) → number < length commands → Contains (slice_index_or files number []) path
      ↔ IsReadByNumber builds paths hidden sides told lists commands edges number path

-- A file is met, by who makes it and by what the user reaches.
pub data IsMetIn (count : ℕ) (graph : List (List ℕ)) (makers : List ℕ) (user path : ℕ) : Type 0 where
  by_makers : {maker : ℕ} → Contains makers maker
      → ((other : ℕ) → Contains makers other → Reaches graph user other) → IsMetIn count graph makers user path
  as_source : ((maker : ℕ) → Contains makers maker → ⊥) → Reaches graph user (count + path)
      → IsMetIn count graph makers user path

pub data IsCoverIn (count : ℕ) (steps sure : List (List ℕ)) (makers : List ℕ) (user path : ℕ) : Cover → Type 0 where
  covers : IsMetIn count sure makers user path → IsCoverIn count steps sure makers user path Covered
  holds_back : IsMetIn count steps makers user path → (IsMetIn count sure makers user path → ⊥)
      → IsCoverIn count steps sure makers user path HeldBack
  neither : (IsMetIn count steps makers user path → ⊥) → (IsMetIn count sure makers user path → ⊥)
      → IsCoverIn count steps sure makers user path Neither

-- what is told of one of these files, which a user's command reads
pub record IsKeyAmong
    (count : ℕ) (makers : List (List ℕ)) (sure met : List Bool) (user used_by : ℕ) (files k : List ℕ)
    : Type 0 where
  pub path : ℕ
  pub among : Contains files path
  pub is : k ≡ unlisted_key (record {
    cover = cover_by (met_by (successors_of makers path) (count + path) sure)
        (met_by (successors_of makers path) (count + path) met);
    user = user;
    path = path;
    used_by = used_by;
  })

-- a graph of so many nodes
pub record IsFollow (count : ℕ) (steps : List (Vec ℕ)) : Type 0 where
  pub each : length steps ≡ count
  pub inside : All (λ (v : Vec ℕ). All (λ s. s < count) v.items) steps

-- what is told of these files, which a user's command reads, by what its edge reaches
pub record IsKeyIn (count : ℕ) (steps sure makers : List (List ℕ)) (user used_by : ℕ) (files k : List ℕ) : Type 0 where
  pub path : ℕ
  pub among : Contains files path
  pub cover : Cover
  pub cover_is : IsCoverIn count steps sure (successors_of makers path) user path cover
  pub is : k ≡ unlisted_key (record { cover = cover; user = user; path = path; used_by = used_by })

-- numbers of what is told, of which the first fits that of an edge
pub record IsOfUnlisted (k : List ℕ) : Type 0 where
  pub told : Unlisted
  pub is : k ≡ unlisted_key told
  pub user : told.user < 2 ^ 32

abbrev pub cover_of_number : ℕ → Cover
cover_of_number n = if n == 0 then Covered else if n == 1 then HeldBack else Neither

-- the file of this path is unlisted for a user's command, with its cover, and nothing stronger is told of it
pub record IsFound
    (s : Scene) (sides : List BuildValue) (lists : List (List (List ℕ))) (told : List (List ℕ)) (u : Unlisted)
    : Type 0 where
  pub is : IsUnlisted s sides lists u.user u.path u.used_by
  pub cover_is : IsCover s lists u.user u.path u.cover
  pub alone : Contains told (u.user ∷ u.path ∷ []) → ⊥

pub record AreFound
    (s : Scene) (sides : List BuildValue) (lists : List (List (List ℕ))) (told : List (List ℕ))
    (unlisted : List Unlisted)
    : Type 0 where
  pub exact : (u : Unlisted) → Contains unlisted u ↔ IsFound s sides lists told u
  pub rising : IsStrictlySortedBy (slice_cmp nat_cmp) (map unlisted_key unlisted)

-- what is told of one of the first commands, which read these files
pub record IsKeyBelow
    (count : ℕ) (steps sure makers : List (List ℕ)) (edges : List ℕ) (files : List (List ℕ)) (n : ℕ) (k : List ℕ)
    : Type 0 where
  pub number : ℕ
  pub below : number < n
  pub key : IsKeyIn count steps sure makers (slice_index_or edges number 0) number (slice_index_or files number []) k

-- what is told of all commands, which read these files, by what makes Ninja run an edge again and who makes each path
pub record AreKeys
    (builds : List BuildValue) (lists : List (List (List ℕ))) (paths : List (List ℕ)) (commands : List CommandValue)
    (edges : List ℕ) (files keys : List (List ℕ))
    : Type 0 where
  pub makers : List (List ℕ)
  pub makers_are : (path maker : ℕ) → path < length paths → Steps makers path maker
      ↔ IsMaker builds paths commands edges path maker
  pub exact : (k : List ℕ) → Contains keys k
      ↔ IsKeyBelow (length builds) (follow_lists builds lists paths false) (follow_lists builds lists paths true)
      makers edges files (length files) k
