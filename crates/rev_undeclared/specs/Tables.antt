-- Tables of who leaves which file, and what is found by them.
use Rattle.std.specs.Prelude.{◌≡◌, ◌≢◌, ◌⊎◌, ◌↔◌, ℕ, ◌<◌, ◌^◌, ◌==◌, if◌then◌else◌, Bool, true, false, List, [], ◌∷◌, length, map, Some, None, slice_index_or}
use Rattle.std.specs.List.{Contains}
use Rattle.std.specs.List.Sorted.{IsStrictlySortedBy}
use Rattle.std.specs.Ordering.{nat_cmp}
use Rattle.std.specs.Cmp.Lexicographic.{slice_cmp}
use Rattle.rev_manifest.specs.Manifest.{BuildValue}
use Rattle.rev_graph.specs.Graph.{producer_of}
use Rattle.rev_ranks.specs.Graph.{Steps, successors_of}
use Rattle.rev_observed.specs.CommandValues.{CommandValue}
use Rattle.rev_observed.specs.declared.kind.Kind.TheVariants.{Writes}
use Rattle.rev_conflicts.specs.declared.conflict.Look.{Look}
use Rattle.rev_conflicts.specs.declared.conflict.Look.TheVariants as look
use Rattle.rev_conflicts.specs.declared.place.Place.TheVariants.{File}
use Rattle.rev_conflicts.specs.Places.{does, look_at}
use Rattle.rev_conflicts.specs.Conflicts.{Scene}
use Rattle.rev_undeclared.specs.declared.kind.Undeclared.{Undeclared}
use Rattle.rev_undeclared.specs.declared.kind.UndeclaredKind.{UndeclaredKind}
use Rattle.rev_undeclared.specs.declared.kind.UndeclaredKind.TheVariants.{Anothers, LookedAt}
use Rattle.rev_undeclared.specs.Answer.{undeclared_key}
use Rattle.rev_undeclared.specs.Undeclared.{IsOpen, IsOutputOf, IsUndeclared, path_at}

-- WHO LEAVES A FILE
-- a table with one more command at the places that pass
pub record PutsIf (old new : List (List ℕ)) (command : ℕ) (P : ℕ → Type 0) : Type 0 where
  pub each : length new ≡ length old
  pub exact : (p c : ℕ) → Steps new p c ↔ (Steps old p c ⊎ ((c ≡ command) × P p))

-- what one path that a command leaves adds
pub record IsOpenAt (paths : List (List ℕ)) (hidden : List Bool) (sides : List BuildValue) (edge path p : ℕ) : Type 0 where
  pub same : p ≡ path
  pub is_open : IsOpen paths hidden sides edge path

-- what paths that a command leaves add
pub record IsOpenAmong
    (paths : List (List ℕ)) (hidden : List Bool) (sides : List BuildValue) (edge : ℕ) (written : List ℕ) (p : ℕ)
    : Type 0 where
  pub among : Contains written p
  pub is_open : IsOpen paths hidden sides edge p

-- The command of this number leaves the file. `early` has a mark for each edge that runs before all else.
pub record LeavesBy
    (paths : List (List ℕ)) (hidden : List Bool) (sides : List BuildValue) (early : List Bool)
    (commands : List CommandValue) (edges : List ℕ) (p number : ℕ)
    : Type 0 where
  pub command : CommandValue
  pub within : number < length commands
  pub is : slice_index_or commands number command ≡ command
  pub later : slice_index_or early (slice_index_or edges number 0) false ≡ false
  pub left : does Writes command p ≡ true
  pub is_open : IsOpen paths hidden sides (slice_index_or edges number 0) p

-- for each path the commands that leave its file
pub record AreLeft
    (paths : List (List ℕ)) (hidden : List Bool) (sides : List BuildValue) (early : List Bool)
    (commands : List CommandValue) (edges : List ℕ) (lists : List (List ℕ))
    : Type 0 where
  pub each : length lists ≡ length paths
  pub exact : (p c : ℕ) → Steps lists p c ↔ LeavesBy paths hidden sides early commands edges p c

-- WHAT IS FOUND, AS NUMBERS
-- what is told of a user, a file and one of the commands that leave it
pub record IsKeyBy (edges : List ℕ) (user path : ℕ) (kind : UndeclaredKind) (commands k : List ℕ) : Type 0 where
  pub made_by : ℕ
  pub among : Contains commands made_by
  pub others : slice_index_or edges made_by 0 ≢ user
  pub is : k ≡ undeclared_key (record {
    kind = kind;
    maker = slice_index_or edges made_by 0;
    user = user;
    path = path;
    made_by = made_by;
  })

-- what is told of a file that is an edge's output. `told` has the users and paths of which more is told.
pub record IsAnothersAt
    (builds : List BuildValue) (paths : List (List ℕ)) (edges : List ℕ) (told : List (List ℕ)) (path : ℕ)
    (commands k : List ℕ)
    : Type 0 where
  pub owner : ℕ
  pub output : IsOutputOf builds (path_at paths path) owner
  pub alone : Contains told (owner ∷ path ∷ []) → ⊥
  pub key : IsKeyBy edges owner path Anothers commands k

-- the same of a file below a number
pub record IsAnothersWhere
    (builds : List BuildValue) (paths : List (List ℕ)) (edges : List ℕ) (told lists : List (List ℕ)) (count : ℕ)
    (k : List ℕ)
    : Type 0 where
  pub path : ℕ
  pub below : path < count
  pub anothers : IsAnothersAt builds paths edges told path (successors_of lists path) k

-- what is told of a file at which a user's command looks
pub record IsLookAt
    (builds : List BuildValue) (paths : List (List ℕ)) (edges : List ℕ) (told : List (List ℕ)) (user used_by : ℕ)
    (used : CommandValue) (path : ℕ) (commands k : List ℕ)
    : Type 0 where
  pub look : Look
  pub undeclared : producer_of builds (path_at paths path) ≡ None
  pub alone : Contains told (user ∷ path ∷ []) → ⊥
  pub looks : look_at used (File path) ≡ Some look
  pub key : IsKeyBy edges user path (LookedAt look used_by) commands k

-- a file at which a user's command looks, among those that a test passes
pub record IsLookWhere
    (builds : List BuildValue) (paths : List (List ℕ)) (edges : List ℕ) (told lists : List (List ℕ))
    (user used_by : ℕ) (used : CommandValue) (P : ℕ → Type 0) (k : List ℕ)
    : Type 0 where
  pub path : ℕ
  pub passes : P path
  pub look : IsLookAt builds paths edges told user used_by used path (successors_of lists path) k

-- what was found, with more: all of the second is there, and nothing but the first is new
pub record Adds (old new : List (List ℕ)) (may must : List ℕ → Type 0) : Type 0 where
  pub stays : (k : List ℕ) → Contains old k → Contains new k
  pub sound : (k : List ℕ) → Contains new k → Contains old k ⊎ may k
  pub whole : (k : List ℕ) → must k → Contains new k

-- numbers of what is told, of which the first two fit those of edges
pub record IsOfUndeclared (k : List ℕ) : Type 0 where
  pub told : Undeclared
  pub is : k ≡ undeclared_key told
  pub maker : told.maker < 2 ^ 32
  pub user : told.user < 2 ^ 32

-- the look of a number, and the kind of three
abbrev pub look_by : ℕ → Look
look_by n = if n == 0 then look.Read else if n == 1 then look.Miss else if n == 2 then look.Stat else look.List

abbrev pub kind_by : ℕ → ℕ → ℕ → UndeclaredKind
kind_by kind used_by look = if kind == 0 then Anothers else LookedAt (look_by look) used_by

-- WHAT IS FOUND
-- it is undeclared or another's, and nothing more is told of that user and that file
pub record IsFound (s : Scene) (sides : List BuildValue) (told : List (List ℕ)) (u : Undeclared) : Type 0 where
  pub is : IsUndeclared s sides u.maker u.user u.path u.made_by u.kind
  pub alone : Contains told (u.user ∷ u.path ∷ []) → ⊥

-- exactly these, each once, in the order of their numbers
pub record AreFound
    (s : Scene) (sides : List BuildValue) (told : List (List ℕ)) (undeclared : List Undeclared)
    : Type 0 where
  pub exact : (u : Undeclared) → Contains undeclared u ↔ IsFound s sides told u
  pub rising : IsStrictlySortedBy (slice_cmp nat_cmp) (map undeclared_key undeclared)
