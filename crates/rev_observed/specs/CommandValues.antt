-- What one command did.
use Rattle.std.specs.Prelude.{ℕ, ◌<◌, length, nat_eq, nat_lt, Bool, ◌&&◌, is_none, if◌then◌else◌, List, [], ◌∷◌, ◌++◌, Option, Some, None}
use Rattle.std.specs.List.{AllByRecursion, list_all}
use Rattle.rev_observed.specs.declared.command.Uses.{Uses}
use Rattle.rev_observed.specs.declared.flags.Flags.{Flags}
use Rattle.rev_observed.specs.declared.kind.Kind.{Kind}
use Rattle.rev_observed.specs.declared.path_set.PathRange.{PathRange}
use Rattle.rev_observed.specs.Kinds.{rank_of}

-- the edge's first output, why the command was not observed whole, what it did, and how many places are not named
pub record CommandValue : Type 0 where
  pub output : List ℕ
  pub flags : Flags
  pub uses : List Uses
  pub outside : Option ℕ

-- each kind once at most, in the order of the kinds, and with a path at least
abbrev pub AreUses : List Uses → Type 0
AreUses [] = Unit {0}
AreUses (u ∷ us) = (0 < length u.paths) × AllByRecursion (λ (v : Uses). rank_of u.kind < rank_of v.kind) us × AreUses us

-- the paths with which a command did what a kind says
abbrev pub paths_of : Kind → List Uses → List PathRange
paths_of kind [] = []
paths_of kind (u ∷ us) = if nat_eq (rank_of u.kind) (rank_of kind) then u.paths else paths_of kind us

-- a command of which nothing is known yet
abbrev pub new_command : List ℕ → Flags → CommandValue
new_command output flags = record { output = output; flags = flags; uses = []; outside = None }

-- whether a line of this kind may stand behind the lines of a command: the kinds before it are lesser, and the count of
-- places that are not named comes last
abbrev pub may_take : Kind → CommandValue → Bool
may_take kind c = is_none c.outside && list_all (λ (u : Uses). nat_lt (rank_of u.kind) (rank_of kind)) c.uses

-- a command that did this too
abbrev pub with_uses : CommandValue → Kind → List PathRange → CommandValue
with_uses c kind ranges = record c { uses = c.uses ++ (record { kind = kind; paths = ranges }) ∷ [] }

-- a command with so many places that are not named
abbrev pub with_outside : CommandValue → ℕ → CommandValue
with_outside c n = record c { outside = Some n }
