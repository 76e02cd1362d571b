-- What one command saw and changed.
use Rattle.std.specs.Prelude.{ℕ, ◌-◌, length, nat_eq, nat_lt, Bool, true, false, ◌&&◌, ◌||◌, is_none, slice_get, List, [], ◌∷◌, ◌++◌, map, Option, Some, None}
use Rattle.std.specs.List.{AllByRecursion, slice_set}
use Rattle.rev_observed.specs.Within.{RangesAreWithin}
use Rattle.rev_observation.specs.declared.blocks.Line.{Line}
use Rattle.rev_observation.specs.declared.deed.Deed.{Deed}
use Rattle.rev_observation.specs.declared.flag.Flag.{Flag}
use Rattle.rev_observation.specs.Deeds.{deed_rank, has_text}

-- the edge's first output, why the command was not observed whole, what it did, and how many entries are not named
pub record CommandValue : Type 0 where
  pub output : List ℕ
  pub flags : List Flag
  pub lines : List Line
  pub outside : Option ℕ

abbrev pub is_empty : {T : Type 0} → List T → Bool
is_empty [] = true
is_empty (x ∷ xs) = false

abbrev pub last_line : List Line → Option Line
last_line lines = slice_get lines (length lines - 1)

-- Whether a line of a deed may stand behind the last line of a block. Deeds stand in their order, and only those with a
-- text may have several lines.
abbrev pub may_follow : Option Line → Deed → Bool
may_follow None deed = true
may_follow (Some last) deed =
    nat_lt (deed_rank last.deed) (deed_rank deed) || (nat_eq (deed_rank last.deed) (deed_rank deed) && has_text deed)

-- whether such a line may stand behind the lines of a command, of which the count of entries that are not named is last
abbrev pub may_take : Deed → CommandValue → Bool
may_take deed c = is_none c.outside && may_follow (last_line c.lines) deed

-- flags stand before all other lines of a command
abbrev pub may_flag : CommandValue → Bool
may_flag c = is_none c.outside && is_empty c.lines

-- a command of which nothing is known yet
abbrev pub new_command : List ℕ → CommandValue
new_command output = record { output = output; flags = []; lines = []; outside = None }

abbrev pub with_flag : CommandValue → Flag → CommandValue
with_flag c flag = record c { flags = c.flags ++ flag ∷ [] }

abbrev pub with_line : CommandValue → Line → CommandValue
with_line c line = record c { lines = c.lines ++ line ∷ [] }

abbrev pub with_outside : CommandValue → ℕ → CommandValue
with_outside c n = record c { outside = Some n }

-- the first output of each command
abbrev pub outputs_of : List CommandValue → List (List ℕ)
outputs_of commands = map (λ c. c.output) commands

-- the command that came last, if one did
abbrev pub last_of : List CommandValue → Option CommandValue
last_of commands = slice_get commands (length commands - 1)

-- the commands with another one in the place of the last
abbrev pub with_last : List CommandValue → CommandValue → List CommandValue
with_last commands c = slice_set commands (length commands - 1) c

-- the numbers of entries are below this, in lines and commands
abbrev pub LinesAreWithin : ℕ → List Line → Type 0
LinesAreWithin count lines = AllByRecursion (λ (l : Line). RangesAreWithin count l.entries) lines

abbrev pub AreWithin : ℕ → List CommandValue → Type 0
AreWithin count commands = AllByRecursion (λ (c : CommandValue). LinesAreWithin count c.lines) commands
