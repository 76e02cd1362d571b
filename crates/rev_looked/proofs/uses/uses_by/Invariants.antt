use Rattle.std.proofs.Common.{◌≡◌, ◌++◌, drop}
use Rattle.rev_looked.specs.Uses.{uses_by}
use Rattle.rev_looked.proofs.uses.uses_by.Given as goal

-- those so far, and those of the commands that are left
abbrev pub invariant-loop-place : goal.invariant-loop-place
invariant-loop-place l =
    l.uses.items ++ uses_by l.deed (drop l.place l.edges) (drop l.place l.commands) l.path
    ≡ uses_by l.deed l.edges l.commands l.path
