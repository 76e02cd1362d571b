use Rattle.std.proofs.Common.{◌≡◌, take}
use Rattle.rev_conflicts.specs.Places.{last_slash}
use Rattle.rev_conflicts.proofs.folder.last_slash.Given as goal

abbrev pub invariant-loop-place : goal.invariant-loop-place
invariant-loop-place l = l.last ≡ last_slash (take l.place l.path)
