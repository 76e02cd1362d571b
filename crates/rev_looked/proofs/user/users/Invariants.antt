use Rattle.std.proofs.Common.{◌≡◌, take}
use Rattle.std.specs.List.{flat_map}
use Rattle.rev_looked.specs.Needs.{scene}
use Rattle.rev_looked.specs.Users.{users_at}
use Rattle.rev_looked.proofs.user.users.Given as goal

-- those of the kept events so far
abbrev pub invariant-loop-later : goal.invariant-loop-later
invariant-loop-later l =
    l.users.items ≡ flat_map
    (users_at (scene l.history.timeline l.observation.paths l.observation.commands l.edges) l.number)
    (take l.later-index l.history.timeline.kept)
