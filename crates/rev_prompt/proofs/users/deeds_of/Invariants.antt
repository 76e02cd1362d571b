use Rattle.std.proofs.Common.{◌≡◌, map, take}
use Rattle.rev_prompt.specs.Users.{deed_of}
use Rattle.rev_prompt.proofs.users.deeds_of.Given as goal

-- those of the uses so far
abbrev pub invariant-loop-used : goal.invariant-loop-used
invariant-loop-used l = l.deeds.items ≡ map (deed_of l.history.timeline) (take l.used-index l.uses)
