use Rattle.std.proofs.Common.{take}
use Rattle.rev_schedule.specs.Inputs.{IsLooked}
use Rattle.rev_schedule.proofs.inputs.look_at_all.Given as goal

abbrev pub invariant-loop-user : goal.invariant-loop-user
invariant-loop-user l = IsLooked l.build l.through (take l.user-index l.users) l.fn.missing.items l.missing.items l.turns.items
