use Rattle.std.proofs.Common.{◌≡◌}
use Rattle.rev_recording.proofs.includes.Includes.next_missing.Given as goal

-- no file is given meanwhile
abbrev pub invariant-loop : goal.invariant-loop
invariant-loop l = l.self ≡ l.fn.self
