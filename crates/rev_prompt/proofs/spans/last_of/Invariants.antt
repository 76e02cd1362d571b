use Rattle.std.proofs.Common.{◌≡◌, take}
use Rattle.rev_prompt.specs.Spans.{last_in}
use Rattle.rev_prompt.proofs.spans.last_of.Given as goal

-- the last of the runs so far
abbrev pub invariant-loop-run : goal.invariant-loop-run
invariant-loop-run l = l.last ≡ last_in l.edge (take l.run-index l.runs)
