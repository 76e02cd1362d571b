use Rattle.std.proofs.Common.{◌≡◌, take}
use Rattle.rev_prompt.specs.Spans.{others_in}
use Rattle.rev_prompt.proofs.spans.others.Given as goal

-- those of the runs so far
abbrev pub invariant-loop-run : goal.invariant-loop-run
invariant-loop-run l = l.spans.items ≡ others_in l.span (take l.run-index l.runs)
