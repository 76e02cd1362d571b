use Rattle.std.proofs.Common.{◌≡◌, take}
use Rattle.rev_timeline.specs.Ran.{spans_of}
use Rattle.rev_timeline.proofs.rows.spans_of.Given as goal

-- those of the runs so far
abbrev pub invariant-loop-one : goal.invariant-loop-one
invariant-loop-one l = l.spans.items ≡ spans_of (take l.one-index l.ran)
