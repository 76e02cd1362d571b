use Rattle.std.specs.Prelude.{slice_get}
use Rattle.rev_marks.specs.Cones.{seen}
use Rattle.rev_marks.specs.Lanes.{AreWalked}
use Rattle.rev_marks.proofs.cones.marks_seen.Given as goal

abbrev pub invariant-loop-number : goal.invariant-loop-number
invariant-loop-number l =
    AreWalked (seen l.history.timeline l.beside) l.history.timeline.kept (slice_get l.asked) l.number-index l.table l.marks.entries
