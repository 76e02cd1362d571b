use Rattle.std.proofs.Common.{◌≡◌, length}
use Rattle.rev_certified.specs.Whole.{AreWholeBy}
use Rattle.rev_certified.proofs.whole.seen_whole.Given as goal

abbrev pub invariant-loop-number : goal.invariant-loop-number
invariant-loop-number l =
    (length l.marks.items ≡ length l.graph.manifest.builds)
    × AreWholeBy l.commands l.edges l.number l.marks.items
