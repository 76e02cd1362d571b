use Rattle.std.proofs.Common.{take}
use Rattle.rev_suspects.specs.Past.{IsPast}
use Rattle.rev_suspects.specs.Suspects.{AreFound}
use Rattle.rev_suspects.proofs.suspected.go_over.Given as goal

abbrev pub invariant-loop-number : goal.invariant-loop-number
invariant-loop-number l = record {
  past : IsPast l.history.timeline (take l.number-index l.history.timeline.kept) l.past.timeline;
  found : AreFound l.history.timeline l.files l.failures (take l.number-index l.history.timeline.kept) l.lists.items;
}
