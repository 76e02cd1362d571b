use Rattle.std.proofs.Common.{◌≡◌, ◌<◌, length, take}
use Rattle.std.specs.Prelude.{All}
use Rattle.std.specs.List.{filter_map}
use Rattle.rev_suspects.specs.Failures.{AreStarts, failure_at}
use Rattle.rev_suspects.specs.declared.failed.Failure.{Failure}
use Rattle.rev_suspects.proofs.failed.failures.Given as goal

abbrev pub invariant-loop-number : goal.invariant-loop-number
invariant-loop-number l = record {
  starts : AreStarts l.history.timeline (take l.number-index l.history.timeline.kept) l.begins.items;
  found : l.failures.items ≡ filter_map (failure_at l.history.timeline) (take l.number-index l.history.timeline.kept);
  within : All (λ (f : Failure). f.edge < length l.history.timeline.manifest.builds) l.failures.items;
}
