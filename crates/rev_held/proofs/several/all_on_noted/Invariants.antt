use Rattle.std.proofs.Common.{◌≡◌, take}
use Rattle.std.specs.Prelude.{filter}
use Rattle.rev_held.specs.Dependence.{depends_on}
use Rattle.rev_held.proofs.several.all_on_noted.Given as goal

abbrev pub invariant-loop-kept : goal.invariant-loop-kept
invariant-loop-kept l = l.numbers.items ≡ filter (depends_on l.history.timeline l.one) (take l.kept-index l.history.timeline.kept)
