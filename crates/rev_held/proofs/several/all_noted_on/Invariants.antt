use Rattle.std.proofs.Common.{◌≡◌, take}
use Rattle.std.specs.Prelude.{filter}
use Rattle.rev_held.specs.Dependence.{depends_on}
use Rattle.rev_held.proofs.several.all_noted_on.Given as goal

abbrev pub invariant-loop-kept : goal.invariant-loop-kept
invariant-loop-kept l = l.numbers.items ≡ filter (λ k. depends_on l.history.timeline k l.other) (take l.kept-index l.history.timeline.kept)
