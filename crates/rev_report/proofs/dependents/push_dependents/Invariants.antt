use Rattle.std.proofs.Common.{◌≡◌, ◌++◌, codes, length}
use Rattle.std.specs.Fmt.{decimal}
use Rattle.std.specs.List.{flat_map}
use Rattle.rev_report.specs.Dependents.{dependents}
use Rattle.rev_report.proofs.NearestLemmas.{dependents_from}
use Rattle.rev_report.proofs.dependents.push_dependents.Given as goal

-- those so far, and those that are still to come, are all
abbrev pub invariant-loop-next : goal.invariant-loop-next
invariant-loop-next l =
    l.text.items ++ flat_map (λ m. codes " " ++ decimal m) (dependents_from l.history.timeline l.number l.last)
    ≡ l.fn.text.items ++ flat_map (λ m. codes " " ++ decimal m) (dependents l.history.timeline l.number)

abbrev pub decreases-loop-next : goal.decreases-loop-next
decreases-loop-next l = length (dependents_from l.history.timeline l.number l.last)
