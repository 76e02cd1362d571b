use Rattle.std.proofs.Common.{ap, ◌∙◌, sym}
use Rattle.rev_observed.specs.PathSets.{are_rising}
use Rattle.rev_observed.proofs.SetLemmas.{rising}
use Rattle.rev_observed.proofs.path_set.PathSet.new.Goals as goal

pub invariant_of-result : goal.invariant_of-result
invariant_of-result c =
    rising c.args.ranges.items (ap are_rising (sym c.deref.ensures.value) ∙ sym c.rise.ensures ∙ c.if-not-rise.false)
