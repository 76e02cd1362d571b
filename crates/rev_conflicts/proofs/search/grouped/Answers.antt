use Rattle.std.proofs.Common.{ℕ, List, length, subst}
use Rattle.std.specs.List.Sorted.{IsPermutation}
use Rattle.rev_races.proofs.GroupLemmas.{edges-of}
use Rattle.rev_conflicts.proofs.search.grouped.Goals as goal

pub returns : goal.returns
returns c =
    edges-of (length c.args.edges.now) c.sort_by.new.self.items
    (subst (λ (xs : List ℕ). IsPermutation xs c.sort_by.new.self.items) c.in_ok-commands.ensures c.sort_by.ensures.permutation)
