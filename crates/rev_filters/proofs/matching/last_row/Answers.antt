use Rattle.std.proofs.Common.{true, length, set, ap, List, Bool}
use Rattle.rev_filters.proofs.RowLemmas.{last-row}
use Rattle.rev_filters.proofs.matching.last_row.Goals as goal

pub returns : goal.returns
returns c =
    last-row c.args.bytes.now (set c.in_ok-row.row.items (length c.args.bytes.now) true)
    (ap (λ (r : List Bool). set r (length c.args.bytes.now) true) (c.in_ok-row.ensures.items_if_clones_equal (λ y same. same)))
