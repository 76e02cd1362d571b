use Rattle.std.proofs.Common.{[], ap}
use Rattle.std.specs.Prelude.{find}
use Rattle.rev_held.proofs.SeveralLemmas.{named-is}
use Rattle.rev_held.proofs.several.named.Goals as goal

pub returns : goal.returns
returns c =
    named-is c.args.footprint.now c.writes.result c.reads.result c.add_all-2.new.set.keys c.writes.ensures.same c.reads.ensures.same
    (c.in_ok-add_all-2.ensures c.writes.result (c.in_ok-add_all.ensures [] (λ q. ap (find q) c.new-set.ensures.empty)))
