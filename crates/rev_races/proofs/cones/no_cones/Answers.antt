use Rattle.std.proofs.Common.{None, rules}
use Rattle.rev_races.proofs.ConeMarks.{none-asked}
use Rattle.rev_races.proofs.cones.no_cones.Goals as goal

pub returns : goal.returns
returns c = λ t.
    none-asked t (record { ends = c.args.ends; asked = c.new.result; all = c.new-2.result; beside = None }) c.new.ensures.items c.new-2.ensures.empty
    (search rules)
