use Rattle.std.proofs.Common.{ℕ, List, subst}
use Rattle.std.specs.Global.{Vec}
use Rattle.rev_ranks.specs.Graph.{graph_of}
use Rattle.rev_conflicts.specs.Tables.{AreNexts}
use Rattle.rev_conflicts.proofs.nexts.with_nexts.Goals as goal

pub returns-clause-nexts : goal.returns-clause-nexts
returns-clause-nexts c = subst (λ (ls : List (Vec ℕ)). AreNexts (graph_of ls) c.in_ok-nexts.nexts.items) c.deref.ensures.value c.in_ok-nexts.ensures
