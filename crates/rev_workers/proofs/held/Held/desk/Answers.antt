use Rattle.std.proofs.Common.{subst}
use Rattle.rev_workers.specs.Locked.{Locked}
use Rattle.rev_workers.specs.Waiting.{WhoWaitsIsRefused}
use Rattle.rev_workers.proofs.Stands.{who-waits}
use Rattle.rev_workers.proofs.held.Held.desk.Goals as goal

pub returns-clause-refused : goal.returns-clause-refused
returns-clause-refused g c =
    subst (λ (h : Locked). WhoWaitsIsRefused h.desk h.standings) c.self.view_is
    (who-waits c.self.inside.desk c.self.inside.standings.items c.self.invariant.4)
