use Rattle.std.proofs.Common.{IfNone, IfSome, subst}
use Rattle.rev_workers.specs.Closing.{AreStated, IsMisstated}
use Rattle.rev_workers.specs.Locked.{Locked}
use Rattle.rev_workers.proofs.Closed.{closed-mismatch, closed-ok}
use Rattle.rev_workers.proofs.held.Held.close.Goals as goal

pub returns-clause-ok : goal.returns-clause-ok
returns-clause-ok g c =
    let m = c.misstated-misstated.result in
    let here : IfNone m (AreStated c.self.inside.desk.lanes c.self.inside.desk.journal c.args.lanes.items) =
    rw (← c.lanes-count.ensures.lanes, ← c.deref.ensures.value, ← c.journal.ensures.journal) c.misstated-misstated.ensures.none in
    let stated = subst (λ (h : Locked). IfNone m (AreStated h.desk.lanes h.desk.journal c.args.lanes.items)) c.self.view_is here in
    closed-ok c.close_by.result c.args.self.desk c.args.lanes.items m c.close_by.ensures.desk c.close_by.ensures.ok stated

pub returns-clause-mismatch : goal.returns-clause-mismatch
returns-clause-mismatch g c =
    let m = c.misstated-misstated.result in
    let here : IfSome m (λ n. IsMisstated c.self.inside.desk.lanes c.self.inside.desk.journal c.args.lanes.items n) =
    rw (← c.lanes-count.ensures.lanes, ← c.deref.ensures.value, ← c.journal.ensures.journal) c.misstated-misstated.ensures.some in
    let misstated = subst (λ (h : Locked). IfSome m (λ n. IsMisstated h.desk.lanes h.desk.journal c.args.lanes.items n)) c.self.view_is here in
    closed-mismatch c.close_by.result c.args.self.desk c.args.lanes.items m c.close_by.ensures.desk c.close_by.ensures.mismatch misstated
