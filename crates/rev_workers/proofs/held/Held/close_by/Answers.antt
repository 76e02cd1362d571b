use Rattle.std.proofs.Common.{◌≡◌, ◌<◌, ◌≤◌, ℕ, length, subst, arith}
use Rattle.rev_workers.specs.Closing.{IsOneOfEach, numbered}
use Rattle.rev_workers.specs.Locked.{Locked}
use Rattle.rev_workers.proofs.Counts.{one_of_each, is_missing, all_counted}
use Rattle.rev_workers.proofs.held.Held.close_by.Goals as goal

pub returns-in-Some-clause-counted : goal.returns-in-Some-clause-counted
returns-in-Some-clause-counted g c = let i = c.self.invariant in
    (all_counted c.self.inside.desk c.args.lanes.items g.L.Ledger.parts c.self.inside.book.total i.0 i.1 c.settle.ensures.few c.settle.ensures.all)

pub returns-in-Some-misstated-clause-counted : goal.returns-in-Some-misstated-clause-counted
returns-in-Some-misstated-clause-counted g c = let i = c.self.invariant in
    (all_counted c.self.inside.desk c.args.lanes.items g.L.Ledger.parts c.self.inside.book.total i.0 i.1 c.settle.ensures.few c.settle.ensures.all)

pub returns-clause-counted : goal.returns-clause-counted
returns-clause-counted g c = let i = c.self.invariant in
    (all_counted c.self.inside.desk c.args.lanes.items g.L.Ledger.parts c.self.inside.book.total i.0 i.1 c.settle.ensures.few c.settle.ensures.all)

pub returns-in-Some-clause-missing : goal.returns-in-Some-clause-missing
returns-in-Some-clause-missing g c = λ is.
    rw (← c.lanes-count.ensures.lanes, ← c.deref.ensures.value) (is_missing c.lanes-count.result c.deref.result.now c.in-Some.lane c.in-Some.ensures.some)

pub returns-in-Some-misstated-clause-mismatch : goal.returns-in-Some-misstated-clause-mismatch
returns-in-Some-misstated-clause-mismatch g c = λ is.
    let few : length c.args.lanes.items ≤ c.self.inside.desk.lanes = omega (arith, c.settle.ensures.few, c.self.invariant.1) in
    let all : (n : ℕ) → n < c.self.inside.desk.lanes → numbered n c.args.lanes.items ≡ 1 = rw (← c.lanes-count.ensures.lanes, ← c.deref.ensures.value) c.in_default.ensures.none in
    (one_of_each c.self.inside.desk.lanes c.args.lanes.items all few, c.in-Some-misstated.is)

pub returns-clause-ok : goal.returns-clause-ok
returns-clause-ok g c =
    let few : length c.args.lanes.items ≤ c.self.inside.desk.lanes = omega (arith, c.settle.ensures.few, c.self.invariant.1) in
    let all : (n : ℕ) → n < c.self.inside.desk.lanes → numbered n c.args.lanes.items ≡ 1 = rw (← c.lanes-count.ensures.lanes, ← c.deref.ensures.value) c.in_default.ensures.none in (
      c.in_default-misstated.is,
      subst (λ (h : Locked). IsOneOfEach h.desk.lanes c.args.lanes.items) c.self.view_is
          (one_of_each c.self.inside.desk.lanes c.args.lanes.items all few),
    )
