use Rattle.std.proofs.Common.{Bool, List, [], subst, sym}
use Rattle.std.specs.Global.{Vec}
use Rattle.rev_needless.specs.Laws.{IsPart}
use Rattle.rev_needless.specs.Needless.{IsNeedless}
use Rattle.rev_needless.specs.Without.{marks_in}
use Rattle.rev_needless.proofs.LawLemmas.{nothing-is-needless, nothing-is-part}
use Rattle.rev_needless.proofs.choosing.choose.Goals as goal

pub returns-then-not-holds-clause-needless : goal.returns-then-not-holds-clause-needless
returns-then-not-holds-clause-needless c =
    subst (λ (xs : List (Vec Bool)). IsNeedless c.args.known.now (marks_in xs)) (sym c.new.ensures.items) (nothing-is-needless c.args.known.now)

pub returns-then-not-holds-clause-part : goal.returns-then-not-holds-clause-part
returns-then-not-holds-clause-part c =
    subst (λ (xs : List (Vec Bool)). IsPart (marks_in xs) (marks_in c.args.may_go.now)) (sym c.new.ensures.items) (nothing-is-part (marks_in c.args.may_go.now))

pub returns-clause-needless : goal.returns-clause-needless
returns-clause-needless c =
    subst (λ (xs : List (Vec Bool)). IsNeedless c.args.known.now (marks_in xs)) c.deref.ensures.value (c.in_ok-holds.ensures.needless c.if-not-holds.false)

pub returns-clause-part : goal.returns-clause-part
returns-clause-part c =
    subst (λ (xs : List (Vec Bool)). IsPart (marks_in xs) (marks_in c.args.may_go.now)) c.deref.ensures.value (c.in_ok-holds.ensures.part c.if-not-holds.false)
