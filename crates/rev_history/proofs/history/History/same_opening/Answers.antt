use Rattle.std.proofs.Common.{ap, subst}
use Rattle.rev_history.specs.Order.{IsSameOpening}
use Rattle.rev_history.specs.Timeline.{IsHistory}
use Rattle.rev_history.specs.Value.{HistoryValue}
use Rattle.rev_history.proofs.Fields.{history_of}
use Rattle.rev_history.proofs.OrderLemmas.{opening_told, told_of}
use Rattle.rev_history.proofs.history.History.same_opening.Goals as goal

pub returns-clause-same : goal.returns-clause-same
returns-clause-same c =
    told_of c.both.result _ (IsSameOpening c.args.self.now.timeline c.args.other.now.timeline) c.both.ensures
    (opening_told c.lends_alike-graphs.result c.same-openings.result c.self.inside c.other.inside c.args.self.now.timeline c.args.other.now.timeline
    (ap (λ (h : HistoryValue). h.timeline) c.self.view_is) (ap (λ (h : HistoryValue). h.timeline) c.other.view_is) c.lends_alike-graphs.ensures c.same-openings.ensures)

pub returns-clause-legal : goal.returns-clause-legal
returns-clause-legal c = subst (λ (h : HistoryValue). IsHistory h.timeline) c.self.view_is (history_of c.self.inside c.self.invariant.sound)
