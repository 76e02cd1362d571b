use Rattle.std.proofs.Common.{ap, subst, sym, ◌∙◌}
use Rattle.rev_causal.proofs.ByNumber as by_number
use Rattle.rev_causal.proofs.Chosen.{chosen-rises}
use Rattle.rev_footprint.specs.Value.{print_of}
use Rattle.rev_history.specs.Timeline.{IsHistory, kept_events, machine_at}
use Rattle.rev_history.specs.Value.{HistoryValue}
use Rattle.rev_history.specs.Sound.{kept_prints}
use Rattle.rev_history.proofs.Fields.{history_of}
use Rattle.rev_history.proofs.Listed.{nearest_found}
use Rattle.rev_history.proofs.NearestLemmas.{kept_are_named, kept_named, named_numbers, named_rise}
use Rattle.rev_history.proofs.history.History.nearest.Goals as goal

pub returns-clause-same : goal.returns-clause-same
returns-clause-same c =
    nearest_found c.self.inside c.self.invariant.sound c.args.self.now.timeline (ap (λ (h : HistoryValue). h.timeline) c.self.view_is) c.args.number c.args.footprint.now c.nearest.result
    (c.nearest.ensures (kept_prints c.self.inside) (kept_named c.self.inside) (named_rise c.self.inside c.self.invariant) (named_numbers c.self.inside c.self.invariant ∙ sym c.as_slice.ensures.same) c.self.invariant.shown
    (kept_are_named c.self.inside c.self.invariant))

pub returns-clause-least : goal.returns-clause-least
returns-clause-least c = λ k found.
    let t = c.args.self.now.timeline in
    let h : IsHistory t = subst (λ (h : HistoryValue). IsHistory h.timeline) c.self.view_is (history_of c.self.inside c.self.invariant.sound) in
    by_number.first_above_is_least (machine_at t) t.opening c.args.number (print_of c.args.footprint.now) (kept_events t) k (chosen-rises t.accepted t.kept h.rising) (sym (returns-clause-same c) ∙ found)
