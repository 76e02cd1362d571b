use Rattle.std.proofs.Common.{◌≡◌, true, ap, sym, ◌∙◌}
use Rattle.rev_cells.specs.State.{State, mark_of}
use Rattle.rev_events.specs.Refusal.{is_through_mark, is_wanted_mark}
use Rattle.rev_history.specs.Timeline.{state_at}
use Rattle.rev_witness.specs.Progress.{is_due}
use Rattle.rev_witness.proofs.ProgressLemmas.{through-is-due, wanted-is-due}
use Rattle.rev_witness.proofs.happening.ends.Goals as goal
use Rattle.rev_witness.proofs.happening.ends.Goals.{then-is_wanted, else-is_wanted}

pub returns-then-is_phony-clause-goes : goal.returns-then-is_phony-clause-goes
returns-then-is_phony-clause-goes c = λ opening way free.
    let t = c.args.history.now.timeline in
    let due : is_due (mark_of (state_at t) c.args.edge) ≡ true = elim c.if-is_wanted.branch [
      | then-is_wanted w ↦ wanted-is-due _ (ap (λ (s : State). is_wanted_mark (mark_of s c.args.edge)) (sym c.cells.ensures.state) ∙ sym c.is_wanted.ensures ∙ w.if-is_wanted.true)
      | else-is_wanted w ↦ through-is-due _ (ap (λ (s : State). is_through_mark (mark_of s c.args.edge)) (sym w.cells-else-is_wanted.ensures.state) ∙ sym w.is_through-is_due.ensures ∙ sym w.is_due-is ∙ c.if-not-is_due.false)
    ] in
    c.passes.ensures.goes opening way free (sym c.is_phony.ensures ∙ c.if-is_phony.true) due

pub returns-clause-goes : goal.returns-clause-goes
returns-clause-goes c = λ opening way free.
    let t = c.args.history.now.timeline in
    let due : is_due (mark_of (state_at t) c.args.edge) ≡ true = elim c.if-is_wanted.branch [
      | then-is_wanted w ↦ wanted-is-due _ (ap (λ (s : State). is_wanted_mark (mark_of s c.args.edge)) (sym c.cells.ensures.state) ∙ sym c.is_wanted.ensures ∙ w.if-is_wanted.true)
      | else-is_wanted w ↦ through-is-due _ (ap (λ (s : State). is_through_mark (mark_of s c.args.edge)) (sym w.cells-else-is_wanted.ensures.state) ∙ sym w.is_through-is_due.ensures ∙ sym w.is_due-is ∙ c.if-not-is_due.false)
    ] in
    c.runs.ensures.goes opening way free (sym c.is_phony.ensures ∙ c.if-is_phony.false) due
