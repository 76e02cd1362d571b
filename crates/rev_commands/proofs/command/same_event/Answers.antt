use Rattle.std.proofs.Common.{◌≡◌, sym, ◌∙◌, subst, true}
use Rattle.rev_events.specs.Same.{event_eq}
use Rattle.rev_events.proofs.SameLemmas.{equal_events_are_one}
use Rattle.rev_commands.proofs.command.same_event.Goals as goal

pub returns : goal.returns
returns c =
    let a = c.args.event.now in
    let b = c.args.other.now in (
      λ h. equal_events_are_one.equal a b (sym c.eq.ensures ∙ h),
      λ e. c.eq.ensures ∙ subst (λ it. event_eq a it ≡ true) e (equal_events_are_one.itself a),
    )
