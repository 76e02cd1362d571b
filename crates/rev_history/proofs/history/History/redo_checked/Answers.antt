use Rattle.std.proofs.Common.{◌≡◌, false, Some, None, Err, slice_index_or, refl, ap, ap₂, sym, ◌∙◌}
use Rattle.rev_causal.specs.Chosen.{is_among}
use Rattle.rev_events.specs.declared.refusal.Refusal.TheVariants.{NotNow}
use Rattle.rev_events.specs.Refusal.{not_now}
use Rattle.rev_history.specs.Value.{HistoryValue}
use Rattle.rev_history.proofs.Fields.{redo_refusal_found, not_now_found}
use Rattle.rev_history.proofs.Listed.{has_now, writes_now}
use Rattle.rev_history.proofs.history.History.redo_checked.Goals as goal

pub returns-in-Some-nearest : goal.returns-in-Some-nearest
returns-in-Some-nearest c =
    let apart : is_among c.self.inside.kept.items c.args.number ≡ false = sym c.has.ensures ∙ c.if-has.false in
    sym (redo_refusal_found c.self.inside c.self.invariant.sound c.args.self.now.timeline (ap (λ (h : HistoryValue). h.timeline) c.self.view_is) c.args.number c.in-Some.event.now c.in_ok-footprint-in-Ok.footprint c.self.inside.kept.items
    refl apart c.in_ok-footprint-in-Ok.ensures c.in-Some.ensures (sym c.in-Ok.ensures.accepted)
    (Some c.in-Some-nearest.other) c.in-Some-nearest.ensures.same)

pub returns-in-None : goal.returns-in-None
returns-in-None c =
    let apart : is_among c.self.inside.kept.items c.args.number ≡ false = sym c.has.ensures ∙ c.if-has.false in (
      sym (redo_refusal_found c.self.inside c.self.invariant.sound c.args.self.now.timeline (ap (λ (h : HistoryValue). h.timeline) c.self.view_is) c.args.number c.in-Some.event.now c.in_ok-footprint-in-Ok.footprint c.self.inside.kept.items
          refl apart c.in_ok-footprint-in-Ok.ensures c.in-Some.ensures (sym c.in-Ok.ensures.accepted)
          None c.in-None.ensures.same),
      has_now c.self.inside c.self.invariant.sound c.args.self.now.timeline (ap (λ (h : HistoryValue). h.timeline) c.self.view_is) c.args.number c.in-Some.event.now c.in_ok-footprint-in-Ok.footprint c.in-Some.ensures c.in_ok-footprint-in-Ok.ensures,
      record {
        stored = writes_now c.self.inside c.self.invariant.sound c.args.self.now.timeline (ap (λ (h : HistoryValue). h.timeline) c.self.view_is) c.args.number c.in-Some.event.now c.in-Ok.writes.items c.in-Some.ensures c.in-Ok.ensures.writes;
        fits = c.in-Ok.ensures.fits;
        once = c.in-Ok.ensures.once;
      },
    )

pub returns-in-Err-Refused : goal.returns-in-Err-Refused
returns-in-Err-Refused c =
    let apart : is_among c.self.inside.kept.items c.args.number ≡ false = sym c.has.ensures ∙ c.if-has.false in
    sym (ap₂ (λ code numbers. Some (NotNow code (slice_index_or numbers 0 None))) c.code.ensures c.numbers.ensures
    ∙ ap (λ r. Some (not_now r)) c.in-Err-Refused.refusal-is
    ∙ not_now_found c.self.inside c.self.invariant.sound c.args.self.now.timeline (ap (λ (h : HistoryValue). h.timeline) c.self.view_is) c.args.number c.in-Some.event.now c.in-Err-Refused.refusal c.self.inside.kept.items
    refl apart c.in-Some.ensures (sym (c.in-Err-Refused.ensures.refused c.in-Err-Refused.refusal (ap Err c.in-Err-Refused.field-0-is))))
