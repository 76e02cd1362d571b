use Rattle.std.proofs.Common.{◌≡◌, Bool, false, cond, ap, sym, ◌∙◌, refl, Option, Err, Some, None, is_some, ℕ}
use Rattle.rev_events.specs.declared.refusal.Refusal.{Refusal}
use Rattle.rev_events.specs.declared.refusal.Refusal.TheVariants.{Paused}
use Rattle.rev_manifest.specs.Manifest.{ManifestValue}
use Rattle.rev_history.specs.Timeline.{Timeline, accept_refusal}
use Rattle.rev_history.specs.Value.{HistoryValue}
use Rattle.rev_desk.specs.declared.desk_state.DeskState.{DeskState}
use Rattle.rev_desk.specs.declared.reply.Reply.TheVariants as reply
use Rattle.rev_desk.specs.Machine.{DeskStateValue, least_met}
use Rattle.rev_desk.proofs.DeskStateLemmas.{Does-refused, Does-done, IsReady-accepted}
use Rattle.rev_desk.proofs.desk_state.DeskState.happen.Goals as goal

pub returns-in-Err-Refused : goal.returns-in-Err-Refused
returns-in-Err-Refused c =
    let with : HistoryValue → DeskState = λ h. record { alloc = c.args.self.now.alloc; history = h; breaks = c.args.self.now.breaks; paused = c.args.self.now.paused } in
    Does-refused c.args.self.now _ c.args.number _ _ _ _ (ap with c.in-Err-Refused.ensures.err)
    (ap (λ (b : Bool). cond b (Some Paused) (accept_refusal c.args.self.now.history.timeline c.args.event.now)) c.if-self.false ∙ c.in-Err-Refused.ensures.refused c.in-Err-Refused.refusal (ap Err c.in-Err-Refused.field-0-is) ∙ ap Some (sym c.in-Err-Refused.refusal-is)) c.requires

pub returns-in-Ok : goal.returns-in-Ok
returns-in-Ok c =
    let met : c.in_ok-met.met ≡ least_met c.args.self.now.history.timeline.manifest c.args.event.now c.args.self.now.breaks.standing.items =
    c.in_ok-met.ensures ∙ ap (λ (m : ManifestValue). least_met m c.args.event.now c.args.self.now.breaks.standing.items) c.graph.ensures in
    let with : Timeline → Bool → DeskStateValue = λ t b. record { history = t; breaks = c.args.self.now.breaks.standing.items; paused = b } in
    Does-done c.args.self.now _ c.args.number _ _ _ (reply.Accepted c.args.number c.in_ok-met.met)
    (ap (λ (b : Bool). cond b (Some Paused) (accept_refusal c.args.self.now.history.timeline c.args.event.now)) c.if-self.false ∙ c.in-Ok.ensures.free)
    (ap (reply.Accepted c.args.number) met)
    (ap (λ t. with t c.is_some-self.result) c.in-Ok.ensures.ok ∙ ap (with _) (c.is_some-self.ensures ∙ ap is_some met))
    (IsReady-accepted c.args.self.now _ c.args.number c.args.event.now c.in-Ok.ensures.ok refl c.requires)
