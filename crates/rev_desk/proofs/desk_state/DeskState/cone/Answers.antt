use Rattle.std.proofs.Common.{◌≡◌, ap, sym, ◌∙◌, refl, Some, Err}
use Rattle.rev_history.specs.Timeline.{cone_refusal}
use Rattle.rev_desk.specs.Machine.{refused_by}
use Rattle.rev_history.specs.Value.{HistoryValue}
use Rattle.rev_desk.specs.declared.desk_state.DeskState.{DeskState}
use Rattle.rev_desk.proofs.DeskStateLemmas.{Does-refused}
use Rattle.rev_desk.proofs.desk_state.DeskState.cone.Goals as goal

pub returns-in-Err-Refused : goal.returns-in-Err-Refused
returns-in-Err-Refused c =
    let with : HistoryValue → DeskState = λ h. record { alloc = c.args.self.now.alloc; history = h; breaks = c.args.self.now.breaks; paused = c.args.self.now.paused } in
    Does-refused c.args.self.now _ c.args.number _ _ _ c.in-Err-Refused.refusal (ap with c.in-Err-Refused.ensures.err)
    (ap (refused_by (cone_refusal c.args.self.now.history.timeline)) c.in-Some.is ∙ (c.in-Err-Refused.ensures.refused c.in-Err-Refused.refusal).0 (ap Err c.in-Err-Refused.field-0-is)) c.requires
