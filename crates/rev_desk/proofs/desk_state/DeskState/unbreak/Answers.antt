use Rattle.std.proofs.Common.{◌≡◌, ℕ, List, Bool, true, Option, Some, None, cond, ap, sym, subst, ◌∙◌, refl, rules, arith}
use Rattle.rev_events.specs.declared.refusal.Refusal.{Refusal}
use Rattle.rev_events.specs.declared.refusal.Refusal.TheVariants.{NoSuchBreak}
use Rattle.rev_manifest.specs.Manifest.{ManifestValue}
use Rattle.rev_commands.specs.declared.point.Point.{Point}
use Rattle.rev_desk.specs.declared.reply.Reply.TheVariants as reply
use Rattle.rev_desk.specs.Breaks.{AreSound}
use Rattle.rev_desk.specs.Machine.{DeskStateValue}
use Rattle.rev_desk.specs.BreakKeys.{stands}
use Rattle.rev_desk.proofs.DeskStateLemmas.{Does-done, IsReady-dropped}
use Rattle.rev_desk.proofs.desk_state.DeskState.unbreak.Goals as goal

pub returns : goal.returns
returns c =
    let on : stands c.args.self.now.breaks.standing.items c.args.broken ≡ true = first_of (cc, search rules, grind arith) in
    let refused : Bool → Option Refusal = λ b. cond b None (Some NoSuchBreak) in
    let with : List (ℕ × Point) → DeskStateValue = λ bs. record { history = c.args.self.now.history.timeline; breaks = bs; paused = c.args.self.now.paused } in
    Does-done c.args.self.now _ c.args.number _ _ _ (reply.Accepted c.args.number None) (ap refused on) refl (ap with c.in_ok-remove.ensures.ok)
    (IsReady-dropped c.args.self.now _ c.args.number c.args.broken refl c.in_ok-remove.ensures.ok (subst (λ (m : ManifestValue). AreSound m c.remove.new.self) c.graph-graph.ensures c.in_ok-remove.ensures.sound) c.requires)
