use Rattle.std.proofs.Common.{◌≡◌, ℕ, List, [], ◌∷◌, ◌++◌, Option, Some, None, is_none, cond, ap, sym, subst, ◌∙◌, refl}
use Rattle.rev_events.specs.declared.refusal.Refusal.{Refusal}
use Rattle.rev_events.specs.declared.refusal.Refusal.TheVariants.{NoSuchEdge}
use Rattle.rev_manifest.specs.Manifest.{ManifestValue}
use Rattle.rev_commands.specs.declared.point.Point.{Point}
use Rattle.rev_desk.specs.declared.reply.Reply.TheVariants as reply
use Rattle.rev_desk.specs.declared.break_key.BreakKey.{BreakKey}
use Rattle.rev_desk.specs.Breaks.{AreSound}
use Rattle.rev_desk.specs.Machine.{DeskStateValue}
use Rattle.rev_desk.specs.BreakKeys.{point_break_key}
use Rattle.rev_desk.proofs.DeskStateLemmas.{Does-done, IsReady-added}
use Rattle.rev_desk.proofs.desk_state.DeskState.stop_at.Goals as goal

pub returns : goal.returns
returns c =
    let is : Some c.in-Some.break_key ≡ point_break_key c.args.self.now.history.timeline.manifest c.args.point.now =
    sym c.in-Some.is ∙ c.in_ok-break_key.ensures ∙ ap (λ (m : ManifestValue). point_break_key m c.args.point.now) c.graph-graph.ensures in
    let refused : Option BreakKey → Option Refusal = λ o. cond (is_none o) (Some NoSuchEdge) None in
    let with : List (ℕ × Point) → DeskStateValue = λ bs. record { history = c.args.self.now.history.timeline; breaks = bs; paused = c.args.self.now.paused } in
    let standing = c.in_ok-add.ensures.ok ∙ ap (λ (p : Point). c.args.self.now.breaks.standing.items ++ (c.args.number, p) ∷ []) c.in_ok-point.ensures in
    Does-done c.args.self.now _ c.args.number _ _ _ (reply.Accepted c.args.number None) (sym (ap refused is)) refl (ap with standing)
    (IsReady-added c.args.self.now _ c.args.number c.args.point.now refl standing (subst (λ (m : ManifestValue). AreSound m c.add.new.self) c.graph-graph.ensures c.in_ok-add.ensures.sound) c.requires)
