use Rattle.std.proofs.Common.{◌≡◌, ℕ, List, [], ◌∷◌, ◌++◌, ap, ◌∙◌}
use Rattle.rev_commands.specs.declared.point.Point.{Point}
use Rattle.rev_desk.proofs.BreakLemmas.{AreSound-push, AreSound-same}
use Rattle.rev_desk.proofs.breaks.Breaks.add.Goals as goal

pub returns-in_err-note-clause-sound : goal.returns-in_err-note-clause-sound
returns-in_err-note-clause-sound c = AreSound-same c.args.graph.now.manifest c.args.self.now _ c.reserve.ensures.items c.reserve-2.ensures.items c.in_err-note.ensures.err c.requires.sound

pub returns-clause-sound : goal.returns-clause-sound
returns-clause-sound c =
    AreSound-push c.args.graph.now.manifest c.args.self.now _ c.args.number c.args.point c.args.break_key c.requires.break_key c.requires.above
    (c.push_reserved-2.ensures.items ∙ ap (λ (bs : List (ℕ × Point)). bs ++ (c.args.number, c.args.point) ∷ []) c.reserve.ensures.items)
    (c.push_reserved.ensures.items ∙ ap (λ (ns : List ℕ). ns ++ c.args.number ∷ []) c.reserve-2.ensures.items)
    c.in_ok-note.ensures.ok c.requires.sound
