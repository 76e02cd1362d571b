use Rattle.std.proofs.Common.{◌++◌, ℕ, List, ap, ◌∙◌}
use Rattle.std.specs.Prelude.{if◌then◌else◌, is_ok}
use Rattle.rev_fields.proofs.AnswerLemmas.{on_ok}
use Rattle.rev_recording.specs.Replayed.{others_end}
use Rattle.rev_recording.proofs.CountLemmas.{extended, some-others}
use Rattle.rev_recording.proofs.replayed.push_others.Goals as goal

pub returns : goal.returns
returns c =
    let number = c.push_number.new.line.items in
    let r = c.extend_from_slice-2.result in
    let added = c.extend_from_slice-2.ensures.items ∙ ap (λ (l : List ℕ). if is_ok r then number ++ l else number) c.others_end.ensures in
    on_ok r _ _
    (some-others c.args.others c.args.text.now.items c.extend_from_slice.new.self.items number c.extend_from_slice-2.new.self.items c.if-others-eq0.false
    c.in_ok-extend_from_slice.ensures.items c.in_ok-push_number.ensures)
    (extended r c.extend_from_slice-2.new.self.items number (others_end c.args.others) added)
