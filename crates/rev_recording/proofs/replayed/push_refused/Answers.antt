use Rattle.std.specs.Prelude.{codes}
use Rattle.rev_fields.proofs.AnswerLemmas.{on_ok}
use Rattle.rev_recording.proofs.CountLemmas.{extended, some-refused}
use Rattle.rev_recording.proofs.replayed.push_refused.Goals as goal

pub returns : goal.returns
returns c =
    let number = c.push_number.new.line.items in
    let r = c.extend_from_slice-3.result in
    on_ok r _ _
    (some-refused c.args.refused c.args.text.now.items c.extend_from_slice-2.new.self.items number c.extend_from_slice-3.new.self.items c.if-refused-eq0.false
    c.in_ok-extend_from_slice.ensures.items c.in_ok-push_number.ensures)
    (extended r c.extend_from_slice-3.new.self.items number (codes " refused\n") c.extend_from_slice-3.ensures.items)
