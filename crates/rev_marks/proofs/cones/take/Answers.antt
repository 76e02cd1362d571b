use Rattle.std.proofs.Common.{◌||◌, ap₂, ◌∙◌}
use Rattle.std.specs.Prelude.{bit_or, slice_get}
use Rattle.rev_footprint.specs.Value.{print_of}
use Rattle.rev_marks.specs.Cones.{seen}
use Rattle.rev_marks.specs.Table.{viewed}
use Rattle.rev_marks.proofs.ConeLemmas.{seen-none, seen-some}
use Rattle.rev_marks.proofs.LaneLemmas.{lanes-none, lanes-noted, lanes-without}
use Rattle.rev_marks.proofs.MaskLemmas.{mark-or}
use Rattle.rev_marks.proofs.cones.take.Goals as goal

pub returns-in_default : goal.returns-in_default
returns-in_default c =
    let t = c.args.history.now.timeline in
    lanes-none (seen t c.args.beside) (slice_get c.args.asked.now) c.args.number c.args.table.now c.args.marks.now.entries (seen-none t c.args.beside c.args.number c.in_default.ensures)

pub returns-then-mask-eq0 : goal.returns-then-mask-eq0
returns-then-mask-eq0 c =
    let t = c.args.history.now.timeline in
    let g = c.in-Some.footprint in
    lanes-without (seen t c.args.beside) (slice_get c.args.asked.now) c.args.number (viewed c.args.beside (print_of g)) (seen-some t c.args.beside c.args.number g c.in-Some.ensures)
    c.args.table.now c.args.marks.now.entries (bit_or c.asked_marks.result c.met_by.result)
    (λ i. mark-or i c.asked_marks.result c.met_by.result ∙ ap₂ (λ a b. a || b) (c.asked_marks.ensures i) (c.met_by.ensures i)) c.if-mask-eq0.true

pub returns : goal.returns
returns c =
    let t = c.args.history.now.timeline in
    let g = c.in-Some.footprint in
    lanes-noted (seen t c.args.beside) (slice_get c.args.asked.now) c.args.number (viewed c.args.beside (print_of g)) (seen-some t c.args.beside c.args.number g c.in-Some.ensures)
    c.args.table.now c.args.marks.now.entries (bit_or c.asked_marks.result c.met_by.result)
    (λ i. mark-or i c.asked_marks.result c.met_by.result ∙ ap₂ (λ a b. a || b) (c.asked_marks.ensures i) (c.met_by.ensures i))
    c.note_by.new.table c.insert.new.self.entries c.in_ok-note_by.ensures c.in_ok-insert.ensures.updates.0
