use Rattle.std.proofs.Common.{◌≡◌, ◌+◌, [], ℕ, List, get_or, length, Err, true, false, arith, sym, ap, ◌∙◌, subst}
use Rattle.rev_fields.specs.declared.faults.ReadFault.TheVariants as text
use Rattle.rev_fields.specs.Lines.{is_blank}
use Rattle.rev_fields.specs.Parts.{slices_of}
use Rattle.rev_trace.specs.Heads.{IsAdded, seen}
use Rattle.rev_trace.specs.Lanes.{lane_line, opens_lane}
use Rattle.rev_trace.specs.Records.{opening_wrong}
use Rattle.rev_fields.proofs.FaultLemmas.{kind_of_fault, line_at_fault}
use Rattle.rev_fields.proofs.SaidLemmas.{is_blank-length}
use Rattle.rev_fields.proofs.SliceLemmas.{at-slices_of, length-slices_of, within-slices_of}
use Rattle.rev_trace.proofs.TraceLemmas.{lane_at_fault, opened_at_end, opened_at_lane, reads_blank, reads_line, opening_at_fault, IsFirstWrong-length}
use Rattle.rev_trace.proofs.traces.read_head.Goals as goal

pub loop-place-init : goal.loop-place-init
loop-place-init c = record { no_lane = λ k lt. absurd (omega arith); sound = λ k lt. absurd (omega arith); head_is = c.in-Ok.ensures.empty }

pub returns-in-Ok-lane_line-clause-opened : goal.returns-in-Ok-lane_line-clause-opened
returns-in-Ok-lane_line-clause-opened c =
    let items = c.args.lines.now in
    let i = c.loop-place.place in
    let opens : opens_lane (get_or (slices_of items) i []) ≡ true = ap opens_lane (at-slices_of items i) ∙ sym c.opens_lane.ensures ∙ c.if-opens_lane.true in
    opened_at_lane c.args.version (slices_of items) (seen c.loop-place.head) i c.in-Ok-lane_line.field-0 (within-slices_of items i c.loop-place-test.true) opens
    (ap (lane_line c.args.version 0) (at-slices_of items i) ∙ c.in-Ok-lane_line.ensures.said) c.loop-place.invariant

pub loop-place-preserved-then-is_empty : goal.loop-place-preserved-then-is_empty
loop-place-preserved-then-is_empty c =
    let items = c.args.lines.now in
    let i = c.loop-place.place in
    let blank : is_blank (get_or (slices_of items) i []) ≡ true = ap is_blank (at-slices_of items i) ∙ is_blank-length _ ∙ sym c.is_empty.ensures ∙ c.if-is_empty.true in
    reads_blank c.args.version (slices_of items) (seen c.loop-place.head) i (within-slices_of items i c.loop-place-test.true) blank c.loop-place.invariant

pub returns-in-Err-clause-fault : goal.returns-in-Err-clause-fault
returns-in-Err-clause-fault c = λ f h.
    let items = c.args.lines.now in
    let i = c.loop-place.place in
    let opens : opens_lane (get_or (slices_of items) i []) ≡ true = ap opens_lane (at-slices_of items i) ∙ sym c.opens_lane.ensures ∙ c.if-opens_lane.true in
    let same : c.at.result ≡ text.Numbered f = cc in
    let found = line_at_fault c.in-Err.fault (λ n. n) (lane_line c.args.version 0 (get_or items i (record { ref_ptr = (0, 0); now = [] })).now) (i + 1) f c.in-Err.ensures.said (sym c.at.ensures ∙ same) in
    IsFirstWrong-length c.args.version (slices_of items) (length items) f (length-slices_of items)
    (lane_at_fault c.args.version (slices_of items) (seen c.loop-place.head) i found.0 f (within-slices_of items i c.loop-place-test.true) opens (ap (lane_line c.args.version 0) (at-slices_of items i) ∙ found.1) found.2 c.loop-place.invariant)

pub returns-in-Err-add_line-clause-fault : goal.returns-in-Err-add_line-clause-fault
returns-in-Err-add_line-clause-fault c = λ f h.
    let items = c.args.lines.now in
    let i = c.loop-place.place in
    let filled : is_blank (get_or (slices_of items) i []) ≡ false = ap is_blank (at-slices_of items i) ∙ is_blank-length _ ∙ sym c.is_empty.ensures ∙ c.if-is_empty.false in
    let closed : opens_lane (get_or (slices_of items) i []) ≡ false = ap opens_lane (at-slices_of items i) ∙ sym c.opens_lane.ensures ∙ c.if-opens_lane.false in
    let same : c.at-in-Err-add_line.result ≡ text.Numbered f = cc in
    let found = kind_of_fault c.in-Err-add_line.fault (i + 1) f (sym c.at-in-Err-add_line.ensures ∙ same) in
    let wrong = c.in-Err-add_line.ensures.fault found.0 (ap Err found.1) in
    IsFirstWrong-length c.args.version (slices_of items) (length items) f (length-slices_of items)
    (opening_at_fault c.args.version (slices_of items) (seen c.loop-place.head) i found.0 f (within-slices_of items i c.loop-place-test.true) filled closed (ap (opening_wrong (seen c.loop-place.head)) (at-slices_of items i) ∙ wrong) found.2 c.loop-place.invariant)

pub loop-place-preserved : goal.loop-place-preserved
loop-place-preserved c =
    let items = c.args.lines.now in
    let i = c.loop-place.place in
    let filled : is_blank (get_or (slices_of items) i []) ≡ false = ap is_blank (at-slices_of items i) ∙ is_blank-length _ ∙ sym c.is_empty.ensures ∙ c.if-is_empty.false in
    let closed : opens_lane (get_or (slices_of items) i []) ≡ false = ap opens_lane (at-slices_of items i) ∙ sym c.opens_lane.ensures ∙ c.if-opens_lane.false in
    let P : List ℕ → Type 0 = λ l. IsAdded (seen c.loop-place.head) l (seen c.add_line.new.head) in
    let added = subst P (sym (at-slices_of items i)) c.in_default-add_line.ensures.ok in
    reads_line c.args.version (slices_of items) (seen c.loop-place.head) (seen c.add_line.new.head) i (within-slices_of items i c.loop-place-test.true) filled closed added c.loop-place.invariant

pub returns-clause-opened : goal.returns-clause-opened
returns-clause-opened c =
    let items = c.args.lines.now in
    opened_at_end c.args.version (slices_of items) (seen c.loop-place.head) c.loop-place.place (length items) (omega arith) (length-slices_of items) c.loop-place.invariant
