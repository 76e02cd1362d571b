use Rattle.std.proofs.Common.{◌≡◌, ◌+◌, ℕ, List, [], get_or, length, take, Err, arith, sym, ap, ◌∙◌, subst}
use Rattle.std.proofs.lemmas.List.{length-map, take_all}
use Rattle.rev_fields.specs.declared.faults.ReadFault.TheVariants as text
use Rattle.rev_fields.specs.Parts.{slices_of}
use Rattle.rev_fields.proofs.FaultLemmas.{kind_of_fault}
use Rattle.rev_fields.proofs.SliceLemmas.{at-slices_of, length-slices_of, within-slices_of}
use Rattle.rev_trace.specs.Lanes.{opened_in}
use Rattle.rev_trace.specs.Lists.{IsHeld, shown}
use Rattle.rev_trace.specs.Traces.{lanes_of, wrong_in_lane}
use Rattle.rev_trace.proofs.LaneLemmas.{reads_all, reads_more}
use Rattle.rev_trace.proofs.traces.read_lanes.Goals as goal

pub returns-in-Err-clause-fault : goal.returns-in-Err-clause-fault
returns-in-Err-clause-fault c = λ f h.
    let items = c.args.lines.now in
    let version = c.args.version in
    let targets = c.args.targets.now in
    let i = c.loop-place.place in
    let before = take i (slices_of items) in
    let lists = c.loop-place.lanes.lists.items in
    let same : c.at.result ≡ text.Numbered f = cc in
    let found = kind_of_fault c.in-Err.fault (c.args.before + i) f (sym c.at.ensures ∙ same) in
    let wrong = c.in-Err.ensures.fault found.0 (ap Err found.1) in
    let counted : opened_in 1 before ≡ length lists = sym c.loop-place.invariant.many ∙ length-map lists (λ v. v.items) in
    record {
      place = i;
      within = c.loop-place-test.true;
      earlier = c.loop-place.invariant.sound;
      kind = found.0;
      wrong = ap (wrong_in_lane version targets (opened_in 1 before)) (at-slices_of items i) ∙ ap (λ n. wrong_in_lane version targets n (get_or items i (record { ref_ptr = (0, 0); now = [] })).now) counted ∙ wrong;
      is = found.2;
    }

pub loop-place-preserved : goal.loop-place-preserved
loop-place-preserved c =
    let items = c.args.lines.now in
    let i = c.loop-place.place in
    let P : List ℕ → Type 0 = λ l. IsHeld c.args.version c.args.targets.now (shown c.loop-place.lanes) l (shown c.add_held.new.lanes) in
    let held = subst P (sym (at-slices_of items i)) c.in_default-add_held.ensures.ok in
    reads_more c.args.version c.args.targets.now (slices_of items) (shown c.loop-place.lanes) (shown c.add_held.new.lanes) i (within-slices_of items i c.loop-place-test.true) held c.loop-place.invariant

pub returns-clause-lanes : goal.returns-clause-lanes
returns-clause-lanes c =
    let items = c.args.lines.now in
    let i = c.loop-place.place in
    ap lanes_of c.into_lists.ensures
    ∙ reads_all c.args.version c.args.targets.now (slices_of items) (shown c.loop-place.lanes) i (take_all i (slices_of items) (omega (arith, length-slices_of items, c.loop-place-test.false))) c.loop-place.invariant
