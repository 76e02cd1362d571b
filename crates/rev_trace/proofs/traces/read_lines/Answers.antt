use Rattle.std.proofs.Common.{◌≡◌, ◌+◌, ◌-◌, ℕ, List, length, drop, Err, Some, arith, sym, ap, ◌∙◌, subst, take}
use Rattle.std.proofs.lemmas.Result.{err_from_is_err_and}
use Rattle.rev_fields.specs.declared.faults.ReadFault.TheVariants as text
use Rattle.rev_fields.specs.Faults.{IsFirstWrong}
use Rattle.rev_fields.specs.Parts.{slices_of}
use Rattle.rev_trace.specs.Heads.{seen}
use Rattle.rev_trace.specs.Traces.{lane_wrong, lanes_from, lanes_of, targets_in}
use Rattle.rev_fields.proofs.SliceLemmas.{length-slices_of, past-slices_of, within-slices_of, slices_of-tail}
use Rattle.rev_trace.proofs.TraceLemmas.{fault_lane, sound_lane, sound_no_lane, value_lanes, value_no_lane, value_head, IsFirstWrong-length}
use Rattle.rev_trace.proofs.traces.read_lines.Goals as goal
use Rattle.rev_trace.proofs.traces.read_lines.Goals.{then-end-lines+in_ok-lanes, else-end-lines}

pub returns-in_err-lanes-clause-fault : goal.returns-in_err-lanes-clause-fault
returns-in_err-lanes-clause-fault c = λ f h.
    let items = c.args.lines.now in
    let end = c.in_ok-head.end in
    let after = take (length items - (end + 1)) (drop (end + 1) items) in
    let q = err_from_is_err_and c.from_residual-in_err-lanes.result c.from_residual-in_err-lanes.ensures.1 in
    let error = q.1 in
    let passed = q.2 in
    let same : c.in_err-lanes.field-0.0 ≡ text.Numbered f = cc in
    let first = c.in_err-lanes.ensures.fault f (ap Err same) in
    let P : ℕ → Type 0 = λ n. IsFirstWrong (lane_wrong c.args.version (targets_in (slices_of items)) (slices_of after)) n (end + 2) f in
    let Q : List (List ℕ) → Type 0 = λ t. IsFirstWrong (lane_wrong c.args.version t (slices_of after)) (length after) (end + 2) f in
    let meant = c.in_ok-targets.ensures ∙ ap (λ h. h.targets) (value_head c.args.version (slices_of items) (seen c.in_ok-head.head) end c.in_ok-head.ensures.opened) in
    IsFirstWrong-length c.args.version (slices_of items) (length items) f (length-slices_of items)
    (fault_lane c.args.version (slices_of items) (slices_of after) (seen c.in_ok-head.head) end f c.in_ok-head.ensures.opened (within-slices_of items end c.if-end-lines.true) (slices_of-tail (end + 1) items) (subst P (sym (length-slices_of after)) (subst Q meant first)))

pub returns-clause-opening : goal.returns-clause-opening
returns-clause-opening c = ap (λ h. h.opening) (value_head c.args.version (slices_of c.args.lines.now) (seen c.in_ok-head.head) c.in_ok-head.end c.in_ok-head.ensures.opened)

pub returns-clause-targets : goal.returns-clause-targets
returns-clause-targets c = c.in_ok-targets.ensures ∙ ap (λ h. h.targets) (value_head c.args.version (slices_of c.args.lines.now) (seen c.in_ok-head.head) c.in_ok-head.end c.in_ok-head.ensures.opened)

pub returns-clause-lanes : goal.returns-clause-lanes
returns-clause-lanes c =
    let items = c.args.lines.now in
    let end = c.in_ok-head.end in
    let meant = c.in_ok-targets.ensures ∙ ap (λ h. h.targets) (value_head c.args.version (slices_of items) (seen c.in_ok-head.head) end c.in_ok-head.ensures.opened) in
    elim c.if-end-lines.branch [
      | then-end-lines+in_ok-lanes w ↦
          ap (λ v. lanes_of v.items) w.lanes-is
          ∙ w.in_ok-lanes.ensures.lanes ∙ ap (λ t. lanes_from c.args.version t 1 (Some 0) (slices_of (take (length items - (end + 1)) (drop (end + 1) items)))) meant
          ∙ sym (value_lanes c.args.version (slices_of items) (slices_of (take (length items - (end + 1)) (drop (end + 1) items))) (seen c.in_ok-head.head) end c.in_ok-head.ensures.opened (within-slices_of items end w.if-end-lines.true) (slices_of-tail (end + 1) items))
      | else-end-lines w ↦
          ap (λ v. lanes_of v.items) w.lanes-is ∙ ap lanes_of c.new-lanes.ensures.items
          ∙ sym (value_no_lane c.args.version (slices_of items) (seen c.in_ok-head.head) end c.in_ok-head.ensures.opened (past-slices_of items end w.if-end-lines.false))
    ]

pub returns-clause-sound : goal.returns-clause-sound
returns-clause-sound c =
    let items = c.args.lines.now in
    let end = c.in_ok-head.end in
    let meant = c.in_ok-targets.ensures ∙ ap (λ h. h.targets) (value_head c.args.version (slices_of items) (seen c.in_ok-head.head) end c.in_ok-head.ensures.opened) in
    elim c.if-end-lines.branch [
      | then-end-lines+in_ok-lanes w ↦ λ k lt.
          let after = take (length items - (end + 1)) (drop (end + 1) items) in
          sound_lane c.args.version (slices_of items) (slices_of after) (seen c.in_ok-head.head) end c.in_ok-head.ensures.opened (within-slices_of items end w.if-end-lines.true) (slices_of-tail (end + 1) items) (λ j below. ap (λ t. lane_wrong c.args.version t (slices_of after) j) (sym meant) ∙ w.in_ok-lanes.ensures.sound j (omega (arith, length-slices_of after))) k (within-slices_of items k lt)
      | else-end-lines w ↦ λ k lt. sound_no_lane c.args.version (slices_of items) (seen c.in_ok-head.head) end c.in_ok-head.ensures.opened (past-slices_of items end w.if-end-lines.false) k (within-slices_of items k lt)
    ]
