use Rattle.std.proofs.Common.{◌≡◌, ◌+◌, [], get_or, sym, ap, ◌∙◌, subst}
use Rattle.rev_fields.specs.Parts.{slices_of}
use Rattle.rev_fields.proofs.SliceLemmas.{at-slices_of, past-slices_of, within-slices_of}
use Rattle.rev_observed.specs.declared.faults.ReadFault.TheVariants as text
use Rattle.rev_observation.specs.Lines.{line_added}
use Rattle.rev_observation.specs.Observations.{ObservationValue, nothing_by}
use Rattle.rev_observation.specs.Says.{NoLine, Says}
use Rattle.rev_observation.proofs.AnswerLemmas.{fault_named}
use Rattle.rev_observation.proofs.SaysLemmas.{says_all, says_step, wrong_at}
use Rattle.rev_observation.proofs.reading.read_rest.Goals as goal

pub loop-place-init : goal.loop-place-init
loop-place-init c =
    let P : ObservationValue → Type 0 = λ o. Says (nothing_by c.args.by) [] o in
    subst P (sym c.new-observation.ensures) NoLine

pub returns-in-Err-clause-fault : goal.returns-in-Err-clause-fault
returns-in-Err-clause-fault c = λ f h.
    let items = c.args.lines.now in
    let i = c.loop-place.place in
    let same : c.at.result ≡ text.Numbered f = cc in
    let found = fault_named c.in-Err.fault (λ _. c.add_line.new.observation) (line_added c.loop-place.observation (get_or items i (record { ref_ptr = (0, 0); now = [] })).now) (i + 2) f c.in-Err.ensures (sym c.at.ensures ∙ same) in
    wrong_at (nothing_by c.args.by) c.loop-place.observation (slices_of items) i found.0 f (within-slices_of items i c.loop-place-test.true) c.loop-place.invariant (ap (line_added c.loop-place.observation) (at-slices_of items i) ∙ found.1) found.2

pub loop-place-preserved : goal.loop-place-preserved
loop-place-preserved c =
    let items = c.args.lines.now in
    let i = c.loop-place.place in
    says_step (nothing_by c.args.by) c.loop-place.observation c.add_line.new.observation (slices_of items) i (within-slices_of items i c.loop-place-test.true) c.loop-place.invariant
    (ap (line_added c.loop-place.observation) (at-slices_of items i) ∙ c.in_default.ensures)

pub returns-clause-said : goal.returns-clause-said
returns-clause-said c =
    let items = c.args.lines.now in
    says_all (nothing_by c.args.by) c.loop-place.observation (slices_of items) c.loop-place.place (past-slices_of items c.loop-place.place c.loop-place-test.false) c.loop-place.invariant
