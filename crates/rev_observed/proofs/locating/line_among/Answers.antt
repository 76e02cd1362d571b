use Rattle.std.proofs.Common.{◌≡◌, ◌+◌, ◌≤◌, ◌<◌, [], length, get_or, sym, ap, ◌∙◌, subst, refl, arith}
use Rattle.rev_fields.specs.Parts.{slices_of}
use Rattle.rev_fields.proofs.SliceLemmas.{at-slices_of, past-slices_of, within-slices_of}
use Rattle.rev_observed.specs.Lines.{line_added}
use Rattle.rev_observed.specs.Observations.{ObservationValue, nothing_by}
use Rattle.rev_observed.specs.Says.{NoLine, Says}
use Rattle.rev_observed.proofs.CommandLineLemmas.{line-at, none-at, stopped-at, wrong-from}
use Rattle.rev_observed.proofs.SaysLemmas.{says_all, says_step}
use Rattle.rev_observed.proofs.locating.line_among.Goals as goal

pub loop-number-init : goal.loop-number-init
loop-number-init c =
    let P : ObservationValue → Type 0 = λ o. Says (nothing_by c.args.by.items) [] o × length o.commands ≤ c.args.place in
    subst P (sym c.new-observation.ensures) (NoLine, omega arith)

pub returns-in-Err-Kind-clause-none : goal.returns-in-Err-Kind-clause-none
returns-in-Err-Kind-clause-none c = λ e o s.
    let items = c.args.lines.now in
    let i = c.loop-number.number in
    let wrong = wrong-from c.in-Err-Kind.field-0 c.in-Err-Kind.field-0-0 (λ _. c.add_line.new.observation) (line_added c.loop-number.observation (get_or items i (record { ref_ptr = (0, 0); now = [] })).now) c.in-Err-Kind.field-0-is c.in-Err-Kind.ensures in
    absurd (stopped-at (nothing_by c.args.by.items) c.loop-number.observation o (slices_of items) i c.in-Err-Kind.field-0-0 (within-slices_of items i c.loop-number-test.true) c.loop-number.invariant.0
    (ap (line_added c.loop-number.observation) (at-slices_of items i) ∙ wrong) s)

pub returns-then-place-commands-clause-found : goal.returns-then-place-commands-clause-found
returns-then-place-commands-clause-found c =
    let items = c.args.lines.now in
    let i = c.loop-number.number in
    let has : c.args.place < length c.add_line.new.observation.commands = subst (λ cs. c.args.place < length cs) c.commands.ensures.same c.if-place-commands.true in
    line-at (nothing_by c.args.by.items) c.loop-number.observation c.add_line.new.observation (slices_of items) i c.args.place (i + 3) (within-slices_of items i c.loop-number-test.true) c.loop-number.invariant.0
    c.loop-number.invariant.1 (ap (line_added c.loop-number.observation) (at-slices_of items i) ∙ c.in-Ok.ensures) has refl

pub loop-number-preserved : goal.loop-number-preserved
loop-number-preserved c =
    let items = c.args.lines.now in
    let i = c.loop-number.number in
    let many : length c.commands.result.now ≡ length c.add_line.new.observation.commands = ap length c.commands.ensures.same in
    let none = c.if-place-commands.false in (
      says_step (nothing_by c.args.by.items) c.loop-number.observation c.add_line.new.observation (slices_of items) i (within-slices_of items i c.loop-number-test.true) c.loop-number.invariant.0
          (ap (line_added c.loop-number.observation) (at-slices_of items i) ∙ c.in-Ok.ensures),
      omega (arith, many, none),
    )

pub returns-clause-none : goal.returns-clause-none
returns-clause-none c = λ e o s.
    let items = c.args.lines.now in
    let i = c.loop-number.number in
    none-at (nothing_by c.args.by.items) c.loop-number.observation o (slices_of items) c.args.place
    (says_all (nothing_by c.args.by.items) c.loop-number.observation (slices_of items) i (past-slices_of items i c.loop-number-test.false) c.loop-number.invariant.0) c.loop-number.invariant.1 s
