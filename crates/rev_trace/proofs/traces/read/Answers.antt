use Rattle.std.proofs.Common.{◌≡◌, ◌==◌, ◌∷◌, ℕ, List, IfOk, length, arith, sym, ap, ◌∙◌, subst}
use Rattle.std.proofs.lemmas.List.Splits.{length-slice_split}
use Rattle.rev_fields.specs.Faults.{IsFirstWrong, first_fault}
use Rattle.rev_fields.specs.Lines.{lines_of}
use Rattle.rev_fields.specs.Parts.{slices_of}
use Rattle.rev_trace.specs.declared.version.Version.{Version}
use Rattle.rev_trace.specs.Traces.{lanes_of, said_by_lines, value_of, wrong_at}
use Rattle.rev_trace.specs.Versions.{version_of}
use Rattle.rev_fields.proofs.AnswerLemmas.{on_ok}
use Rattle.rev_fields.proofs.SliceLemmas.{length-slices_of}
use Rattle.rev_trace.proofs.TraceLemmas.{trace_first, trace_sound, version-read, whole_wrong}
use Rattle.rev_trace.proofs.traces.read.Goals as goal

pub returns-in_default-clause-fault : goal.returns-in_default-clause-fault
returns-in_default-clause-fault c = λ f h.
    let items = c.deref.result.now in
    let whole : slices_of items ≡ lines_of c.args.text.now = ap slices_of c.deref.ensures.value ∙ c.in_ok-lines.ensures in
    absurd (omega (arith, c.in_default.ensures.cases, length-slices_of items, ap length whole, length-slice_split (λ b. b == 10) c.args.text.now))

pub returns-clause-sound : goal.returns-clause-sound
returns-clause-sound c =
    let first = c.in-Some.first.now.now in
    let rest = slices_of c.in-Some.rest.now in
    let whole : lines_of c.args.text.now ≡ first ∷ rest = sym (ap slices_of c.deref.ensures.value ∙ c.in_ok-lines.ensures) ∙ ap slices_of c.in-Some.ensures.cases.0 in
    let named = version-read first c.in-Some-of_line.version c.in-Some-of_line.ensures in
    on_ok c.read_lines.result _ _ (λ sound.
    ap (λ lines. first_fault (whole_wrong lines) (length lines)) whole
    ∙ trace_sound first rest named.0 (λ k lt. ap (λ v. wrong_at v rest k) (sym named.1) ∙ sound k (omega (arith, lt, length-slices_of c.in-Some.rest.now)))) c.read_lines.ensures.sound

pub returns-clause-fault : goal.returns-clause-fault
returns-clause-fault c = λ f h.
    let first = c.in-Some.first.now.now in
    let rest = slices_of c.in-Some.rest.now in
    let whole : lines_of c.args.text.now ≡ first ∷ rest = sym (ap slices_of c.deref.ensures.value ∙ c.in_ok-lines.ensures) ∙ ap slices_of c.in-Some.ensures.cases.0 in
    let named = version-read first c.in-Some-of_line.version c.in-Some-of_line.ensures in
    let P : ℕ → Type 0 = λ n. IsFirstWrong (wrong_at (version_of first) rest) n 1 f in
    let Q : Version → Type 0 = λ v. IsFirstWrong (wrong_at v rest) (length c.in-Some.rest.now) 1 f in
    ap (λ lines. first_fault (whole_wrong lines) (length lines)) whole
    ∙ trace_first first rest f named.0 (subst P (sym (length-slices_of c.in-Some.rest.now)) (subst Q named.1 (c.read_lines.ensures.fault f h)))

pub returns-clause-lanes : goal.returns-clause-lanes
returns-clause-lanes c =
    let first = c.in-Some.first.now.now in
    let rest = slices_of c.in-Some.rest.now in
    let whole : lines_of c.args.text.now ≡ first ∷ rest = sym (ap slices_of c.deref.ensures.value ∙ c.in_ok-lines.ensures) ∙ ap slices_of c.in-Some.ensures.cases.0 in
    let named = version-read first c.in-Some-of_line.version c.in-Some-of_line.ensures in
    let P : List (List ℕ) → Type 0 = λ lines. IfOk c.read_lines.result (λ trace. lanes_of trace.lanes.items ≡ (said_by_lines lines).lanes) in
    let Q : Version → Type 0 = λ v. IfOk c.read_lines.result (λ trace. lanes_of trace.lanes.items ≡ (value_of v rest).lanes) in
    subst P (sym whole) (subst Q named.1 c.read_lines.ensures.lanes)
