use Rattle.std.proofs.Common.{◌≡◌, ◌&&◌, false, Some, Ok, ap, ◌∙◌, sym}
use Rattle.rev_fields.specs.Fields.{texts_of}
use Rattle.rev_fields.specs.Parts.{lent_of}
use Rattle.rev_fields.proofs.AnswerLemmas.{some_from_ok_or}
use Rattle.rev_trace.specs.Heads.{seen}
use Rattle.rev_trace.specs.Records.{gives_jobs, record_of}
use Rattle.rev_trace.proofs.HeadLemmas.{both_ok, record_line_is, wrong_by_record}
use Rattle.rev_trace.proofs.head.add_line.Goals as goal

pub returns-clause-ok : goal.returns-clause-ok
returns-clause-ok c =
    let head = seen c.args.head.now in
    let texts = lent_of c.in_ok-texts.texts.items in
    let some : texts_of c.args.line.now ≡ Some texts = some_from_ok_or (texts_of c.args.line.now) texts c.in_ok-texts.ensures in
    let once : (c.args.head.now.has_jobs && gives_jobs texts) ≡ false = ap (λ t. c.args.head.now.has_jobs && gives_jobs (lent_of t)) (sym c.deref.ensures.value) ∙ sym c.is_second.ensures ∙ c.if-is_second.false in
    let said : record_of texts ≡ Ok c.in_ok-said.said = ap (λ t. record_of (lent_of t)) (sym c.deref-2.ensures.value) ∙ c.in_ok-said.ensures in
    both_ok c.add.result _ _ _ (λ new sound. record { added = c.in_ok-said.said; said_is = record_line_is texts c.args.line.now c.in_ok-said.said some said; sound = wrong_by_record head texts c.args.line.now c.in_ok-said.said _ some once said sound; new_is = new }) c.add.ensures.ok c.add.ensures.sound

pub returns-clause-fault : goal.returns-clause-fault
returns-clause-fault c = λ kind h.
    let head = seen c.args.head.now in
    let texts = lent_of c.in_ok-texts.texts.items in
    let some : texts_of c.args.line.now ≡ Some texts = some_from_ok_or (texts_of c.args.line.now) texts c.in_ok-texts.ensures in
    let once : (c.args.head.now.has_jobs && gives_jobs texts) ≡ false = ap (λ t. c.args.head.now.has_jobs && gives_jobs (lent_of t)) (sym c.deref.ensures.value) ∙ sym c.is_second.ensures ∙ c.if-is_second.false in
    let said : record_of texts ≡ Ok c.in_ok-said.said = ap (λ t. record_of (lent_of t)) (sym c.deref-2.ensures.value) ∙ c.in_ok-said.ensures in
    wrong_by_record head texts c.args.line.now c.in_ok-said.said (Some kind) some once said (c.add.ensures.fault kind h)
