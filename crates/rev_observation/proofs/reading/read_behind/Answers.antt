use Rattle.std.proofs.Common.{◌≡◌, ◌∷◌, List, ℕ, sym, ap, ◌∙◌, subst}
use Rattle.rev_fields.specs.Parts.{slices_of}
use Rattle.rev_fields.proofs.SliceLemmas.{length-slices_of}
use Rattle.rev_observed.specs.declared.faults.FaultKind.TheVariants.{Syntax}
use Rattle.rev_observed.specs.declared.faults.ReadFault.TheVariants as text
use Rattle.rev_observed.specs.Faults.{fault_at}
use Rattle.rev_observation.specs.declared.head.Observer.{Observer}
use Rattle.rev_observation.specs.Lines.{by_line}
use Rattle.rev_observation.specs.Says.{IsFirstFault, first_line}
use Rattle.rev_observation.proofs.AnswerLemmas.{fault_named}
use Rattle.rev_observation.proofs.SaysLemmas.{fault_behind, no_observer, wrong_observer}
use Rattle.rev_observation.proofs.reading.read_behind.Goals as goal

pub returns-in_default-clause-fault : goal.returns-in_default-clause-fault
returns-in_default-clause-fault c = λ f h.
    let lines = slices_of c.args.lines.now in
    let same : fault_at 1 Syntax ≡ f = cc in
    no_observer lines f (length-slices_of c.args.lines.now ∙ c.in_default.ensures.cases) same

pub returns-in-Ok-clause-fault : goal.returns-in-Ok-clause-fault
returns-in-Ok-clause-fault c = λ f h.
    let whole = ap slices_of c.in-Some.ensures.cases.0 in
    let P : List (List ℕ) → Type 0 = λ ls. IsFirstFault (first_line ∷ ls) f in
    subst P (sym whole) (fault_behind c.in-Some.second.now.now c.in-Ok.by (slices_of c.in-Some.rest.now) f c.in-Ok.ensures (c.read_rest.ensures.fault f h))

pub returns-in-Err-clause-fault : goal.returns-in-Err-clause-fault
returns-in-Err-clause-fault c = λ f h.
    let second = c.in-Some.second.now.now in
    let whole = ap slices_of c.in-Some.ensures.cases.0 in
    let P : List (List ℕ) → Type 0 = λ ls. IsFirstFault (first_line ∷ ls) f in
    let same : c.at.result ≡ text.Numbered f = cc in
    let found = fault_named c.in-Err.fault (λ (by : Observer). by) (by_line second) 1 f c.in-Err.ensures (sym c.at.ensures ∙ same) in
    subst P (sym whole) (wrong_observer second (slices_of c.in-Some.rest.now) f found.0 found.1 found.2)
