use Rattle.std.proofs.Common.{◌≡◌, ◌∷◌, List, ℕ, IfOk, sym, ap, ◌∙◌, subst}
use Rattle.rev_fields.specs.Parts.{slices_of}
use Rattle.rev_fields.proofs.SliceLemmas.{length-slices_of}
use Rattle.rev_paths.proofs.PlaceLemmas.{same_bytes}
use Rattle.rev_observed.specs.declared.faults.FaultKind.TheVariants.{Header}
use Rattle.rev_observed.specs.Faults.{fault_at}
use Rattle.rev_observation.specs.Says.{IsFirstFault, SaidBy, first_line}
use Rattle.rev_observation.proofs.SaysLemmas.{no_header, other_header}
use Rattle.rev_observation.proofs.reading.read_lines.Goals as goal

pub returns-in_default-clause-fault : goal.returns-in_default-clause-fault
returns-in_default-clause-fault c = λ f h.
    let same : fault_at 0 Header ≡ f = cc in
    no_header (slices_of c.args.lines.now) f (length-slices_of c.args.lines.now ∙ c.in_default.ensures.cases) same

pub returns-then-not-names_format-clause-fault : goal.returns-then-not-names_format-clause-fault
returns-then-not-names_format-clause-fault c = λ f h.
    let first = c.in-Some.first.now.now in
    let same : fault_at 0 Header ≡ f = cc in
    let P : List (List ℕ) → Type 0 = λ ls. IsFirstFault ls f in
    subst P (sym (ap slices_of c.in-Some.ensures.cases.0)) (other_header first (slices_of c.in-Some.rest.now) f (sym c.names_format.ensures ∙ c.if-not-names_format.true) same)

pub returns-clause-said : goal.returns-clause-said
returns-clause-said c =
    let first = c.in-Some.first.now.now in
    let is : first ≡ first_line = same_bytes first first_line (sym c.names_format.ensures ∙ c.if-not-names_format.false) in
    let P : List (List ℕ) → Type 0 = λ ls. IfOk c.read_behind.result (λ o. SaidBy ls o) in
    subst P (sym (ap slices_of c.in-Some.ensures.cases.0 ∙ ap (λ l. l ∷ slices_of c.in-Some.rest.now) is)) c.read_behind.ensures.said

pub returns-clause-fault : goal.returns-clause-fault
returns-clause-fault c = λ f h.
    let first = c.in-Some.first.now.now in
    let is : first ≡ first_line = same_bytes first first_line (sym c.names_format.ensures ∙ c.if-not-names_format.false) in
    let P : List (List ℕ) → Type 0 = λ ls. IsFirstFault ls f in
    subst P (sym (ap slices_of c.in-Some.ensures.cases.0 ∙ ap (λ l. l ∷ slices_of c.in-Some.rest.now) is)) (c.read_behind.ensures.fault f h)
