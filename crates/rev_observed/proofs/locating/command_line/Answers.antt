use Rattle.std.proofs.Common.{◌≡◌, ◌≤◌, List, ℕ, length, Option, None, ap, ◌∙◌, subst}
use Rattle.std.specs.Prelude.{IfOk}
use Rattle.rev_fields.specs.Lines.{lines_of}
use Rattle.rev_fields.specs.Parts.{slices_of}
use Rattle.rev_observed.specs.Observations.{ObservationValue}
use Rattle.rev_observed.specs.Says.{LinesSay, statements_of}
use Rattle.rev_observed.proofs.locating.command_line.Goals as goal

pub returns-clause-none : goal.returns-clause-none
returns-clause-none c =
    let same : slices_of c.deref.result.now ≡ statements_of c.args.text.now = ap slices_of c.deref.ensures.value ∙ c.in_ok-lines.ensures ∙ ap lines_of c.without_end.ensures in
    let P : List (List ℕ) → Type 0 = λ ls. IfOk c.line_in.result (λ (found : Option ℕ). found ≡ None → (o : ObservationValue) → LinesSay ls o → length o.commands ≤ c.args.place) in
    subst P same c.line_in.ensures.none
