use Rattle.std.proofs.Common.{◌∷◌, List, ℕ, sym, ap, subst}
use Rattle.rev_fields.specs.Parts.{slices_of}
use Rattle.rev_observed.specs.CommandLines.{IsCommandLine, IsLineAmong}
use Rattle.rev_observed.specs.Observations.{nothing_by}
use Rattle.rev_observed.specs.Says.{first_line}
use Rattle.rev_observed.proofs.CommandLineLemmas.{found-more, line-behind}
use Rattle.rev_observed.proofs.locating.line_behind.Goals as goal

pub returns-in-Ok-clause-found : goal.returns-in-Ok-clause-found
returns-in-Ok-clause-found c =
    let second = c.in-Some.second.now.now in
    let rest = slices_of c.in-Some.rest.now in
    let whole = ap slices_of c.in-Some.ensures.cases.0 in
    found-more (λ line. IsLineAmong (nothing_by c.in-Ok.by.items) rest c.args.place line) (λ line. IsCommandLine (first_line ∷ slices_of c.args.lines.now) c.args.place line)
    (λ line a.
    let P : List (List ℕ) → Type 0 = λ ls. IsCommandLine (first_line ∷ ls) c.args.place line in
    subst P (sym whole) (line-behind second c.in-Ok.by.items rest c.args.place line c.in-Ok.ensures a))
    c.line_among.result c.line_among.ensures.found
