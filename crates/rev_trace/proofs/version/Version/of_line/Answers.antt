use Rattle.std.proofs.Common.{◌≡◌, ℕ, List, Some, None, cond, false, true, refl, sym, ap, ◌∙◌, subst}
use Rattle.std.proofs.lemmas.Slice.Eq.{bytes_eq-Decides}
use Rattle.std.specs.Str.{bytes_eq}
use Rattle.rev_trace.specs.declared.version.Version.TheVariants.{One, Two}
use Rattle.rev_trace.specs.Versions.{first_line, is_first, version_of}
use Rattle.rev_trace.proofs.version.Version.of_line.Goals as goal

pub returns-then-eq : goal.returns-then-eq
returns-then-eq c =
    let line = c.args.line.now in
    let same : bytes_eq line (first_line One) ≡ true = ap (bytes_eq line) (sym c.as_slice.ensures) ∙ sym c.eq.ensures ∙ c.if-eq.true in
    let P : List ℕ → Type 0 = λ l. Some One ≡ cond (is_first l) (Some (version_of l)) None in
    subst P (sym ((bytes_eq-Decides line (first_line One)).0 same)) refl

pub returns-then-eq-2 : goal.returns-then-eq-2
returns-then-eq-2 c =
    let line = c.args.line.now in
    let same : bytes_eq line (first_line Two) ≡ true = ap (bytes_eq line) (sym c.as_slice-2.ensures) ∙ sym c.eq-2.ensures ∙ c.if-eq-2.true in
    let P : List ℕ → Type 0 = λ l. Some Two ≡ cond (is_first l) (Some (version_of l)) None in
    subst P (sym ((bytes_eq-Decides line (first_line Two)).0 same)) refl

pub returns : goal.returns
returns c =
    let line = c.args.line.now in
    let no_one : bytes_eq line (first_line One) ≡ false = ap (bytes_eq line) (sym c.as_slice.ensures) ∙ sym c.eq.ensures ∙ c.if-eq.false in
    let no_two : bytes_eq line (first_line Two) ≡ false = ap (bytes_eq line) (sym c.as_slice-2.ensures) ∙ sym c.eq-2.ensures ∙ c.if-eq-2.false in
    let none : is_first line ≡ false = ap (λ b. bytes_eq line (first_line (cond b Two One))) no_two ∙ no_one in
    sym (ap (λ b. cond b (Some (version_of line)) None) none)
