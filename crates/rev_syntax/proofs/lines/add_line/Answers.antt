use Rattle.std.proofs.Common.{◌≡◌, sym, ap, ◌∙◌, ◌++◌, ◌∷◌, false, suc, if◌then◌else◌}
use Rattle.std.proofs.lemmas.Result.{IfOk-weaker}
use Rattle.rev_syntax.specs.Lines.{is_dropped, ends_alone, before_first, joined, lines_from}
use Rattle.rev_syntax.specs.Joining.{lines_after}
use Rattle.rev_syntax.proofs.LineLemmas.{begins}
use Rattle.rev_syntax.proofs.lines.add_line.Goals as goal

pub returns-else-is_dropped : goal.returns-else-is_dropped
returns-else-is_dropped c =
    let raw = c.args.raw.now in
    let k = c.args.number in
    let old = c.args.lines.now.items in
    let dropped : is_dropped raw ≡ false = sym c.is_dropped.ensures ∙ c.if-is_dropped.false in
    IfOk-weaker c.extend_line-in-None.result _ _
    (λ next h more.
    let lines = lines_from (ends_alone raw) (suc k) more in
    h k (suc k) more
    ∙ ap (λ t. old ++ before_first k t (joined k raw lines)) c.new.ensures.items
    ∙ ap (λ t. old ++ t) (begins k raw lines)
    ∙ sym (ap (λ b. old ++ (if b then lines_from false (suc k) more else joined k raw lines)) dropped)
    ∙ sym (ap (λ o. old ++ lines_after o k (raw ∷ more)) c.in-None.is))
    c.extend_line-in-None.ensures
