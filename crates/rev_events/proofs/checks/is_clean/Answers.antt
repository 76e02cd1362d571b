use Rattle.std.proofs.Common.{◌≡◌, ◌==◌, false, List, [], ◌∷◌, length, Some, None, sym, ap, ◌∙◌, arith}
use Rattle.std.specs.Prelude.{slice_get}
use Rattle.std.proofs.lemmas.Bool.{ne_eqb}
use Rattle.rev_dirty.specs.declared.reason.Reason.{Reason}
use Rattle.rev_dirty.specs.Reasons.{reasons_of}
use Rattle.rev_events.proofs.checks.is_clean.Goals as goal

-- where there is a first reason the edge is not clean
not-clean : (reasons : List Reason) (first : Reason) → slice_get reasons 0 ≡ Some first → false ≡ (length reasons == 0)
not-clean [] first is = let no : None ≡ Some first = is in cc
not-clean (reason ∷ reasons) first is = sym (ne_eqb (length (reason ∷ reasons)) 0 (λ none. absurd (omega (arith, none))))

pub returns-then-lacks_first_output : goal.returns-then-lacks_first_output
returns-then-lacks_first_output c =
    not-clean (reasons_of c.args.graph.now.manifest.builds c.args.cells.now.state c.args.edge) _
    (sym (λ i. slice_get (reasons_of (c.new-scan.ensures.graph i).manifest.builds (c.new-scan.ensures.state i) c.args.edge) 0) ∙ c.lacks_first_output.ensures.first c.if-lacks_first_output.true)

pub returns : goal.returns
returns c =
    c.is_empty.ensures
    ∙ ap (λ n. n == 0) (c.in_ok-reasons.reasons.ok.0 ∙ ap (λ (reasons : List Reason). length reasons) (c.in_ok-reasons.ensures.reasons ∙ (λ i. reasons_of (c.new-scan.ensures.graph i).manifest.builds (c.new-scan.ensures.state i) c.args.edge)))
