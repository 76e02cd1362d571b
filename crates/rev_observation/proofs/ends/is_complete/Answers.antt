use Rattle.std.proofs.Common.{◌≡◌, Bool, bytes_eq, IfOk, sym, subst}
use Rattle.rev_fields.specs.Parts.{slices_of}
use Rattle.rev_observation.specs.Ends.{end_line, is_complete}
use Rattle.rev_observation.proofs.EndLemmas.{complete-last, slices-last}
use Rattle.rev_observation.proofs.ends.is_complete.Goals as goal

pub returns : goal.returns
returns c =
    let last = c.in-Some.last.now in
    let before = c.in-Some.before.now in
    let o = c.args.observation.now in
    let is = complete-last o (slices_of c.args.lines.now) (slices_of before) last.now (slices-last c.args.lines.now before last c.in-Some.ensures.cases.0) in
    let P : Bool → Type 0 = λ due. IfOk c.is_due.result (λ complete. complete ≡ due) in
    subst P (sym is) c.is_due.ensures
