use Rattle.std.proofs.Common.{◌-◌, Bool, if◌then◌else◌, Option, None, drop, map, ap, sym, ◌∙◌}
use Rattle.rev_patch.specs.declared.statement.Place.{Place}
use Rattle.rev_patch.specs.Lines.{line_of}
use Rattle.rev_patch.specs.Additions.{texts_of}
use Rattle.rev_patch.specs.Statement.{place_in, statement}
use Rattle.rev_patch.proofs.ChangeLemmas.{place_for-first}
use Rattle.rev_patch.proofs.changes.place_for.Goals as goal

pub returns-then-is_left_out : goal.returns-then-is_left_out
returns-then-is_left_out c =
    let first = c.in-Some.first.now in
    let ls = texts_of (map line_of c.args.rows.now) in
    let put : Bool → Option Place = λ b. if b then None else place_in (first.line - 1) (statement (drop (first.line - 1) ls)) in
    sym (place_for-first ls c.args.additions.now first c.in-Some.ensures.value ∙ ap put (sym c.is_left_out.ensures ∙ c.if-is_left_out.true))

pub returns : goal.returns
returns c =
    let first = c.in-Some.first.now in
    let ls = texts_of (map line_of c.args.rows.now) in
    let put : Bool → Option Place = λ b. if b then None else place_in (first.line - 1) (statement (drop (first.line - 1) ls)) in
    c.place_of.ensures ∙ ap (λ k. place_in k (statement (drop k ls))) c.saturating_sub.ensures
    ∙ sym (place_for-first ls c.args.additions.now first c.in-Some.ensures.value ∙ ap put (sym c.is_left_out.ensures ∙ c.if-is_left_out.false))
