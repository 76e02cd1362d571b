use Rattle.std.proofs.Common.{◌≡◌, Some, None, sym, ap, ◌∙◌}
use Rattle.rev_paths.specs.Paths.{place_of, with_name}
use Rattle.rev_paths.proofs.PlaceLemmas.{there-place_of, place_of-absent, place_of-new, with_name-new}
use Rattle.rev_paths.proofs.paths.Paths.intern.Goals as goal

pub returns-in-Some-clause-names : goal.returns-in-Some-clause-names
returns-in-Some-clause-names c = there-place_of c.args.name.now c.args.self.now c.in-Some.place (sym c.in-Some.ensures.place)

pub returns-in_err-copy-clause-present : goal.returns-in_err-copy-clause-present
returns-in_err-copy-clause-present c = λ h.
    absurd (place_of-absent c.args.name.now c.args.self.now (sym c.in-None.ensures.place) h)

pub returns-in_err-insert-clause-present : goal.returns-in_err-insert-clause-present
returns-in_err-insert-clause-present c = λ h.
    absurd (place_of-absent c.args.name.now c.args.self.now (sym c.in-None.ensures.place) h)

pub returns-clause-place : goal.returns-clause-place
returns-clause-place c =
    let name = c.args.name.now in
    let none : place_of name c.args.self.now ≡ None = sym c.in-None.ensures.place in
    let same : c.self.inside.names.keys ≡ c.args.self.now = c.self.view_is in
    let equal : c.in_ok-copy.field-0 ≡ name = c.in_ok-copy.ensures.equal in
    let keys : c.insert.new.self.keys ≡ with_name name c.args.self.now = c.in_ok-insert.ensures.keys ∙ (λ i. with_name (equal i) (same i))
    in
    ap (place_of name) (keys ∙ with_name-new name c.args.self.now none) ∙ place_of-new name c.args.self.now none ∙ ap Some (sym c.len-place.ensures.len)
