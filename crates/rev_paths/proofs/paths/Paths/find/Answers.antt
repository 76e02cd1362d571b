use Rattle.std.proofs.Common.{◌≡◌, slice_get, Some, sym, ap, ◌∙◌}
use Rattle.rev_paths.specs.Paths.{place_of}
use Rattle.rev_paths.proofs.PlaceLemmas.{name_at-place_of}
use Rattle.rev_paths.proofs.paths.Paths.find.Goals as goal

pub returns-in-Some-clause-name : goal.returns-in-Some-clause-name
returns-in-Some-clause-name c =
    let at : place_of c.args.name.now c.self.inside.names.keys ≡ Some c.in-Some.place = sym c.in-Some.ensures.index in
    ap (λ names. slice_get names c.in-Some.place) (sym c.self.view_is) ∙ name_at-place_of c.args.name.now c.self.inside.names.keys c.in-Some.place at
