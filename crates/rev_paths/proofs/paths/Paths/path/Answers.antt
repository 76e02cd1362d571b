use Rattle.std.proofs.Common.{◌≡◌, slice_get, Some, sym, ap, ◌∙◌}
use Rattle.rev_paths.specs.Paths.{place_of}
use Rattle.rev_paths.proofs.PlaceLemmas.{place_of-name_at}
use Rattle.rev_paths.proofs.paths.Paths.path.Goals as goal

pub returns-clause-place : goal.returns-clause-place
returns-clause-place c =
    let at : slice_get c.self.inside.names.keys c.args.place ≡ Some c.in-Some.name.now = sym c.in-Some.ensures.key in
    ap (place_of c.in-Some.name.now) (sym c.self.view_is) ∙ place_of-name_at c.in-Some.name.now c.self.inside.names.keys c.args.place c.self.invariant at
