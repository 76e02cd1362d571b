use Rattle.std.proofs.Common.{◌≡◌, true, is_some, ap, ◌∙◌, sym}
use Rattle.rev_observed.specs.Observations.{ObservationValue, has_name}
use Rattle.rev_observed.proofs.CommandLemmas.{has_name-there, path_put-double}
use Rattle.rev_observed.proofs.observation.Observation.put_path.Goals as goal

pub returns-then-is_some : goal.returns-then-is_some
returns-then-is_some c =
    let path = c.args.path.now in
    let has : has_name c.self.inside.paths path ≡ true = has_name-there path c.self.inside.paths (ap is_some (sym c.find.ensures.place) ∙ sym c.is_some.ensures ∙ c.if-is_some.true) in
    path_put-double c.args.self.now path (ap (λ (o : ObservationValue). has_name o.paths path) (sym c.self.view_is) ∙ has)
