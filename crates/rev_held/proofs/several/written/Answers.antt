use Rattle.std.proofs.Common.{[], ap, ◌∙◌}
use Rattle.std.specs.Prelude.{find}
use Rattle.rev_held.proofs.several.written.Goals as goal

pub returns : goal.returns
returns c p = c.in_ok-add_all.ensures [] (λ q. ap (find q) c.new-set.ensures.empty) p ∙ ap (find p) c.writes.ensures.same
