use Rattle.std.specs.Prelude.{◌&&◌}
use Rattle.rev_needless.specs.Staying.{all_stay}
use Rattle.rev_needless.proofs.staying.all_stay.Goals as goal

pub returns : goal.returns
unfolding all_stay
returns c = cc (c.in_ok-ordered.ensures, c.in_ok-reached.ensures, c.in_ok-below.ensures, c.in_ok-above.ensures)
