use Rattle.std.proofs.Common.{ap, ◌∙◌}
use Rattle.rev_cells.specs.Effects.{set_all}
use Rattle.rev_queries.proofs.rebuild.touched.Goals as goal

pub returns : goal.returns
returns c = record {
  copy = c.in_ok-after.after.state;
  alike = c.in_ok-after.ensures;
  touched = c.in_ok-write_all.ensures.state ∙ ap (set_all c.in_ok-after.after.state) c.in_ok-entries.ensures.touches;
}
