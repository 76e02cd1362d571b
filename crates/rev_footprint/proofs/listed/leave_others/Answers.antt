use Rattle.std.proofs.Common.{rules, not}
use Rattle.std.proofs.lemmas.Fn.{filter_same}
use Rattle.rev_causal.specs.Store.{among}
use Rattle.rev_cells.specs.Keys.{cell_cmp}
use Rattle.rev_footprint.proofs.listed.leave_others.Goals as goal

pub returns : goal.returns
returns c = filter_same _ (λ k. not (among cell_cmp c.args.named.now k)) _ (λ x b f k. search rules) _ _ c.retain.ensures.filtered
