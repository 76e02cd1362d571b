use Rattle.rev_races.proofs.GroupLemmas.{given-ok, kept-makers}
use Rattle.rev_races.proofs.making.makers_behind.Goals as goal

pub returns-clause-kept : goal.returns-clause-kept
returns-clause-kept c =
    given-ok (kept-makers c.args.graph.now.manifest.builds c.args.producer c.args.path.now c.in_ok-behind.field-0.items c.requires.producer c.in_ok-behind.ensures) c.to_vec-2.result
