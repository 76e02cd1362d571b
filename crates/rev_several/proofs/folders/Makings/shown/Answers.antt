use Rattle.std.proofs.Common.{None, ◌∙◌}
use Rattle.std.specs.Prelude.{nat_eq}
use Rattle.std.specs.Map.Iter.{deref_pair}
use Rattle.std.proofs.lemmas.Map.Iter.{rest_all}
use Rattle.indexmap.specs.IndexMap.{get}
use Rattle.rev_several.proofs.ShownLemmas.{walk, walk-all, walk-end}
use Rattle.rev_several.proofs.folders.Makings.shown.Goals as goal

pub returns : goal.returns
returns c folder =
    walk-end folder (get nat_eq c.loop-key.folders folder) (walk folder None c.args.self.now.seen.entries) c.loop-key.key-iterator
    (rest_all deref_pair c.loop-key.key-iterator c.next.new.self c.next.result c.in-None.is c.next.ensures.steps)
    (c.loop-key.invariant folder)
    ∙ walk-all folder c.args.self.now.seen.entries
