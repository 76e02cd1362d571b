use Rattle.rev_named.proofs.NamedLemmas.{part-last, part-more}
use Rattle.rev_named.proofs.components.last_part.Goals as goal

pub loop-byte-preserved : goal.loop-byte-preserved
loop-byte-preserved c =
    part-more c.loop-byte.rest.now c.args.path.now c.loop-byte.last.now c.part_behind-last.result.now c.in-Some.byte.now c.in-Some.after.now c.in-Some.ensures.cases.0 c.part_behind-last.ensures c.loop-byte.invariant

pub returns : goal.returns
returns c = part-last c.loop-byte.rest.now c.args.path.now c.loop-byte.last.now c.in_default.ensures.cases c.loop-byte.invariant
