use Rattle.std.proofs.Common.{sym, ◌∙◌, drop, get_or, ◌+◌}
use Rattle.std.proofs.lemmas.List.{at_drop_more}
use Rattle.rev_syntax.proofs.LineLemmas.{alone_after, alone_after-step}
use Rattle.rev_syntax.proofs.lines.ends_alone.Goals as goal

pub loop-byte-preserved : goal.loop-byte-preserved
loop-byte-preserved c =
    let text = c.args.text.now in
    let i = c.loop-byte.byte-index in
    alone_after-step c.loop-byte.takes (get_or text i 0) (drop (i + 1) text)
    ∙ sym (at_drop_more (alone_after c.loop-byte.takes) text i 0 c.loop-byte-test.true)
    ∙ c.loop-byte.invariant
