use Rattle.rev_observed.specs.declared.command.Uses.{Uses}
use Rattle.rev_observed.specs.Texts.{ended, line_text, uses_texts}
use Rattle.rev_observed_text.specs.Writable.{IsWritableUses}
use Rattle.rev_observed_text.proofs.TextLemmas.{all-known, all-put, lines-each}
use Rattle.rev_observed_text.proofs.lines.push_all_uses.Goals as goal

pub returns-clause-text : goal.returns-clause-text
returns-clause-text c =
    all-put (λ (u : Uses). ended (line_text (uses_texts u))) c.args.text.now.items c.loop-one.text.items _ c.args.uses.now c.loop-one.one-index c.loop-one-test.false (lines-each uses_texts c.args.uses.now) c.loop-one.invariant.0

pub returns-clause-writable : goal.returns-clause-writable
returns-clause-writable c = all-known IsWritableUses c.args.uses.now c.loop-one.one-index c.loop-one-test.false c.loop-one.invariant.1
