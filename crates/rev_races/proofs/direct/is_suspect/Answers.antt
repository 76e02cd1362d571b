use Rattle.std.proofs.Common.{sym}
use Rattle.rev_races.proofs.EndingLemmas.{unmarked-quiet}
use Rattle.rev_races.proofs.SearchLemmas.{quiet-step, unless-not}
use Rattle.rev_races.proofs.direct.is_suspect.Goals as goal

pub returns-in-Some : goal.returns-in-Some
returns-in-Some c = λ h.
    quiet-step c.args.graph.now.manifest.builds c.args.user c.in-Some.producer c.args.path.now (sym c.in-Some.ensures.value)
    (c.requires.direct.sound c.in-Some.producer c.args.user (c.is_marked.ensures (unless-not c.is_marked.result h)))

pub returns-then-not-may_be_made : goal.returns-then-not-may_be_made
returns-then-not-may_be_made c = λ _.
    unmarked-quiet c.args.graph.now.manifest.builds c.args.endings.now c.args.user c.args.path.now c.may_be_made.result
    c.requires.endings c.may_be_made.ensures c.if-not-may_be_made.true
