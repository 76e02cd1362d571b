use Rattle.std.proofs.Common.{true, false, sym, ◌∙◌}
use Rattle.rev_races.proofs.ConeMarks.{held-beside, held-free}
use Rattle.rev_races.proofs.cones.held.Goals as goal

pub returns-then-not-is_marked-clause-held : goal.returns-then-not-is_marked-clause-held
returns-then-not-is_marked-clause-held c = λ f at.
    held-free c.args.history.now.timeline c.args.cones.now c.args.place f c.args.number c.requires.cones at (sym c.is_marked.ensures ∙ c.if-not-is_marked.true)
