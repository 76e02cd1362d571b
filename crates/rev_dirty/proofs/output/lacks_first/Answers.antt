use Rattle.std.proofs.Common.{◌≡◌, ap, sym, ◌∙◌, nat_eq}
use Rattle.rev_dirty.proofs.FirstReason.{first-missing}
use Rattle.rev_dirty.proofs.output.lacks_first.Goals as goal

pub returns-in-Some-clause-first : goal.returns-in-Some-clause-first
returns-in-Some-clause-first c = λ missing.
    first-missing c.args.graph.now.manifest.builds c.args.cells.now.state c.args.edge c.in-Some.output.now (sym c.is_phony.ensures ∙ c.if-is_phony.false) c.in-Some.ensures
    (ap (λ s. nat_eq s 0) (sym c.stamp.ensures) ∙ missing)
