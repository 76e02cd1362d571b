use Rattle.std.proofs.Common.{sym, ◌∙◌}
use Rattle.rev_several.proofs.FileLemmas.{files}
use Rattle.rev_several.proofs.same.are_same.Goals as goal

pub returns : goal.returns
returns c =
    let decides = files c.args.one.now c.args.other.now in
    (λ h. decides.0 (sym c.eq.ensures ∙ h), λ e. c.eq.ensures ∙ decides.1 e)
