use Rattle.std.proofs.Common.{sym, ◌∙◌}
use Rattle.rev_patched.proofs.SameLemmas.{manifest_told}
use Rattle.rev_patched.proofs.check.is_ordered.Goals as goal

pub returns : goal.returns
returns c =
    let told = manifest_told c.args.orders.now c.args.old.now c.args.new.now in
    let is = c.in_ok-same.ensures in
    ((λ h. told.0 (sym is ∙ h)), (λ o. is ∙ told.1 o))
