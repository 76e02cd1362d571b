use Rattle.std.proofs.Common.{sym, ◌∙◌}
use Rattle.rev_patched.proofs.AmendedLemmas.{manifest_amended}
use Rattle.rev_patched.proofs.amended.is_amendment.Goals as goal

pub returns : goal.returns
returns c = λ h. manifest_amended c.args.outs.now c.args.ins.now c.args.ords.now c.args.old.now c.args.new.now (sym c.in_ok-same.ensures ∙ h)
