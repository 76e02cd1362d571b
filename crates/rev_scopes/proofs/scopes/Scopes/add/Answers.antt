use Rattle.std.proofs.Common.{sym, subst}
use Rattle.rev_scopes.specs.Scopes.{AreNested}
use Rattle.rev_scopes.proofs.scopes.Scopes.add.Goals as goal

pub invariant_of-self : goal.invariant_of-self
invariant_of-self c = subst AreNested (sym c.in_err-push.ensures.items) c.self.invariant
