use Rattle.std.proofs.Common.{refl}
use Rattle.rev_causal.specs.RegisterHistory.{state_of}
use Rattle.rev_causal.proofs.KeptHistories.{same_refused}
use Rattle.rev_causal.proofs.registers.history.History.accept.Goals as goal

pub returns-in-Err-clause-refused : goal.returns-in-Err-clause-refused
returns-in-Err-clause-refused c = λ r.
    same_refused c.args.self.now.kept c.args.self.now.kept (state_of c.args.self.now) (state_of c.args.self.now) c.args.number c.args.event c.in-Err.fault r refl refl (c.in-Err.ensures.refused r)
