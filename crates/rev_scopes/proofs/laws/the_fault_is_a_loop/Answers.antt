use Rattle.rev_scopes.specs.RuleNames.{name_of}
use Rattle.rev_scopes.proofs.ItselfLemmas.{no_value_is_a_loop}
use Rattle.rev_scopes.proofs.laws.the_fault_is_a_loop.Goals as goal

pub returns : goal.returns
returns c = λ edge. (λ h. (h.0, h.1, (no_value_is_a_loop edge (name_of h.0)).0 h.2), λ h. (h.0, h.1, (no_value_is_a_loop edge (name_of h.0)).1 h.2))
