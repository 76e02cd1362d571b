use Rattle.std.proofs.Common.{refl}
use Rattle.rev_scopes.specs.declared.rule_variable.RuleVariable.TheVariants.{Command, Depfile, Deps, Generator, Restat, RspfileContent, Pool}
use Rattle.rev_scopes.proofs.edge_values.waits.Goals as goal

pub returns-then-is_waiting-clause-some : goal.returns-then-is_waiting-clause-some
returns-then-is_waiting-clause-some c = λ _. (Command, refl, c.is_waiting.ensures.0 c.if-is_waiting.true)

pub returns-then-is_waiting-2-clause-some : goal.returns-then-is_waiting-2-clause-some
returns-then-is_waiting-2-clause-some c = λ _. (Depfile, refl, c.is_waiting-2.ensures.0 c.if-is_waiting-2.true)

pub returns-then-is_waiting-3-clause-some : goal.returns-then-is_waiting-3-clause-some
returns-then-is_waiting-3-clause-some c = λ _. (Deps, refl, c.is_waiting-3.ensures.0 c.if-is_waiting-3.true)

pub returns-then-is_waiting-4-clause-some : goal.returns-then-is_waiting-4-clause-some
returns-then-is_waiting-4-clause-some c = λ _. (Generator, refl, c.is_waiting-4.ensures.0 c.if-is_waiting-4.true)

pub returns-then-is_waiting-5-clause-some : goal.returns-then-is_waiting-5-clause-some
returns-then-is_waiting-5-clause-some c = λ _. (Restat, refl, c.is_waiting-5.ensures.0 c.if-is_waiting-5.true)

pub returns-then-is_waiting-6-clause-some : goal.returns-then-is_waiting-6-clause-some
returns-then-is_waiting-6-clause-some c = λ _. (RspfileContent, refl, c.is_waiting-6.ensures.0 c.if-is_waiting-6.true)

pub returns-clause-some : goal.returns-clause-some
returns-clause-some c = λ waits. (Pool, refl, c.is_waiting-7.ensures.0 waits)
