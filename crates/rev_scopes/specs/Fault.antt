-- The numbers of the faults.
use Rattle.std.specs.Prelude.{ℕ, Option, Some, None}
use Rattle.rev_scopes.specs.declared.fault.RuleFault.{RuleFault}
use Rattle.rev_scopes.specs.declared.fault.RuleFault.TheVariants as rule_fault
use Rattle.rev_scopes.specs.declared.fault.ValueFault.{ValueFault}
use Rattle.rev_scopes.specs.declared.fault.ValueFault.TheVariants as value_fault

abbrev pub rule_code : RuleFault → Option ℕ
rule_code rule_fault.Memory = None
rule_code rule_fault.DoubleRule = Some 14

abbrev pub value_code : ValueFault → Option ℕ
value_code value_fault.Memory = None
value_code value_fault.NeedsItself = Some 17
value_code value_fault.TooLarge = Some 23
