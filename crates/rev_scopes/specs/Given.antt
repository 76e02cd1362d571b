-- What is given for the variables of an edge, as it is found.
use Rattle.std.specs.Prelude.{◌≡◌, ◌≢◌, ℕ, ◌≤◌, IsTrue, List, length}
use Rattle.rev_scopes.specs.declared.edge.EdgeVariables.{EdgeVariables}
use Rattle.rev_scopes.specs.declared.fault.ValueFault.{ValueFault}
use Rattle.rev_scopes.specs.declared.fault.ValueFault.TheVariants.{NeedsItself, TooLarge}
use Rattle.rev_scopes.specs.declared.growth.TheConstants.{MAX_VALUE_BYTES}
use Rattle.rev_scopes.specs.declared.rule_variable.RuleVariable.{RuleVariable}
use Rattle.rev_scopes.specs.RuleNames.{name_of, is_needed}
use Rattle.rev_scopes.specs.Edges.{AllHaveValues, EdgeEnvValue, HasValue, SomeIsTooLarge, given_for}

-- what is given for a name is its value, and no larger than a value may be
pub record IsGiven (edge : EdgeEnvValue) (name value : List ℕ) : Type 0 where
  pub is : HasValue edge name value
  pub within : length value ≤ MAX_VALUE_BYTES

-- so it is with each variable that is expanded for each edge
pub record AreGiven (edge : EdgeEnvValue) (values : EdgeVariables) : Type 0 where
  pub are : (variable : RuleVariable) → IsTrue (is_needed variable)
      → IsGiven edge (name_of variable) (given_for variable values)

-- a fault where all have values: if it is not one of memory, one of them is too large
pub record IsOfSize (edge : EdgeEnvValue) (fault : ValueFault) : Type 0 where
  pub finite : fault ≢ NeedsItself
  pub large : fault ≡ TooLarge → SomeIsTooLarge edge
  pub all : fault ≡ TooLarge → AllHaveValues edge
