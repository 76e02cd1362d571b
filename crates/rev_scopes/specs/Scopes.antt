-- Scopes of variables and rules.
use Rattle.std.specs.Prelude.{◌≡◌, ℕ, zero, suc, ◌<◌, Bool, ◌||◌, List, [], length, Option, Some, None, is_some, slice_index_or, slice_set, bytes_eq, codes}
use Rattle.std.specs.Option.{option_or}
use Rattle.rev_scopes.specs.Bindings.{value_of, bound}
use Rattle.rev_syntax.specs.Texts.{PieceValue}

-- a rule: its variables, by their names, with their texts
abbrev pub RuleValue : Type 0
RuleValue = List (List ℕ × List PieceValue)

-- a scope: its variables with their values, its rules by their names, and the number of its parent, if it has one
pub record ScopeValue : Type 0 where
  pub parent : Option ℕ
  pub variables : List (List ℕ × List ℕ)
  pub rules : List (List ℕ × RuleValue)

-- a scope before anything is bound in it
abbrev pub empty_scope : Option ℕ → ScopeValue
empty_scope parent = record { parent = parent; variables = []; rules = [] }

-- the scope of a number
abbrev pub scope_at : List ScopeValue → ℕ → ScopeValue
scope_at scopes i = slice_index_or scopes i (empty_scope None)

-- each parent stands before its scope
abbrev pub AreNested : List ScopeValue → Type 0
AreNested scopes = (i p : ℕ) → i < length scopes → (scope_at scopes i).parent ≡ Some p → p < i

module _ {A : Type 0} (own : ScopeValue → Option A) (scopes : List ScopeValue) where
  -- what a scope has of its own, else what its parent has, and so on through at most that many scopes
  unfoldable pub find_up : ℕ → Option ℕ → Option A
  find_up zero scope = None
  find_up (suc n) None = None
  find_up (suc n) (Some i) = option_or (own (scope_at scopes i)) (find_up n (scope_at scopes i).parent)

  -- what is found in a scope, else in its parents. A parent's number is below its scope's, so the scopes on the way up
  -- are no more than the number and one.
  abbrev pub found_in : ℕ → Option A
  found_in i = find_up (suc i) (Some i)

-- a variable that is nowhere is empty
abbrev pub or_empty : Option (List ℕ) → List ℕ
or_empty None = []
or_empty (Some value) = value

-- what a variable is bound to, if it is bound anywhere: in the scope, else in its parents
abbrev pub binding_in : List ScopeValue → ℕ → List ℕ → Option (List ℕ)
binding_in scopes i name = found_in (λ scope. value_of name scope.variables) scopes i

-- the value of a variable
abbrev pub variable_in : List ScopeValue → ℕ → List ℕ → List ℕ
variable_in scopes i name = or_empty (binding_in scopes i name)

-- the rule of a name: in the scope, else in its parents
abbrev pub rule_in : List ScopeValue → ℕ → List ℕ → Option RuleValue
rule_in scopes i name = found_in (λ scope. value_of name scope.rules) scopes i

-- the scope with one more binding of a variable
abbrev pub with_variable : List ℕ → List ℕ → ScopeValue → ScopeValue
with_variable name value scope = record scope { variables = bound name value scope.variables }

-- the scope with one more rule
abbrev pub with_rule : List ℕ → RuleValue → ScopeValue → ScopeValue
with_rule name rule scope = record scope { rules = bound name rule scope.rules }

-- the scopes, with one of them changed
abbrev pub with_scope : ℕ → (ScopeValue → ScopeValue) → List ScopeValue → List ScopeValue
with_scope i change scopes = slice_set scopes i (change (scope_at scopes i))

-- a name that no further rule of the scope may have. A parent's rule of that name is no fault.
abbrev pub is_taken : List ℕ → ScopeValue → Bool
is_taken name scope = bytes_eq name (codes "phony") || is_some (value_of name scope.rules)
