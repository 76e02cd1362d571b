-- What holds of values at every edge.
use Rattle.std.specs.Prelude.{◌≡◌, ℕ, ◌<◌, ◌⊎◌, ◌↔◌, IsTrue, List, [], ◌∷◌, length, Option, None, Some}
use Rattle.rev_syntax.specs.Texts.{PieceValue, Byte, Variable}
use Rattle.rev_scopes.specs.Bindings.{value_of}
use Rattle.rev_scopes.specs.Scopes.{ScopeValue, scope_at, AreNested, variable_in}
use Rattle.rev_scopes.specs.declared.rule_variable.RuleVariable.{RuleVariable}
use Rattle.rev_scopes.specs.RuleNames.{name_of, is_needed}
use Rattle.rev_scopes.specs.Edges.{EdgeEnvValue, source, Needs, HasValue, SomeNeedsItself}

-- a name has at most one value at an edge
abbrev pub OneValue : Type 0
OneValue =
    (edge : EdgeEnvValue) (name first second : List ℕ) → HasValue edge name first → HasValue edge name second
    → first ≡ second

-- the value in the parent, where there is one
abbrev pub parent_variable : List ScopeValue → Option ℕ → List ℕ → List ℕ
parent_variable scopes None name = []
parent_variable scopes (Some parent) name = variable_in scopes parent name

-- the scope's own value, where it has one, and else another
abbrev pub own_or : Option (List ℕ) → List ℕ → List ℕ
own_or None other = other
own_or (Some value) other = value

-- a variable has the value that its scope gives it, else the one that it has in the parent, and is empty where there is
-- none
abbrev pub ScopesHideTheirParents : Type 0
ScopesHideTheirParents =
    (scopes : List ScopeValue) (scope : ℕ) (name : List ℕ) → AreNested scopes → scope < length scopes
    → variable_in scopes scope name
    ≡ own_or (value_of name (scope_at scopes scope).variables)
    (parent_variable scopes (scope_at scopes scope).parent name)

-- the scopes that a look-up from a scope goes through: itself, its parent and so on
pub data IsOnTheWay (scopes : List ScopeValue) : ℕ → ℕ → Type 0 where
  Here : {scope : ℕ} → IsOnTheWay scopes scope scope
  Above : {scope parent above : ℕ} → (scope_at scopes scope).parent ≡ Some parent → IsOnTheWay scopes parent above
      → IsOnTheWay scopes scope above

-- scopes that differ in none that a look-up from that scope goes through
abbrev pub AreSameFrom : ℕ → List ScopeValue → List ScopeValue → Type 0
AreSameFrom scope scopes others =
    (above : ℕ) → IsOnTheWay scopes scope above → scope_at scopes above ≡ scope_at others above

-- a statement that changes another scope changes no value at an edge
abbrev pub OtherScopesChangeNothing : Type 0
OtherScopesChangeNothing =
    (edge : EdgeEnvValue) (others : List ScopeValue) → AreSameFrom edge.scope edge.scopes others
    → (name value : List ℕ) → HasValue edge name value → HasValue (record edge { scopes = others }) name value

-- a text names a variable
abbrev pub Names : List ℕ → List PieceValue → Type 0
Names name [] = ⊥
Names name (Byte b ∷ text) = Names name text
Names name (Variable other ∷ text) = (name ≡ other) ⊎ Names name text

-- a name leads to another at an edge: through a text of the rule that names it, or that names what leads to it
pub data LeadsTo (edge : EdgeEnvValue) : List ℕ → List ℕ → Type 0 where
  AtOnce : {name other : List ℕ} {text : List PieceValue} → source edge name ≡ Needs text → Names other text
      → LeadsTo edge name other
  Through : {name between other : List ℕ} {text : List PieceValue} → source edge name ≡ Needs text → Names between text
      → LeadsTo edge between other → LeadsTo edge name other

-- what needs itself, at once or through others, has no value
abbrev pub WhatNeedsItselfHasNoValue : Type 0
WhatNeedsItselfHasNoValue =
    (edge : EdgeEnvValue) (name value : List ℕ) → LeadsTo edge name name → HasValue edge name value → ⊥

-- a name is one that leads to itself, or leads to one
abbrev pub LeadsToALoop : EdgeEnvValue → List ℕ → Type 0
LeadsToALoop edge name = (other : List ℕ) × ((name ≡ other) ⊎ LeadsTo edge name other) × LeadsTo edge other other

-- a name that has no value leads to one that needs itself, so there is no other reason
abbrev pub NoValueMeansALoop : Type 0
NoValueMeansALoop =
    (edge : EdgeEnvValue) (name : List ℕ) → ((value : List ℕ) → HasValue edge name value → ⊥) → LeadsToALoop edge name

-- A name has no value exactly where it leads to a name that needs itself, also where it does not need itself.
abbrev pub NoValueIsALoop : Type 0
NoValueIsALoop =
    (edge : EdgeEnvValue) (name : List ℕ) → ((value : List ℕ) → HasValue edge name value → ⊥) ↔ LeadsToALoop edge name

-- an edge is refused for a variable without a value exactly where one that it needs leads to a loop
abbrev pub TheFaultIsALoop : Type 0
TheFaultIsALoop =
    (edge : EdgeEnvValue) → SomeNeedsItself edge
    ↔ ((variable : RuleVariable) × IsTrue (is_needed variable) × LeadsToALoop edge (name_of variable))
