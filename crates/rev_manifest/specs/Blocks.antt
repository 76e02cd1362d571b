-- Bindings under a statement, of which the later of one name counts.
use Rattle.std.specs.Prelude.{◌≡◌, ℕ, Bool, true, false, not, ◌&&◌, replicate, List, [], ◌∷◌, ◌++◌, Option, Some, None, is_some, bytes_eq, codes, if◌then◌else◌}
use Rattle.std.specs.List.{list_any, list_all}
use Rattle.rev_syntax.specs.Texts.{PieceValue}
use Rattle.rev_syntax.specs.Statements.{BindingValue}
use Rattle.rev_scopes.specs.Bindings.{value_of, bound}
use Rattle.rev_scopes.specs.Scopes.{RuleValue}
use Rattle.rev_scopes.specs.Expansion.{expanded, is_too_large}
use Rattle.rev_scopes.specs.RuleNames.{variable_named}

-- whether a name is bound
abbrev pub binds : List ℕ → List BindingValue → Bool
binds name bindings = list_any (λ binding. bytes_eq name binding.name) bindings

-- whether all names are those of variables that a rule has
abbrev pub are_rule_variables : List BindingValue → Bool
are_rule_variables bindings = list_all (λ binding. is_some (variable_named binding.name)) bindings

-- whether all names are `depth`
abbrev pub are_depths : List BindingValue → Bool
are_depths bindings = list_all (λ binding. bytes_eq binding.name (codes "depth")) bindings

-- texts with those of further bindings
abbrev pub with_texts : List (List ℕ × List PieceValue) → List BindingValue → List (List ℕ × List PieceValue)
with_texts texts [] = texts
with_texts texts (binding ∷ bindings) = with_texts (bound binding.name binding.value texts) bindings

-- the texts of a rule, which are expanded for each edge
abbrev pub texts_of : List BindingValue → List (List ℕ × List PieceValue)
texts_of bindings = with_texts [] bindings

-- the text of the last binding
abbrev pub last_text : List BindingValue → Option (List PieceValue)
last_text [] = None
last_text (binding ∷ []) = Some binding.value
last_text (binding ∷ next ∷ more) = last_text (next ∷ more)

module _ (value : List PieceValue → List ℕ) where
  -- a binding above others: a later one of its name counts in its place
  abbrev pub with_earlier : BindingValue → List (List ℕ × List ℕ) → List (List ℕ × List ℕ)
  with_earlier binding values =
      if is_some (value_of binding.name values) then values else values ++ (binding.name, value binding.value) ∷ []

  -- bindings with their values, the last first
  abbrev pub values_by : List BindingValue → List (List ℕ × List ℕ)
  values_by [] = []
  values_by (binding ∷ bindings) = with_earlier binding (values_by bindings)

-- the values of a block: of each name the last binding alone is expanded
abbrev pub values_of : (List ℕ → List ℕ) → List BindingValue → List (List ℕ × List ℕ)
values_of look_up bindings = values_by (expanded look_up) bindings

-- whether some value is too large
abbrev pub has_large : List (List ℕ × List ℕ) → Bool
has_large values = list_any (λ binding. is_too_large binding.1) values

-- the rule that these bindings make: none where a name is that of no variable that a rule has
abbrev pub IsRuleWith : List BindingValue → Option RuleValue → Type 0
IsRuleWith bindings None = are_rule_variables bindings ≡ false
IsRuleWith bindings (Some rule) = (are_rule_variables bindings ≡ true) × (rule ≡ texts_of bindings)

-- A value with the bytes that the code keeps of it: 4,097 bytes stand for one that is too large, since a path with it
-- is too long all the same.
abbrev pub kept : List ℕ → List ℕ
kept value = if is_too_large value then replicate 4097 120 else value

-- the values of a block as the code keeps them
abbrev pub kept_values : (List ℕ → List ℕ) → List BindingValue → List (List ℕ × List ℕ)
kept_values look_up bindings = values_by (λ text. kept (expanded look_up text)) bindings

-- whether a binding that counts above others has a value that is too large
abbrev pub is_large_above : (List ℕ → List ℕ) → List (List ℕ × List ℕ) → BindingValue → Bool
is_large_above look_up values binding =
    not (is_some (value_of binding.name values)) && is_too_large (expanded look_up binding.value)
