-- Expansion at the end: what a name stands for at an edge, once all files are read.
use Rattle.std.specs.Prelude.{◌≡◌, ℕ, ◌<◌, ◌≤◌, IsTrue, List, [], ◌∷◌, ◌++◌, length, Option, None, Some, option_map, bytes_eq, codes, if◌then◌else◌}
use Rattle.std.specs.List.{flat_map}
use Rattle.rev_paths.specs.Quoting.{quote}
use Rattle.rev_syntax.specs.Texts.{PieceValue, Byte, Variable}
use Rattle.rev_scopes.specs.declared.rule_variable.RuleVariable.{RuleVariable}
use Rattle.rev_scopes.specs.declared.rule_variable.RuleVariable.TheVariants.{Command, Depfile, Deps, MsvcDepsPrefix, Description, Generator, Restat, Rspfile, RspfileContent, Pool}
use Rattle.rev_scopes.specs.declared.edge.EdgeEnv.{EdgeEnv}
use Rattle.rev_scopes.specs.declared.edge.EdgeVariables.{EdgeVariables}
use Rattle.rev_scopes.specs.Bindings.{value_of}
use Rattle.rev_scopes.specs.RuleNames.{name_of, is_needed}
use Rattle.rev_scopes.specs.Scopes.{ScopeValue, RuleValue, or_empty, variable_in}
use Rattle.rev_scopes.specs.declared.growth.TheConstants.{MAX_VALUE_BYTES}

-- what a look-up at an edge goes by: its explicit inputs and outputs, its block with values that are expanded already,
-- its rule, and the scope of its build statement
pub record EdgeEnvValue : Type 0 where
  pub ins : List (List ℕ)
  pub outs : List (List ℕ)
  pub block : List (List ℕ × List ℕ)
  pub rule : RuleValue
  pub scopes : List ScopeValue
  pub scope : ℕ

-- quoted paths, each but the first behind a byte
abbrev pub joined : ℕ → List (List ℕ) → List ℕ
joined by [] = []
joined by (path ∷ others) = quote path ++ flat_map (λ other. by ∷ quote other) others

-- the names that stand for paths: `in` with spaces between them, `in_newline` with line ends, `out` with spaces
abbrev pub paths_named : EdgeEnvValue → List ℕ → Option (List ℕ)
paths_named edge name =
    if bytes_eq name (codes "in") then Some (joined 32 edge.ins)
    else (if bytes_eq name (codes "in_newline") then Some (joined 10 edge.ins)
    else (if bytes_eq name (codes "out") then Some (joined 32 edge.outs) else None))

-- what a name leads to: a value, or a text of the rule, which is expanded by this same look-up
pub data Source : Type 0 where
  Known : List ℕ → Source
  Needs : List PieceValue → Source

-- the first that there is: paths, the block's value, the rule's text, and else the scopes' last value
abbrev pub first_source : Option (List ℕ) → Option (List ℕ) → Option (List PieceValue) → List ℕ → Source
first_source (Some paths) block rule last = Known paths
first_source None (Some value) rule last = Known value
first_source None None (Some text) last = Needs text
first_source None None None last = Known last

abbrev pub source : EdgeEnvValue → List ℕ → Source
source edge name =
    first_source (paths_named edge name) (value_of name edge.block) (value_of name edge.rule)
    (variable_in edge.scopes edge.scope name)

mutual
  -- A name has a value at an edge, by a finite derivation. A rule variable that needs itself has none.
  pub data HasValue (edge : EdgeEnvValue) : List ℕ → List ℕ → Type 0 where
    Given : {name value : List ℕ} → source edge name ≡ Known value → HasValue edge name value
    Expanded : {name value : List ℕ} {text : List PieceValue} → source edge name ≡ Needs text
        → IsExpanded edge text value → HasValue edge name value

  -- A text's value is what its pieces stand for, one after another.
  pub data IsExpanded (edge : EdgeEnvValue) : List PieceValue → List ℕ → Type 0 where
    Nothing : IsExpanded edge [] []
    Plain : {b : ℕ} {text : List PieceValue} {others : List ℕ} → IsExpanded edge text others
        → IsExpanded edge (Byte b ∷ text) (b ∷ others)
    Named : {name value others : List ℕ} {text : List PieceValue} → HasValue edge name value
        → IsExpanded edge text others → IsExpanded edge (Variable name ∷ text) (value ++ others)

-- each variable that is expanded for each edge has a value
abbrev pub AllHaveValues : EdgeEnvValue → Type 0
AllHaveValues edge =
    (variable : RuleVariable) → IsTrue (is_needed variable) → (value : List ℕ) × HasValue edge (name_of variable) value

-- one of them has none
abbrev pub SomeNeedsItself : EdgeEnvValue → Type 0
SomeNeedsItself edge =
    (variable : RuleVariable) × IsTrue (is_needed variable)
    × ((value : List ℕ) → HasValue edge (name_of variable) value → ⊥)

-- one of them has a value of more than 1,048,576 bytes
abbrev pub SomeIsTooLarge : EdgeEnvValue → Type 0
SomeIsTooLarge edge =
    (variable : RuleVariable) × (value : List ℕ) × IsTrue (is_needed variable) × HasValue edge (name_of variable) value
    × (MAX_VALUE_BYTES < length value)

-- what an edge is seen as
abbrev pub seen_edge : EdgeEnv → EdgeEnvValue
seen_edge edge =
    record { ins = edge.ins.now; outs = edge.outs.now; block = edge.block.now; rule = edge.rule.now; scopes = edge.scopes.now; scope = edge.scope }

-- the path that is given for `rspfile`, if it is not too large
abbrev pub response_given : EdgeVariables → Option (List ℕ)
response_given values = option_map (λ path. path.items) values.rspfile

-- what is given for a variable
abbrev pub given_for : RuleVariable → EdgeVariables → List ℕ
given_for Command values = values.command.items
given_for Depfile values = values.depfile.items
given_for Deps values = values.deps.items
given_for MsvcDepsPrefix values = []
given_for Description values = []
given_for Generator values = values.generator.items
given_for Restat values = values.restat.items
given_for Rspfile values = or_empty (response_given values)
given_for RspfileContent values = values.rspfile_content.items
given_for Pool values = values.pool.items

-- The path of an edge's response file. An edge is not refused for it: there is no path where `rspfile` has a value that
-- is too large, and the path is empty where `rspfile` has no value, since it needs itself.
pub data IsResponseFile (edge : EdgeEnvValue) : Option (List ℕ) → Type 0 where
  HasPath : {path : List ℕ} → HasValue edge (codes "rspfile") path → length path ≤ MAX_VALUE_BYTES
      → IsResponseFile edge (Some path)
  IsLarge : {value : List ℕ} → HasValue edge (codes "rspfile") value → MAX_VALUE_BYTES < length value
      → IsResponseFile edge None
  HasNone : ((value : List ℕ) → HasValue edge (codes "rspfile") value → ⊥) → IsResponseFile edge (Some [])

-- the command that is compared with the recorded one: behind the command stands the content of its response file, where
-- there is any
abbrev pub compared : List ℕ → List ℕ → List ℕ
compared command [] = command
compared command (b ∷ content) = command ++ (codes ";rspfile=" ++ (b ∷ content))
