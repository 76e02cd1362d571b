-- Expansion at the end: what a name stands for at an edge, once all files are read.
use Rattle.std.specs.Prelude.{ℕ, zero, suc, ◌+◌, List, [], ◌∷◌, ◌++◌, length, sum_by, Option, Some, None, option_map, is_some, not, codes, if◌then◌else◌}
use Rattle.std.specs.List.{list_any}
use Rattle.rev_syntax.specs.Texts.{PieceValue, Byte, Variable}
use Rattle.rev_scopes.specs.Edges.{EdgeEnvValue, Source, Known, Needs, source}
use Rattle.rev_scopes.specs.Expansion.{is_too_large}
use Rattle.rev_scopes.specs.Scopes.{ScopeValue, RuleValue}
use Rattle.rev_scopes.specs.declared.growth.TheConstants.{MAX_VALUE_BYTES}
use Rattle.rev_manifest.specs.declared.fault.FaultKind.{FaultKind}
use Rattle.rev_manifest.specs.declared.fault.FaultKind.TheVariants.{VariableCycle, TooLarge}
use Rattle.rev_manifest.specs.Declarations as declarations

-- two values one after another, where there are both
abbrev pub both : Option (List ℕ) → Option (List ℕ) → Option (List ℕ)
both None second = None
both (Some first) second = option_map (λ others. first ++ others) second

-- the value of a text, where each name in it has one
abbrev pub text_by : (List ℕ → Option (List ℕ)) → List PieceValue → Option (List ℕ)
text_by look_up [] = Some []
text_by look_up (Byte b ∷ text) = option_map (λ others. b ∷ others) (text_by look_up text)
text_by look_up (Variable name ∷ text) = both (look_up name) (text_by look_up text)

abbrev pub value_by : (List ℕ → Option (List ℕ)) → Source → Option (List ℕ)
value_by look_up (Known value) = Some value
value_by look_up (Needs text) = text_by look_up text

-- the value of a name by fewer than so many texts of the rule, each in another
unfoldable pub value_within : ℕ → EdgeEnvValue → List ℕ → Option (List ℕ)
value_within zero edge name = None
value_within (suc n) edge name = value_by (value_within n edge) (source edge name)

-- The value of a name at an edge. A name that is not expanded by as many texts in one another as the rule has needs
-- itself, and has none.
abbrev pub value_at : EdgeEnvValue → List ℕ → Option (List ℕ)
value_at edge name = value_within (length edge.rule + 2) edge name

-- the values of the variables that are expanded for an edge, and how many bytes were made of them
pub record EndValues : Type 0 where
  pub command : List ℕ
  pub depfile : List ℕ
  pub deps : List ℕ
  pub generator : List ℕ
  pub restat : List ℕ
  pub rspfile : List ℕ
  pub rspfile_content : List ℕ
  pub pool : List ℕ
  pub made : ℕ

-- the variables that an edge needs: it is refused where one of them has no value, or one that is too large
abbrev pub needed : List (List ℕ)
needed =
    codes "command" ∷ codes "depfile" ∷ codes "deps" ∷ codes "generator" ∷ codes "restat" ∷ codes "rspfile_content"
    ∷ codes "pool" ∷ []

abbrev pub or_empty : Option (List ℕ) → List ℕ
or_empty None = []
or_empty (Some value) = value

-- the path of a response file, for which no edge is refused: it is empty where `rspfile` has no value, or one that is
-- too large
abbrev pub response_path : Option (List ℕ) → List ℕ
response_path None = []
response_path (Some value) = if is_too_large value then [] else value

-- the bytes that are made of that path: of one that is too large no more than a value may have
abbrev pub response_made : Option (List ℕ) → ℕ
response_made None = 0
response_made (Some value) = if is_too_large value then MAX_VALUE_BYTES else length value

-- the bytes that are made of the values that an edge needs, and of the path of its response file
abbrev pub made_at_end : EdgeEnvValue → ℕ
made_at_end edge =
    sum_by (λ name. length (or_empty (value_at edge name))) needed + response_made (value_at edge (codes "rspfile"))

-- an edge, with its rule, among all scopes
abbrev pub at_end : List ScopeValue → declarations.DeclaredEdgeValue → RuleValue → EdgeEnvValue
at_end scopes edge rule = record { ins = edge.paths.ins; outs = edge.paths.outs; block = edge.block; rule = rule; scopes = scopes; scope = edge.scope }

-- why an edge has no values: one that it needs needs itself, or, where none does, one is too large
abbrev pub fault_at_end : EdgeEnvValue → Option FaultKind
fault_at_end edge =
    if list_any (λ name. not (is_some (value_at edge name))) needed then Some VariableCycle
    else (if list_any (λ name. is_too_large (or_empty (value_at edge name))) needed then Some TooLarge else None)

abbrev pub values_at_end : EdgeEnvValue → EndValues
values_at_end edge =
    record {
      command = or_empty (value_at edge (codes "command"));
      depfile = or_empty (value_at edge (codes "depfile"));
      deps = or_empty (value_at edge (codes "deps"));
      generator = or_empty (value_at edge (codes "generator"));
      restat = or_empty (value_at edge (codes "restat"));
      rspfile = response_path (value_at edge (codes "rspfile"));
      rspfile_content = or_empty (value_at edge (codes "rspfile_content"));
      pool = or_empty (value_at edge (codes "pool"));
      made = made_at_end edge;
    }
