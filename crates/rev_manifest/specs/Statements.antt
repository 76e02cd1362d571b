-- What each statement adds to what stands above it, or its first fault. Its syntax is read already.
use Rattle.std.specs.Prelude.{ℕ, not, List, [], ◌∷◌, ◌++◌, length, Option, Some, None, is_some, Result, Ok, bytes_eq, codes, if◌then◌else◌}
use Rattle.rev_paths.specs.Mentions.{first_mentions}
use Rattle.rev_syntax.specs.Texts.{PieceValue}
use Rattle.rev_syntax.specs.Statements.{BindingValue, BuildLineValue, FormValue, RuleForm, BuildForm, PoolForm, DefaultForm, IncludeForm, SubninjaForm, VariableForm}
use Rattle.rev_scopes.specs.Scopes.{RuleValue, scope_at, empty_scope, variable_in, rule_in, with_variable, with_rule, with_scope, is_taken}
use Rattle.rev_scopes.specs.Expansion.{expanded, in_block, is_too_large}
use Rattle.rev_manifest.specs.declared.fault.FaultKind.{FaultKind}
use Rattle.rev_manifest.specs.declared.fault.FaultKind.TheVariants.{UnknownRule, DoubleRule, UnknownVariable, NoCommand, BadDepth, NoFile, Unsupported, TooLarge, DoublePool}
use Rattle.rev_manifest.specs.declared.fault.ManifestFault.{ManifestFault}
use Rattle.rev_manifest.specs.declared.fault.Place.{Place}
use Rattle.rev_manifest.specs.declared.inclusion.Inclusion.{Inclusion}
use Rattle.rev_manifest.specs.Answers.{and_then, refused, unless, unless_then}
use Rattle.rev_manifest.specs.Names.{without, name_of, names_of}
use Rattle.rev_manifest.specs.Files.{FileValue, file_of}
use Rattle.rev_manifest.specs.Pools.{pool_of, depth_of}
use Rattle.rev_manifest.specs.Blocks.{binds, are_rule_variables, are_depths, texts_of, last_text, values_of, has_large}
use Rattle.rev_manifest.specs.Declarations.{PathsValue, DeclaredEdgeValue, DeclarationsValue, more_defaults}

-- where variables are looked up at a statement: in its scope as it then stands
abbrev pub look_up : DeclarationsValue → ℕ → List ℕ → List ℕ
look_up above scope name = variable_in above.scopes scope name

-- why a rule is not declared
abbrev pub rule_fault : DeclarationsValue → ℕ → List ℕ → List BindingValue → Option FaultKind
rule_fault above scope name bindings =
    if binds (codes "dyndep") bindings then Some Unsupported
    else (if not (are_rule_variables bindings) then Some UnknownVariable
    else (if is_taken name (scope_at above.scopes scope) then Some DoubleRule
    else (if not (binds (codes "command") bindings) then Some NoCommand else None)))

-- `rule NAME`: the scope has one more rule
abbrev pub rule_declared : Place → ℕ → List ℕ → List BindingValue → DeclarationsValue
    → Result DeclarationsValue ManifestFault
rule_declared place scope name bindings above =
    unless_then place (rule_fault above scope name bindings)
    (Ok (record above { scopes = with_scope scope (with_rule name (texts_of bindings)) above.scopes }))

-- why a pool is not declared, before its depth is asked
abbrev pub pool_fault : DeclarationsValue → List ℕ → List BindingValue → Option FaultKind
pool_fault above name bindings =
    if binds (codes "dyndep") bindings then Some Unsupported
    else (if not (are_depths bindings) then Some UnknownVariable
    else (if is_some (pool_of name above.pools) then Some DoublePool else None))

-- a depth's value; one that is too large can still have leading zeros alone before a depth
abbrev pub depth_read : Place → List ℕ → Option ℕ → Result ℕ ManifestFault
depth_read place value None = refused place BadDepth
depth_read place value (Some depth) = if is_too_large value then refused place TooLarge else Ok depth

-- the depth of a pool, which needs one
abbrev pub depth_given : Place → (List ℕ → List ℕ) → Option (List PieceValue) → Result ℕ ManifestFault
depth_given place look_up None = refused place BadDepth
depth_given place look_up (Some text) = depth_read place (expanded look_up text) (depth_of (expanded look_up text))

-- `pool NAME`: one more pool, known everywhere
abbrev pub pool_declared : Place → ℕ → List ℕ → List BindingValue → DeclarationsValue
    → Result DeclarationsValue ManifestFault
pool_declared place scope name bindings above =
    unless_then place (pool_fault above name bindings)
    (and_then (depth_given place (look_up above scope) (last_text bindings))
    (λ depth. Ok (record above { pools = above.pools ++ (name, depth) ∷ [] })))

-- a value that is not too large
abbrev pub value_limited : Place → List ℕ → Result (List ℕ) ManifestFault
value_limited place value = unless place (if is_too_large value then Some TooLarge else None) value

-- `NAME = value`: the scope has that value for the name
abbrev pub variable_bound : Place → ℕ → BindingValue → DeclarationsValue → Result DeclarationsValue ManifestFault
variable_bound place scope binding above =
    unless_then place (if bytes_eq binding.name (codes "dyndep") then Some Unsupported else None)
    (and_then (value_limited place (expanded (look_up above scope) binding.value)) (λ value.
    Ok (record above { scopes = with_scope scope (with_variable binding.name value) above.scopes })))

-- `default PATHS`
abbrev pub defaults_named : Place → ℕ → List (List PieceValue) → DeclarationsValue
    → Result DeclarationsValue ManifestFault
defaults_named place scope paths above =
    and_then (names_of place (look_up above scope) paths)
    (λ names. Ok (record above { defaults = Some (more_defaults above.defaults names) }))

abbrev pub rule_found : Place → Option RuleValue → Result (Option RuleValue) ManifestFault
rule_found place None = refused place UnknownRule
rule_found place (Some rule) = Ok (Some rule)

-- the rule of a build line: one that stands in the scopes above the line, or `phony`, which has no text
abbrev pub rule_of : Place → DeclarationsValue → ℕ → List ℕ → Result (Option RuleValue) ManifestFault
rule_of place above scope name =
    if bytes_eq name (codes "phony") then Ok None else rule_found place (rule_in above.scopes scope name)

-- The paths of a build line, or the fault of the leftmost that has one. Of the outputs each counts once, at its first
-- place.
abbrev pub paths_of : Place → (List ℕ → List ℕ) → BuildLineValue → Result PathsValue ManifestFault
paths_of place look_up build =
    and_then (names_of place look_up build.outs)
    (λ outs. and_then (names_of place look_up build.implicit_outs) (λ implicit_outs.
    and_then (names_of place look_up build.ins) (λ ins. and_then (names_of place look_up build.implicit) (λ implicit.
    and_then (names_of place look_up build.order_only) (λ order_only. and_then (names_of place look_up build.validations) (λ validations. Ok (record {
      outs = first_mentions outs;
      implicit_outs = without outs (first_mentions implicit_outs);
      ins = ins;
      implicit = implicit;
      order_only = order_only;
      validations = validations;
    })))))))

-- why an edge is not added for its block
abbrev pub block_fault : List (List ℕ × List ℕ) → Option FaultKind
block_fault block = if has_large block then Some TooLarge else None

-- An edge: its paths are looked up in its block and then in the scopes. A value of the block that is too large is a
-- fault after those of the paths.
abbrev pub edge_of : Place → DeclarationsValue → ℕ → BuildLineValue → List (List ℕ × List ℕ) → Option RuleValue
    → Result DeclaredEdgeValue ManifestFault
edge_of place above scope build block rule =
    and_then (paths_of place (in_block block (look_up above scope)) build) (λ paths.
    unless_then place (block_fault block)
    (Ok (record { rule = rule; block = block; scope = scope; paths = paths; place = place })))

-- why a block is refused
abbrev pub dyndep_fault : List BindingValue → Option FaultKind
dyndep_fault bindings = if binds (codes "dyndep") bindings then Some Unsupported else None

-- `build PATHS: NAME PATHS`: one more edge
abbrev pub edge_added : Place → ℕ → BuildLineValue → List BindingValue → DeclarationsValue
    → Result DeclarationsValue ManifestFault
edge_added place scope build bindings above =
    unless_then place (dyndep_fault bindings)
    (and_then (rule_of place above scope build.rule)
    (λ rule. and_then (edge_of place above scope build (values_of (look_up above scope) bindings) rule) (λ edge.
    Ok (record above { edges = above.edges ++ edge ∷ [] }))))

abbrev pub file_found : Place → Option ℕ → Result ℕ ManifestFault
file_found place None = refused place NoFile
file_found place (Some file) = Ok file

-- the file that a path names
abbrev pub file_named : Place → List FileValue → (List ℕ → List ℕ) → List PieceValue → Result ℕ ManifestFault
file_named place files look_up text =
    and_then (name_of place (expanded look_up text)) (λ name. file_found place (file_of name files))

-- what stands above what follows a statement, and the file that it reads before
pub record Step : Type 0 where
  pub above : DeclarationsValue
  pub inclusion : Option Inclusion

abbrev pub alone : Result DeclarationsValue ManifestFault → Result Step ManifestFault
alone above = and_then above (λ above'. Ok (record { above = above'; inclusion = None }))

-- `include PATH`: the file is read in the same scope
abbrev pub file_included : List FileValue → Place → ℕ → List PieceValue → DeclarationsValue → Result Step ManifestFault
file_included files place scope path above =
    and_then (file_named place files (look_up above scope) path)
    (λ file. Ok (record { above = above; inclusion = Some (record { file = file; scope = scope; place = place }) }))

-- `subninja PATH`: the file is read in a new scope, whose parent is this one
abbrev pub file_nested : List FileValue → Place → ℕ → List PieceValue → DeclarationsValue → Result Step ManifestFault
file_nested files place scope path above =
    and_then (file_named place files (look_up above scope) path) (λ file. Ok (record {
      above = record above { scopes = above.scopes ++ empty_scope (Some scope) ∷ [] };
      inclusion = Some (record { file = file; scope = length above.scopes; place = place });
    }))

-- what a statement adds
abbrev pub with_form : List FileValue → Place → ℕ → FormValue → DeclarationsValue → Result Step ManifestFault
with_form files place scope (RuleForm name bindings) above = alone (rule_declared place scope name bindings above)
with_form files place scope (BuildForm build bindings) above = alone (edge_added place scope build bindings above)
with_form files place scope (PoolForm name bindings) above = alone (pool_declared place scope name bindings above)
with_form files place scope (DefaultForm paths) above = alone (defaults_named place scope paths above)
with_form files place scope (IncludeForm path) above = file_included files place scope path above
with_form files place scope (SubninjaForm path) above = file_nested files place scope path above
with_form files place scope (VariableForm binding) above = alone (variable_bound place scope binding above)
