-- The variables of rules.
use Rattle.std.specs.Prelude.{ℕ, Bool, true, false, List, [], ◌∷◌, Option, bytes_eq, codes}
use Rattle.std.specs.List.{find}
use Rattle.rev_scopes.specs.declared.rule_variable.RuleVariable.{RuleVariable}
use Rattle.rev_scopes.specs.declared.rule_variable.RuleVariable.TheVariants.{Command, Depfile, Deps, MsvcDepsPrefix, Description, Generator, Restat, Rspfile, RspfileContent, Pool}

-- how a rule variable is written
abbrev pub name_of : RuleVariable → List ℕ
name_of Command = codes "command"
name_of Depfile = codes "depfile"
name_of Deps = codes "deps"
name_of MsvcDepsPrefix = codes "msvc_deps_prefix"
name_of Description = codes "description"
name_of Generator = codes "generator"
name_of Restat = codes "restat"
name_of Rspfile = codes "rspfile"
name_of RspfileContent = codes "rspfile_content"
name_of Pool = codes "pool"

-- the variables that are expanded for each edge
abbrev pub is_needed : RuleVariable → Bool
is_needed Command = true
is_needed Depfile = true
is_needed Deps = true
is_needed MsvcDepsPrefix = false
is_needed Description = false
is_needed Generator = true
is_needed Restat = true
is_needed Rspfile = false
is_needed RspfileContent = true
is_needed Pool = true

-- all rule variables
abbrev pub rule_variables : List RuleVariable
rule_variables =
    Command ∷ Depfile ∷ Deps ∷ MsvcDepsPrefix ∷ Description ∷ Generator ∷ Restat ∷ Rspfile ∷ RspfileContent ∷ Pool ∷ []

-- the rule variable that is so written, if there is one
abbrev pub variable_named : List ℕ → Option RuleVariable
variable_named name = find (λ variable. bytes_eq name (name_of variable)) rule_variables
