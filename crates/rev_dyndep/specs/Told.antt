-- What a dyndep file says: the Ninja manual's "Dynamic Dependencies", version 1 of the format.
use Rattle.std.specs.Prelude.{ℕ, Bool, true, false, not, ◌&&◌, ◌||◌, ◌==◌, List, [], ◌∷◌, length, Option, Some, None, Result, Ok, Err, bytes_eq, codes, is_some, nat_lt, if◌then◌else◌}
use Rattle.rev_paths.specs.Canonical.{canonical}
use Rattle.rev_paths.specs.Paths.{place_of}
use Rattle.rev_paths.specs.declared.name.TheConstants.Name.{MAX_BYTES}
use Rattle.rev_scopes.specs.Expansion.{expanded}
use Rattle.rev_syntax.specs.Bytes.{is_empty}
use Rattle.rev_syntax.specs.Lines.{lines_of}
use Rattle.rev_syntax.specs.Statements.{BindingValue, BuildLineValue, FormValue, RuleForm, BuildForm, PoolForm, DefaultForm, IncludeForm, SubninjaForm, VariableForm, StatementValue, statements_of}
use Rattle.rev_syntax.specs.Texts.{PieceValue}
use Rattle.rev_syntax.specs.declared.fault.SyntaxFault.{SyntaxFault}
use Rattle.rev_dyndep.specs.declared.fault.DyndepKind.{DyndepKind}
use Rattle.rev_dyndep.specs.declared.fault.DyndepKind.TheVariants.{EmptyPath, LongPath, NoVersion, NotDyndep, OtherBinding}
use Rattle.rev_dyndep.specs.declared.fault.DyndepFault.{DyndepFault}
use Rattle.rev_dyndep.specs.Answers.{and_then, refused, of_syntax}

-- what a statement says: of which build statement, by an output of it; its implicit outputs and inputs; whether outputs
-- that the command leaves alone count as unchanged
pub record ToldValue : Type 0 where
  pub output : List ℕ
  pub outputs : List (List ℕ)
  pub inputs : List (List ℕ)
  pub restat : Bool
  pub line : ℕ

-- paths but for those of a set
abbrev pub without : List (List ℕ) → List (List ℕ) → List (List ℕ)
without set [] = []
without set (path ∷ paths) = if is_some (place_of path set) then without set paths else path ∷ without set paths

-- no variable has a value in a dyndep file
abbrev pub no_value : List ℕ → List ℕ
no_value name = []

-- the fault of a path: it is empty, or has more than 4,096 bytes
abbrev pub path_fault : List ℕ → Option DyndepKind
path_fault path = if is_empty path then Some EmptyPath else (if nat_lt MAX_BYTES (length path) then Some LongPath else None)

abbrev pub unless : ℕ → Option DyndepKind → List ℕ → Result (List ℕ) DyndepFault
unless line None path = Ok path
unless line (Some kind) path = refused line kind

-- the canonical name of a path
abbrev pub name_at : ℕ → List ℕ → Result (List ℕ) DyndepFault
name_at line path = unless line (path_fault path) (canonical path)

abbrev pub path_of : ℕ → List PieceValue → Result (List ℕ) DyndepFault
path_of line text = name_at line (expanded no_value text)

-- the canonical names of paths, or the fault of the leftmost that has one
abbrev pub paths_of : ℕ → List (List PieceValue) → Result (List (List ℕ)) DyndepFault
paths_of line [] = Ok []
paths_of line (text ∷ texts) =
    and_then (path_of line text) (λ name. and_then (paths_of line texts) (λ names. Ok (name ∷ names)))

-- `build OUTPUT [| OUTPUTS]: dyndep [| INPUTS]`
abbrev pub is_dyndep_line : BuildLineValue → Bool
is_dyndep_line build =
    length build.outs == 1 && bytes_eq build.rule (codes "dyndep") && is_empty build.ins && is_empty build.order_only && is_empty build.validations

-- below it nothing, or `restat = value`, which says it unless the value is empty
abbrev pub restat_of : List BindingValue → Result Bool DyndepFault
restat_of [] = Ok false
restat_of (binding ∷ []) =
    if bytes_eq binding.name (codes "restat") then Ok (not (is_empty (expanded no_value binding.value))) else refused binding.line OtherBinding
restat_of (binding ∷ second ∷ others) =
    if bytes_eq binding.name (codes "restat") then refused second.line OtherBinding else refused binding.line OtherBinding

-- the output before the bar
abbrev pub first_of : ℕ → List (List PieceValue) → Result (List ℕ) DyndepFault
first_of line [] = refused line NotDyndep
first_of line (text ∷ texts) = path_of line text

-- what a build line says with the bindings below it; the leftmost fault counts
abbrev pub told_by : ℕ → BuildLineValue → List BindingValue → Result ToldValue DyndepFault
told_by line build bindings =
    if not (is_dyndep_line build) then refused line NotDyndep
    else and_then (first_of line build.outs) (λ output. and_then (paths_of line build.implicit_outs)
    (λ outputs. and_then (paths_of line build.implicit) (λ inputs. and_then (restat_of bindings)
    (λ restat. Ok (record { output = output; outputs = outputs; inputs = inputs; restat = restat; line = line })))))

abbrev pub told_form : ℕ → FormValue → Result ToldValue DyndepFault
told_form line (RuleForm name bindings) = refused line NotDyndep
told_form line (BuildForm build bindings) = told_by line build bindings
told_form line (PoolForm name bindings) = refused line NotDyndep
told_form line (DefaultForm paths) = refused line NotDyndep
told_form line (IncludeForm path) = refused line NotDyndep
told_form line (SubninjaForm path) = refused line NotDyndep
told_form line (VariableForm binding) = refused line NotDyndep

-- what a statement says
abbrev pub told_of : StatementValue → Result ToldValue DyndepFault
told_of statement = told_form statement.line statement.form

-- what the statements behind the version say, or the first fault
abbrev pub all_told : List (Result StatementValue SyntaxFault) → Result (List ToldValue) DyndepFault
all_told [] = Ok []
all_told (Err fault ∷ others) = Err (of_syntax fault)
all_told (Ok statement ∷ others) =
    and_then (told_of statement) (λ told. and_then (all_told others) (λ more. Ok (told ∷ more)))

-- `ninja_dyndep_version = 1`
abbrev pub is_version : FormValue → Bool
is_version (RuleForm name bindings) = false
is_version (BuildForm build bindings) = false
is_version (PoolForm name bindings) = false
is_version (DefaultForm paths) = false
is_version (IncludeForm path) = false
is_version (SubninjaForm path) = false
is_version (VariableForm binding) =
    if bytes_eq binding.name (codes "ninja_dyndep_version") then bytes_eq (expanded no_value binding.value) (codes "1") || bytes_eq (expanded no_value binding.value) (codes "1.0") else false

-- the version stands first, and the others say something of build statements
abbrev pub told_behind : List (Result StatementValue SyntaxFault) → Result (List ToldValue) DyndepFault
told_behind [] = refused 1 NoVersion
told_behind (Err fault ∷ others) = Err (of_syntax fault)
told_behind (Ok statement ∷ others) = if is_version statement.form then all_told others else refused statement.line NoVersion

-- what a file says
abbrev pub said_by : List ℕ → Result (List ToldValue) DyndepFault
said_by content = told_behind (statements_of (lines_of content))
