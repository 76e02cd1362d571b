-- How many bytes values make, and how many may be made.
use Rattle.std.specs.Prelude.{ℕ, ◌+◌, ◌-◌, Bool, false, List, [], ◌∷◌, length, Option, Some, None, Result, nat_lt, if◌then◌else◌}
use Rattle.rev_syntax.specs.Texts.{PieceValue, Byte, Variable}
use Rattle.rev_syntax.specs.Statements.{BindingValue, FormValue, RuleForm, BuildForm, PoolForm, DefaultForm, IncludeForm, SubninjaForm, VariableForm}
use Rattle.rev_scopes.specs.Expansion.{expanded}
use Rattle.rev_manifest.specs.declared.fault.FaultKind.TheVariants.{TooLarge}
use Rattle.rev_manifest.specs.declared.fault.ManifestFault.{ManifestFault}
use Rattle.rev_manifest.specs.declared.fault.Place.{Place}
use Rattle.rev_manifest.specs.Answers.{refused}
use Rattle.rev_manifest.specs.Names.{is_empty}

-- whether a text is one variable and nothing else: its value shares the bytes of that variable's
abbrev pub is_variable : List PieceValue → Bool
is_variable [] = false
is_variable (Byte b ∷ text) = false
is_variable (Variable name ∷ text) = is_empty text

-- the bytes that the value of a text makes: none where it shares those of another
abbrev pub bytes_made : (List ℕ → List ℕ) → List PieceValue → ℕ
bytes_made look_up text = if is_variable text then 0 else length (expanded look_up text)

-- the bytes that bindings make
abbrev pub all_made : (List ℕ → List ℕ) → List BindingValue → ℕ
all_made look_up [] = 0
all_made look_up (binding ∷ bindings) = bytes_made look_up binding.value + all_made look_up bindings

-- The bytes that a statement makes: those of the values that it binds. The texts of a rule are expanded at the end, and
-- a path has a limit of its own.
abbrev pub made_by : (List ℕ → List ℕ) → FormValue → ℕ
made_by look_up (RuleForm name bindings) = 0
made_by look_up (BuildForm build bindings) = all_made look_up bindings
made_by look_up (PoolForm name bindings) = all_made look_up bindings
made_by look_up (DefaultForm paths) = 0
made_by look_up (IncludeForm path) = 0
made_by look_up (SubninjaForm path) = 0
made_by look_up (VariableForm binding) = bytes_made look_up binding.value

-- how many bytes may be made after so many, where that many may be made at all
abbrev pub left_of : ℕ → ℕ → Option ℕ
left_of room bytes = if nat_lt room bytes then None else Some (room - bytes)

-- an answer that goes on with what is left, where as many bytes may be made as are
abbrev pub with_left : {A : Type 0} → Place → Option ℕ → (ℕ → Result A ManifestFault) → Result A ManifestFault
with_left place None next = refused place TooLarge
with_left place (Some left) next = next left
