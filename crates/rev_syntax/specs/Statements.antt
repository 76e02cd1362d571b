-- What statements say.
use Rattle.std.specs.Prelude.{ℕ, Bool, not, ◌&&◌, ◌||◌, ◌==◌, List, [], ◌∷◌, map, Result, Ok, bytes_eq, codes, if◌then◌else◌}
use Rattle.std.specs.List.{take_while}
use Rattle.rev_syntax.specs.declared.fault.SyntaxKind.TheVariants.{Syntax, Tab}
use Rattle.rev_syntax.specs.declared.fault.SyntaxFault.{SyntaxFault}
use Rattle.rev_syntax.specs.declared.paths.Mark.TheVariants.{Bar, TwoBars, BarAt}
use Rattle.rev_syntax.specs.Bytes.{is_in_name, after, without_spaces, is_empty, begins_with}
use Rattle.rev_syntax.specs.Lines.{LineValue}
use Rattle.rev_syntax.specs.Texts.{PieceValue}
use Rattle.rev_syntax.specs.Faults.{refused, and_then, finished, stuck, closed}
use Rattle.rev_syntax.specs.Paths.{text_of, path_of, list_of, list_after}

-- `NAME = value`
pub record BindingValue : Type 0 where
  pub name : List ℕ
  pub value : List PieceValue
  pub line : ℕ

-- the lists of a build line
pub record BuildLineValue : Type 0 where
  pub outs : List (List PieceValue)
  pub implicit_outs : List (List PieceValue)
  pub rule : List ℕ
  pub ins : List (List PieceValue)
  pub implicit : List (List PieceValue)
  pub order_only : List (List PieceValue)
  pub validations : List (List PieceValue)

-- what a statement says
pub data FormValue : Type 0 where
  RuleForm : List ℕ → List BindingValue → FormValue
  BuildForm : BuildLineValue → List BindingValue → FormValue
  PoolForm : List ℕ → List BindingValue → FormValue
  DefaultForm : List (List PieceValue) → FormValue
  IncludeForm : List PieceValue → FormValue
  SubninjaForm : List PieceValue → FormValue
  VariableForm : BindingValue → FormValue

-- a statement, by the number of its first line
pub record StatementValue : Type 0 where
  pub line : ℕ
  pub form : FormValue

-- the name that a text begins with, and what follows it and its spaces
abbrev pub name_of : List ℕ → List ℕ
name_of text = take_while is_in_name text

abbrev pub after_name : List ℕ → List ℕ
after_name text = without_spaces (after is_in_name text)

-- a value, to the line's end
abbrev pub value_of : LineValue → List ℕ → Result (List PieceValue) SyntaxFault
value_of line text = and_then (text_of line text) (finished line)

-- `= value`, after the name
abbrev pub bound : LineValue → List ℕ → List ℕ → Result BindingValue SyntaxFault
bound line name [] = stuck line []
bound line name (b ∷ bs) =
    if b == 61 then and_then (value_of line (without_spaces bs))
    (λ value. Ok (record { name = name; value = value; line = line.number })) else refused line Syntax

-- `NAME = value`
abbrev pub binding_of : LineValue → List ℕ → Result BindingValue SyntaxFault
binding_of line text = if is_empty (name_of text) then stuck line text else bound line (name_of text) (after_name text)

-- a name that the line ends with
abbrev pub last_name : LineValue → List ℕ → Result (List ℕ) SyntaxFault
last_name line text =
    if is_empty (name_of text) then stuck line text else and_then (closed line (after_name text)) (λ _. Ok (name_of text))

-- a path that the line ends with
abbrev pub last_path : LineValue → List ℕ → Result (List PieceValue) SyntaxFault
last_path line text = and_then (path_of line text) (λ path. and_then (closed line path.1) (λ _. Ok path.0))

-- one or more paths that the line ends with
abbrev pub last_paths : LineValue → List ℕ → Result (List (List PieceValue)) SyntaxFault
last_paths line text =
    and_then (list_of line text)
    (λ paths. if is_empty paths.0 then stuck line paths.1 else and_then (closed line paths.1) (λ _. Ok paths.0))

-- the outputs of a build line: explicit, implicit, and what follows the colon
pub record OutputsValue : Type 0 where
  pub outs : List (List PieceValue)
  pub implicit_outs : List (List PieceValue)
  pub rest : List ℕ

-- a colon, which stands behind one output or more
abbrev pub colon : LineValue → List (List PieceValue) → List (List PieceValue) → List ℕ
    → Result OutputsValue SyntaxFault
colon line outs implicit_outs [] = stuck line []
colon line outs implicit_outs (b ∷ bs) =
    if b == 58 && not (is_empty outs && is_empty implicit_outs)
    then Ok (record { outs = outs; implicit_outs = implicit_outs; rest = without_spaces bs })
    else refused line Syntax

-- `PATHS [| PATHS] :`
abbrev pub outputs_of : LineValue → List ℕ → Result OutputsValue SyntaxFault
outputs_of line text = and_then (list_of line text) (λ outs. and_then (list_after line Bar outs.1) (λ implicit_outs. colon line outs.0 implicit_outs.0 implicit_outs.1))

-- the inputs of a build line: explicit, implicit, order-only, and validations
pub record InputsValue : Type 0 where
  pub ins : List (List PieceValue)
  pub implicit : List (List PieceValue)
  pub order_only : List (List PieceValue)
  pub validations : List (List PieceValue)

-- where a bar alone is left behind inputs the line ends within `||` or `|@`, and more is needed
abbrev pub whole_mark : LineValue → List ℕ → Result (Unit {0}) SyntaxFault
whole_mark line text = if bytes_eq text (codes "|") then stuck line [] else Ok tt

-- `PATHS [| PATHS] [|| PATHS] [|@ PATHS]`, to the line's end
abbrev pub inputs_of : LineValue → List ℕ → Result InputsValue SyntaxFault
inputs_of line text =
    and_then (list_of line text)
    (λ ins. and_then (list_after line Bar ins.1)
    (λ implicit. and_then (list_after line TwoBars implicit.1) (λ order_only.
    and_then (whole_mark line order_only.1) (λ _.
    and_then (list_after line BarAt order_only.1) (λ validations.
    and_then (closed line validations.1)
    (λ _. Ok (record {
      ins = ins.0;
      implicit = implicit.0;
      order_only = order_only.0;
      validations = validations.0;
    })))))))

-- `NAME` and the inputs
abbrev pub rule_and_inputs : LineValue → OutputsValue → Result BuildLineValue SyntaxFault
rule_and_inputs line outputs =
    if is_empty (name_of outputs.rest) then stuck line outputs.rest
    else and_then (inputs_of line (after is_in_name outputs.rest)) (λ inputs. Ok (record {
      outs = outputs.outs;
      implicit_outs = outputs.implicit_outs;
      rule = name_of outputs.rest;
      ins = inputs.ins;
      implicit = inputs.implicit;
      order_only = inputs.order_only;
      validations = inputs.validations;
    }))

-- `PATHS [| PATHS] : NAME PATHS [| PATHS] [|| PATHS] [|@ PATHS]`
abbrev pub build_line_of : LineValue → List ℕ → Result BuildLineValue SyntaxFault
build_line_of line text = and_then (outputs_of line text) (rule_and_inputs line)

-- what the first line of a statement says; bindings may stand under the first three
pub data HeaderValue : Type 0 where
  RuleHeader : List ℕ → HeaderValue
  BuildHeader : BuildLineValue → HeaderValue
  PoolHeader : List ℕ → HeaderValue
  DefaultHeader : List (List PieceValue) → HeaderValue
  IncludeHeader : List PieceValue → HeaderValue
  SubninjaHeader : List PieceValue → HeaderValue
  VariableHeader : BindingValue → HeaderValue

-- the first name of a line that is not indented says which statement begins there
abbrev pub header_of : LineValue → Result HeaderValue SyntaxFault
header_of line =
    let keyword = name_of line.text in
    let rest = after_name line.text in
    if bytes_eq keyword (codes "rule") then and_then (last_name line rest) (λ name. Ok (RuleHeader name))
    else (if bytes_eq keyword (codes "build") then and_then (build_line_of line rest) (λ build. Ok (BuildHeader build))
    else (if bytes_eq keyword (codes "pool") then and_then (last_name line rest) (λ name. Ok (PoolHeader name))
    else (if bytes_eq keyword (codes "default") then and_then (last_paths line rest) (λ paths. Ok (DefaultHeader paths))
    else (if bytes_eq keyword (codes "include") then and_then (last_path line rest) (λ path. Ok (IncludeHeader path))
    else (if bytes_eq keyword (codes "subninja") then and_then (last_path line rest) (λ path. Ok (SubninjaHeader path))
    else and_then (binding_of line line.text) (λ binding. Ok (VariableHeader binding)))))))

-- a line that begins with a space or a tab is indented
abbrev pub is_indented : LineValue → Bool
is_indented line = begins_with 32 line.text || begins_with 9 line.text

-- the blanks at the front are spaces and a tab
abbrev pub has_tab : LineValue → Bool
has_tab line = begins_with 9 (without_spaces line.text)

-- an indented line where none may stand
abbrev pub misplaced : {A : Type 0} → LineValue → Result A SyntaxFault
misplaced line = refused line (if has_tab line then Tab else Syntax)

-- an indented line with a binding
abbrev pub indented_binding : LineValue → Result BindingValue SyntaxFault
indented_binding line = if has_tab line then refused line Tab else binding_of line (without_spaces line.text)

-- the bindings of these lines, or the first fault in them
abbrev pub bindings_of : List LineValue → Result (List BindingValue) SyntaxFault
bindings_of [] = Ok []
bindings_of (line ∷ lines) =
    and_then (indented_binding line) (λ binding. and_then (bindings_of lines) (λ bindings. Ok (binding ∷ bindings)))

-- no indented line may stand here
abbrev pub alone : List LineValue → FormValue → Result FormValue SyntaxFault
alone [] form = Ok form
alone (line ∷ lines) form = misplaced line

-- a first line with the indented lines under it
abbrev pub with_block : List LineValue → HeaderValue → Result FormValue SyntaxFault
with_block block (RuleHeader name) = and_then (bindings_of block) (λ bindings. Ok (RuleForm name bindings))
with_block block (BuildHeader build) = and_then (bindings_of block) (λ bindings. Ok (BuildForm build bindings))
with_block block (PoolHeader name) = and_then (bindings_of block) (λ bindings. Ok (PoolForm name bindings))
with_block block (DefaultHeader paths) = alone block (DefaultForm paths)
with_block block (IncludeHeader path) = alone block (IncludeForm path)
with_block block (SubninjaHeader path) = alone block (SubninjaForm path)
with_block block (VariableHeader binding) = alone block (VariableForm binding)

-- a line with the indented lines under it
pub record Group : Type 0 where
  pub head : LineValue
  pub block : List LineValue

abbrev pub form_of : Group → Result FormValue SyntaxFault
form_of group =
    if is_indented group.head then misplaced group.head else and_then (header_of group.head) (with_block group.block)

-- what a group says, or its first fault: its lines in order, and in a line the leftmost
abbrev pub statement_of : Group → Result StatementValue SyntaxFault
statement_of group = and_then (form_of group) (λ form. Ok (record { line = group.head.number; form = form }))

-- the groups that begin with a line that is not indented
abbrev pub later_groups : List LineValue → List Group
later_groups [] = []
later_groups (line ∷ lines) =
    if is_indented line then later_groups lines else record { head = line; block = take_while is_indented lines } ∷ later_groups lines

-- the groups of lines: an indented line belongs to the line above it that is not indented, and is one by itself where
-- there is none
abbrev pub groups_of : List LineValue → List Group
groups_of [] = []
groups_of (line ∷ lines) = record { head = line; block = take_while is_indented lines } ∷ later_groups lines

-- the statements of lines, in their order, and in the place of each that is none its first fault
abbrev pub statements_of : List LineValue → List (Result StatementValue SyntaxFault)
statements_of lines = map statement_of (groups_of lines)
