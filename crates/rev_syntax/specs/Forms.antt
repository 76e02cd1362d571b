-- How statements read: the table of forms, as a relation of bytes and values. Bytes of a line stand in the order in
-- which they are written out.
use Rattle.std.specs.Prelude.{◌≡◌, ℕ, suc, ◌==◌, ◌↔◌, Bool, true, false, not, ◌&&◌, ◌||◌, List, [], ◌∷◌, ◌++◌, bytes_eq, codes, Ok}
use Rattle.std.specs.List.{AllByRecursion}
use Rattle.rev_syntax.specs.declared.paths.Mark.{Mark}
use Rattle.rev_syntax.specs.declared.paths.Mark.TheVariants.{Bar, TwoBars, BarAt}
use Rattle.rev_syntax.specs.Bytes.{is_in_name, is_empty, begins_with}
use Rattle.rev_syntax.specs.Cutting.{spaces}
use Rattle.rev_syntax.specs.Grammar.{ReadsAs, is_name}
use Rattle.rev_syntax.specs.Lines.{LineValue}
use Rattle.rev_syntax.specs.Lists.{IsPath, ListReads, ends_list}
use Rattle.rev_syntax.specs.Statements.{BindingValue, BuildLineValue, FormValue, RuleForm, BuildForm, PoolForm, DefaultForm, IncludeForm, SubninjaForm, VariableForm, StatementValue, InputsValue, HeaderValue, RuleHeader, BuildHeader, PoolHeader, DefaultHeader, IncludeHeader, SubninjaHeader, VariableHeader, Group, is_indented, statement_of}
use Rattle.rev_syntax.specs.Texts.{PieceValue}

-- where a name ends before this text: at the text's end, or at a byte that cannot be in it
abbrev pub stops_name : List ℕ → Bool
stops_name [] = true
stops_name (b ∷ bs) = not (is_in_name b)

-- `NAME = value`, in the line of that number: spaces may stand round the `=`, and the value goes to the line's end
pub data IsBinding : ℕ → List ℕ → BindingValue → Type 0 where
  Binding : {number : ℕ} (name : List ℕ) (k l : ℕ) {raw : List ℕ} {value : List PieceValue}
      → is_name is_in_name name ≡ true → begins_with 32 raw ≡ false → ReadsAs raw value
      → IsBinding number (name ++ (spaces k ++ 61 ∷ (spaces l ++ raw)))
      (record { name = name; value = value; line = number })

-- how a mark is written
abbrev pub mark_bytes : Mark → List ℕ
mark_bytes Bar = codes "|"
mark_bytes TwoBars = codes "||"
mark_bytes BarAt = codes "|@"

-- whether a mark stands first in a text: of `|`, `||` and `|@` the longest does
abbrev pub stands : Mark → List ℕ → Bool
stands mark [] = false
stands Bar (b ∷ bs) = b == 124 && not (begins_with 124 bs || begins_with 64 bs)
stands TwoBars (b ∷ bs) = b == 124 && begins_with 124 bs
stands BarAt (b ∷ bs) = b == 124 && begins_with 64 bs

-- a mark with the list behind it, or no list where the mark does not stand; and what follows
pub data Behind : Mark → List ℕ → List (List PieceValue) → List ℕ → Type 0 where
  Absent : {mark : Mark} {text : List ℕ} → stands mark text ≡ false → Behind mark text [] text
  Present : (mark : Mark) {front rest : List ℕ} {paths : List (List PieceValue)}
      → stands mark (mark_bytes mark ++ (front ++ rest)) ≡ true → ListReads front paths → ends_list rest ≡ true
      → Behind mark (mark_bytes mark ++ (front ++ rest)) paths rest

-- `PATHS [| PATHS] [|| PATHS] [|@ PATHS]`, to the line's end
pub data AreInputs : List ℕ → InputsValue → Type 0 where
  Inputs : {front bar two_bars bar_at : List ℕ} {ins implicit order_only validations : List (List PieceValue)}
      → ListReads front ins → ends_list bar ≡ true → Behind Bar bar implicit two_bars
      → Behind TwoBars two_bars order_only bar_at → Behind BarAt bar_at validations []
      → AreInputs (front ++ bar)
      (record { ins = ins; implicit = implicit; order_only = order_only; validations = validations })

-- `PATHS [| PATHS] : NAME` and the inputs; there is an output
pub data IsBuildLine : List ℕ → BuildLineValue → Type 0 where
  BuildLine : {front bar : List ℕ} (k : ℕ) (rule : List ℕ) {text : List ℕ} {outs implicit_outs : List (List PieceValue)}
      {inputs : InputsValue}
      → ListReads front outs → ends_list bar ≡ true → Behind Bar bar implicit_outs (58 ∷ (spaces k ++ (rule ++ text)))
      → (is_empty outs && is_empty implicit_outs) ≡ false
      → is_name is_in_name rule ≡ true → stops_name text ≡ true → AreInputs text inputs
      → IsBuildLine (front ++ bar) (record {
        outs = outs;
        implicit_outs = implicit_outs;
        rule = rule;
        ins = inputs.ins;
        implicit = inputs.implicit;
        order_only = inputs.order_only;
        validations = inputs.validations;
      })

-- the words that begin other statements than bindings
abbrev pub is_keyword : List ℕ → Bool
is_keyword name =
    bytes_eq name (codes "rule") || (bytes_eq name (codes "build") || (bytes_eq name (codes "pool")
    || (bytes_eq name (codes "default") || (bytes_eq name (codes "include") || bytes_eq name (codes "subninja")))))

-- the first line of a statement, one rule for each form. What follows a keyword may not run together with it.
pub data IsHeader : ℕ → List ℕ → HeaderValue → Type 0 where
  RuleLine : {number : ℕ} (k : ℕ) (name : List ℕ) (l : ℕ) → is_name is_in_name name ≡ true
      → IsHeader number (codes "rule" ++ (spaces (suc k) ++ (name ++ spaces l))) (RuleHeader name)
  BuildHead : {number : ℕ} {text : List ℕ} {build : BuildLineValue} → stops_name text ≡ true → IsBuildLine text build
      → IsHeader number (codes "build" ++ text) (BuildHeader build)
  PoolLine : {number : ℕ} (k : ℕ) (name : List ℕ) (l : ℕ) → is_name is_in_name name ≡ true
      → IsHeader number (codes "pool" ++ (spaces (suc k) ++ (name ++ spaces l))) (PoolHeader name)
  DefaultLine : {number : ℕ} {text : List ℕ} {paths : List (List PieceValue)} → stops_name text ≡ true
      → is_empty paths ≡ false → ListReads text paths
      → IsHeader number (codes "default" ++ text) (DefaultHeader paths)
  IncludeLine : {number : ℕ} (k l : ℕ) {raw : List ℕ} {path : List PieceValue}
      → stops_name (spaces k ++ (raw ++ spaces l)) ≡ true → IsPath raw path
      → IsHeader number (codes "include" ++ (spaces k ++ (raw ++ spaces l))) (IncludeHeader path)
  SubninjaLine : {number : ℕ} (k l : ℕ) {raw : List ℕ} {path : List PieceValue}
      → stops_name (spaces k ++ (raw ++ spaces l)) ≡ true → IsPath raw path
      → IsHeader number (codes "subninja" ++ (spaces k ++ (raw ++ spaces l))) (SubninjaHeader path)
  VariableLine : {number : ℕ} {text : List ℕ} {binding : BindingValue} → is_keyword binding.name ≡ false
      → IsBinding number text binding
      → IsHeader number text (VariableHeader binding)

-- the lines under a first line: bindings behind one space or more
pub data IsBlock : List LineValue → List BindingValue → Type 0 where
  NoBindings : IsBlock [] []
  OneMore : {number : ℕ} (k : ℕ) {text : List ℕ} {lines : List LineValue} {binding : BindingValue}
      {bindings : List BindingValue}
      → IsBinding number text binding → IsBlock lines bindings
      → IsBlock (record { number = number; text = spaces (suc k) ++ text; ended = true } ∷ lines) (binding ∷ bindings)

-- under `rule`, `build` and `pool` stand bindings, under the others nothing
pub data IsForm : HeaderValue → List LineValue → FormValue → Type 0 where
  RuleBlock : {name : List ℕ} {block : List LineValue} {bindings : List BindingValue} → IsBlock block bindings
      → IsForm (RuleHeader name) block (RuleForm name bindings)
  BuildBlock : {build : BuildLineValue} {block : List LineValue} {bindings : List BindingValue} → IsBlock block bindings
      → IsForm (BuildHeader build) block (BuildForm build bindings)
  PoolBlock : {name : List ℕ} {block : List LineValue} {bindings : List BindingValue} → IsBlock block bindings
      → IsForm (PoolHeader name) block (PoolForm name bindings)
  DefaultAlone : {paths : List (List PieceValue)} → IsForm (DefaultHeader paths) [] (DefaultForm paths)
  IncludeAlone : {path : List PieceValue} → IsForm (IncludeHeader path) [] (IncludeForm path)
  SubninjaAlone : {path : List PieceValue} → IsForm (SubninjaHeader path) [] (SubninjaForm path)
  VariableAlone : {binding : BindingValue} → IsForm (VariableHeader binding) [] (VariableForm binding)

-- a line with those under it is a statement, which has the line's number
pub data IsStatement : Group → StatementValue → Type 0 where
  Statement : {number : ℕ} {text : List ℕ} {block : List LineValue} {header : HeaderValue} {form : FormValue}
      → IsHeader number text header → IsForm header block form
      → IsStatement (record { head = record { number = number; text = text; ended = true }; block = block }) (record { line = number; form = form })

-- the lines under a first line are indented
abbrev pub AreIndented : List LineValue → Type 0
AreIndented lines = AllByRecursion (λ line. is_indented line ≡ true) lines

-- A line with the indented lines under it is read as a statement exactly where they are one of the forms written out.
abbrev pub StatementsAreRead : Type 0
StatementsAreRead =
    (group : Group) (statement : StatementValue) → AreIndented group.block
    → (statement_of group ≡ Ok statement) ↔ IsStatement group statement
