-- Where lines go wrong: at the leftmost byte with which they can no longer go on. What stands before that byte is a
-- viable prefix, as parsing calls it: something can follow that makes a line of it.
use Rattle.std.specs.Prelude.{◌≡◌, ℕ, suc, ◌↔◌, Bool, true, false, List, [], ◌∷◌, ◌++◌, Err}
use Rattle.rev_syntax.specs.declared.fault.SyntaxFault.{SyntaxFault}
use Rattle.rev_syntax.specs.declared.fault.SyntaxKind.{SyntaxKind}
use Rattle.rev_syntax.specs.declared.fault.SyntaxKind.TheVariants.{Syntax, Tab, BadEscape}
use Rattle.rev_syntax.specs.Bytes.{is_in_name}
use Rattle.rev_syntax.specs.Cutting.{IsPaired, spaces}
use Rattle.rev_syntax.specs.Faults.{fault_at}
use Rattle.rev_syntax.specs.Forms.{IsBinding, IsHeader, IsBlock, AreIndented}
use Rattle.rev_syntax.specs.Grammar.{is_run}
use Rattle.rev_syntax.specs.Lines.{LineValue}
use Rattle.rev_syntax.specs.Statements.{BindingValue, HeaderValue, RuleHeader, BuildHeader, PoolHeader, DefaultHeader, IncludeHeader, SubninjaHeader, VariableHeader, Group, is_indented, statement_of}

-- with some bytes behind these a line reads
abbrev pub CanGoOn : (List ℕ → Type 0) → List ℕ → Type 0
CanGoOn Reads front = (tail : List ℕ) × Reads (front ++ tail)

-- the leftmost byte with which a line can no longer go on: what stands before it can, and with it it cannot
pub record IsLeftmost (Reads : List ℕ → Type 0) (front : List ℕ) (b : ℕ) : Type 0 where
  pub goes : CanGoOn Reads front
  pub stops : CanGoOn Reads (front ++ b ∷ []) → ⊥

-- the bytes end within an escape: a `$` that no `$` takes along, with nothing behind it, or a brace and what a name
-- begins with
pub data InEscape : List ℕ → Type 0 where
  Dollar : {front : List ℕ} → IsPaired front → InEscape (front ++ 36 ∷ [])
  Brace : {front : List ℕ} (name : List ℕ) → IsPaired front → is_run is_in_name name ≡ true
      → InEscape (front ++ 36 ∷ 123 ∷ name)

-- what it is that a line cannot go on behind these bytes: within an escape a bad escape
pub data IsKind : SyntaxKind → List ℕ → Type 0 where
  Escaping : {front : List ℕ} → InEscape front → IsKind BadEscape front
  Other : {front : List ℕ} → (InEscape front → ⊥) → IsKind Syntax front

-- The place of a line's fault, for lines that read as is said. The flag says whether the line ends; at the end of the
-- file it does not where a `$` alone stands behind these bytes.
pub data StopsAs (Reads : List ℕ → Type 0) : Bool → List ℕ → SyntaxKind → Type 0 where
  -- at a byte
  AtByte : {ended : Bool} (front : List ℕ) (b : ℕ) (rest : List ℕ) {kind : SyntaxKind} → IsLeftmost Reads front b
      → IsKind kind front
      → StopsAs Reads ended (front ++ b ∷ rest) kind
  -- all of the line can go on, and the line ends
  AtEnd : {text : List ℕ} {kind : SyntaxKind} → CanGoOn Reads text → (Reads text → ⊥) → IsKind kind text
      → StopsAs Reads true text kind
  -- all of it can go on, and a `$` alone stands behind it
  AtDollar : {text : List ℕ} → CanGoOn Reads text → StopsAs Reads false text BadEscape

-- the blanks that a line begins with are spaces and a tab
pub data HasTab : List ℕ → Type 0 where
  TabBehind : (k : ℕ) (rest : List ℕ) → HasTab (spaces k ++ 9 ∷ rest)

-- a binding behind one space or more
abbrev pub IsUnder : ℕ → List ℕ → Type 0
IsUnder number line =
    (k : ℕ) × (text : List ℕ) × (binding : BindingValue) × (spaces (suc k) ++ text ≡ line)
    × IsBinding number text binding

-- the fault of an indented line where bindings stand: a tab, wherever it goes wrong else, or the leftmost
pub data StopsUnder : LineValue → SyntaxKind → Type 0 where
  Tabbed : {line : LineValue} → HasTab line.text → StopsUnder line Tab
  Untabbed : {line : LineValue} {kind : SyntaxKind} → (HasTab line.text → ⊥)
      → StopsAs (IsUnder line.number) line.ended line.text kind
      → StopsUnder line kind

-- the first line of a statement, whatever it says
abbrev pub IsFirstLine : ℕ → List ℕ → Type 0
IsFirstLine number text = (header : HeaderValue) × IsHeader number text header

-- the fault of an indented line where none may stand
pub data IsMisplaced : LineValue → SyntaxKind → Type 0 where
  WithTab : {line : LineValue} → HasTab line.text → IsMisplaced line Tab
  WithoutTab : {line : LineValue} → (HasTab line.text → ⊥) → IsMisplaced line Syntax

-- bindings may stand under `rule`, `build` and `pool`
abbrev pub takes_bindings : HeaderValue → Bool
takes_bindings (RuleHeader name) = true
takes_bindings (BuildHeader build) = true
takes_bindings (PoolHeader name) = true
takes_bindings (DefaultHeader paths) = false
takes_bindings (IncludeHeader path) = false
takes_bindings (SubninjaHeader path) = false
takes_bindings (VariableHeader binding) = false

-- the first of a line and those under it that goes wrong, and its fault
pub data FirstWrong : Group → LineValue → SyntaxKind → Type 0 where
  -- an indented line with none above it
  NoneAbove : {head : LineValue} {block : List LineValue} {kind : SyntaxKind} → is_indented head ≡ true
      → IsMisplaced head kind
      → FirstWrong (record { head = head; block = block }) head kind
  InHead : {head : LineValue} {block : List LineValue} {kind : SyntaxKind} → is_indented head ≡ false
      → StopsAs (IsFirstLine head.number) head.ended head.text kind
      → FirstWrong (record { head = head; block = block }) head kind
  -- a line under one that reads, where those between are bindings
  InBlock : {number : ℕ} {text : List ℕ} {header : HeaderValue} (above : List LineValue) (line : LineValue)
      (below : List LineValue) {bindings : List BindingValue} {kind : SyntaxKind}
      → IsHeader number text header → takes_bindings header ≡ true → IsBlock above bindings → StopsUnder line kind
      → FirstWrong (record {
        head = record { number = number; text = text; ended = true };
        block = above ++ line ∷ below;
      }) line kind
  -- a line under one that takes none
  UnderNone : {number : ℕ} {text : List ℕ} {header : HeaderValue} (line : LineValue) (below : List LineValue)
      {kind : SyntaxKind}
      → IsHeader number text header → takes_bindings header ≡ false → IsMisplaced line kind
      → FirstWrong (record {
        head = record { number = number; text = text; ended = true };
        block = line ∷ below;
      }) line kind

-- a line with the indented lines under it has the fault of the first of them that goes wrong
abbrev pub StatementsStopThere : Type 0
StatementsStopThere =
    (group : Group) (fault : SyntaxFault) → AreIndented group.block
    → (statement_of group ≡ Err fault)
    ↔ ((line : LineValue) × (kind : SyntaxKind) × FirstWrong group line kind × (fault_at line kind ≡ fault))

-- a line has one such byte, and none where all of it can go on
pub record IsOnePlace (Reads : List ℕ → Type 0) : Type 0 where
  pub same : (front other : List ℕ) (b c : ℕ) (rest more : List ℕ) → IsLeftmost Reads front b
      → IsLeftmost Reads other c → front ++ b ∷ rest ≡ other ++ c ∷ more
      → front ≡ other
  pub none : (front : List ℕ) (b : ℕ) (rest : List ℕ) → IsLeftmost Reads front b → CanGoOn Reads (front ++ b ∷ rest) → ⊥

-- there is one place at which a first line stops, and one at which a line under it does
abbrev pub PlacesAreOne : Type 0
PlacesAreOne = (number : ℕ) → IsOnePlace (IsFirstLine number) × IsOnePlace (IsUnder number)
