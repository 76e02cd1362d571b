-- Lines read byte by byte.
use Rattle.std.proofs.Common.{◌≡◌, ℕ, ◌==◌, Bool, true, false, ◌&&◌, List, [], ◌∷◌, ◌++◌, Option, Some, None, Result, Ok, Err, bytes_eq, codes, refl, if◌then◌else◌}
use Rattle.rev_syntax.specs.declared.fault.SyntaxKind.{SyntaxKind}
use Rattle.rev_syntax.specs.declared.fault.SyntaxKind.TheVariants.{Syntax, BadEscape}
use Rattle.rev_syntax.specs.Bytes.{is_in_name, is_empty}
use Rattle.rev_syntax.specs.Faults.{end_kind}
use Rattle.rev_syntax.proofs.TextSteps.{Escape, Outside, Dollar, Brace, Named, estep}

-- what was read of a line, outside of escapes
pub data Part : Type 0 where
  -- spaces before a binding under a line, and whether there is one; its name; spaces behind it; spaces behind the `=`; its value
  Indent : Bool → Part
  BoundName : Part
  BeforeEquals : Part
  BeforeValue : Part
  Value : Part
  -- the first name of a line
  Word : List ℕ → Part
  -- spaces before a name that the line ends with; that name; spaces behind it or behind a path
  BeforeName : Part
  LastName : Part
  AfterLast : Part
  -- spaces before a path that the line ends with; that path
  BeforePath : Part
  LastPath : Part
  -- lists of paths, and whether one has a path; a bar behind the outputs
  Paths : Bool → Part
  Outs : Bool → Part
  OutBar : Bool → Part
  ImplicitOuts : Bool → Part
  -- spaces before the rule; the rule
  BeforeRule : Part
  InRule : Part
  -- the inputs, and bars behind them
  Ins : Part
  InBar : Part
  Implicit : Part
  NextBar : Part
  Order : Part
  LastBar : Part
  Validations : Part

-- a part and its escape, or the fault that stands there
pub data State : Type 0 where
  At : Part → Escape → State
  Dead : SyntaxKind → State

abbrev pub here : Part → State
here part = At part Outside

abbrev pub lost : State
lost = Dead Syntax

-- a byte of a text
abbrev pub lift : Part → Result Escape SyntaxKind → State
lift part (Ok e) = At part e
lift part (Err kind) = Dead kind

abbrev pub in_text : Part → ℕ → State
in_text part b = lift part (estep Outside b)

-- a byte in a list of paths, with what a colon and a bar lead to
abbrev pub in_list : State → State → Part → Part → ℕ → State
in_list colon bar again more b =
    if b == 32 then here again else (if b == 58 then colon else (if b == 124 then bar else in_text more b))

abbrev pub to_rule : Bool → State
to_rule some = if some then here BeforeRule else lost

abbrev pub end_word : List ℕ → ℕ → State
end_word word b =
    if is_empty word then lost else (if bytes_eq word (codes "rule") then (if b == 32 then here BeforeName else lost)
    else (if bytes_eq word (codes "build") then in_list lost (here (OutBar false)) (Outs false) (Outs true) b
    else (if bytes_eq word (codes "pool") then (if b == 32 then here BeforeName else lost)
    else (if bytes_eq word (codes "default") then in_list lost lost (Paths false) (Paths true) b
    else (if bytes_eq word (codes "include") then in_list lost lost BeforePath LastPath b
    else (if bytes_eq word (codes "subninja") then in_list lost lost BeforePath LastPath b
    else (if b == 32 then here BeforeEquals else (if b == 61 then here BeforeValue else lost))))))))

-- a byte outside of escapes
abbrev pub outside : Part → ℕ → State
outside (Indent some) b = if b == 32 then here (Indent true) else (if some && is_in_name b then here BoundName else lost)
outside BoundName b =
    if is_in_name b then here BoundName else (if b == 32 then here BeforeEquals else (if b == 61 then here BeforeValue else lost))
outside BeforeEquals b = if b == 32 then here BeforeEquals else (if b == 61 then here BeforeValue else lost)
outside BeforeValue b = if b == 32 then here BeforeValue else in_text Value b
outside Value b = in_text Value b
outside (Word word) b = if is_in_name b then here (Word (word ++ b ∷ [])) else end_word word b
outside BeforeName b = if b == 32 then here BeforeName else (if is_in_name b then here LastName else lost)
outside LastName b = if is_in_name b then here LastName else (if b == 32 then here AfterLast else lost)
outside AfterLast b = if b == 32 then here AfterLast else lost
outside BeforePath b = in_list lost lost BeforePath LastPath b
outside LastPath b = in_list lost lost AfterLast LastPath b
outside (Paths some) b = in_list lost lost (Paths some) (Paths true) b
outside (Outs some) b = in_list (to_rule some) (here (OutBar some)) (Outs some) (Outs true) b
outside (OutBar some) b = if b == 64 then lost else in_list (to_rule some) lost (ImplicitOuts some) (ImplicitOuts true) b
outside (ImplicitOuts some) b = in_list (to_rule some) lost (ImplicitOuts some) (ImplicitOuts true) b
outside BeforeRule b = if b == 32 then here BeforeRule else (if is_in_name b then here InRule else lost)
outside InRule b = if is_in_name b then here InRule else in_list lost (here InBar) Ins Ins b
outside Ins b = in_list lost (here InBar) Ins Ins b
outside InBar b = if b == 64 then here Validations else in_list lost (here Order) Implicit Implicit b
outside Implicit b = in_list lost (here NextBar) Implicit Implicit b
outside NextBar b = if b == 64 then here Validations else (if b == 124 then here Order else lost)
outside Order b = in_list lost (here LastBar) Order Order b
outside LastBar b = if b == 64 then here Validations else lost
outside Validations b = in_list lost lost Validations Validations b

abbrev pub step : State → ℕ → State
step (Dead kind) b = Dead kind
step (At part Outside) b = outside part b
step (At part Dollar) b = lift part (estep Dollar b)
step (At part Brace) b = lift part (estep Brace b)
step (At part Named) b = lift part (estep Named b)

abbrev pub run : State → List ℕ → State
run s [] = s
run s (b ∷ bs) = run (step s b) bs

-- whether a line may end there
abbrev pub may_end : Part → Bool
may_end (Indent some) = false
may_end BoundName = false
may_end BeforeEquals = false
may_end BeforeValue = true
may_end Value = true
may_end (Word word) = false
may_end BeforeName = false
may_end LastName = true
may_end AfterLast = true
may_end BeforePath = false
may_end LastPath = true
may_end (Paths some) = some
may_end (Outs some) = false
may_end (OutBar some) = false
may_end (ImplicitOuts some) = false
may_end BeforeRule = false
may_end InRule = true
may_end Ins = true
may_end InBar = true
may_end Implicit = true
may_end NextBar = false
may_end Order = true
may_end LastBar = false
may_end Validations = true

-- what a line is that ends there, or that a `$` alone follows at the end of the file
abbrev pub verdict : Bool → State → Option SyntaxKind
verdict ended (Dead kind) = Some kind
verdict ended (At part Outside) = if may_end part then (if ended then None else Some BadEscape) else Some (end_kind ended)
verdict ended (At part Dollar) = Some BadEscape
verdict ended (At part Brace) = Some BadEscape
verdict ended (At part Named) = Some BadEscape

pub run-append : (s : State) (xs ys : List ℕ) → run s (xs ++ ys) ≡ run (run s xs) ys
run-append s [] ys = refl
run-append s (x ∷ xs) ys = run-append (step s x) xs ys

pub run-dead : (kind : SyntaxKind) (xs : List ℕ) → run (Dead kind) xs ≡ Dead kind
run-dead kind [] = refl
run-dead kind (x ∷ xs) = run-dead kind xs
