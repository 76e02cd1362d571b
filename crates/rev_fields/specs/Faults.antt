-- The faults of lines, and the first fault of a text.
use Rattle.std.specs.Prelude.{◌≡◌, ℕ, ◌+◌, ◌<◌, List, [], ◌∷◌, Option, Some, None, Result, Ok, Err}
use Rattle.std.specs.Option.{option_map}
use Rattle.std.specs.List.{slice_get, filter_map, range_with_len}
use Rattle.rev_paths.specs.declared.fault.PathFault.{PathFault}
use Rattle.rev_paths.specs.declared.fault.PathFault.TheVariants as path
use Rattle.rev_fields.specs.declared.faults.FaultKind.{FaultKind}
use Rattle.rev_fields.specs.declared.faults.FaultKind.TheVariants.{Syntax, Number, Lane, DoubleRecord, Header}
use Rattle.rev_fields.specs.declared.faults.TextFault.{TextFault}
use Rattle.rev_fields.specs.declared.faults.ReadFault.{ReadFault}
use Rattle.rev_fields.specs.declared.faults.ReadFault.TheVariants as text
use Rattle.rev_fields.specs.declared.faults.LineFault.{LineFault}
use Rattle.rev_fields.specs.declared.faults.LineFault.TheVariants.{Memory, Kind}

-- the number of a fault
abbrev pub code_of : FaultKind → ℕ
code_of Syntax = 100
code_of Number = 101
code_of Lane = 102
code_of DoubleRecord = 103
code_of Header = 104

-- a part of a line, and then what is made of it: the first fault of the two counts
infixl 10 ◌>>=◌
abbrev pub ◌>>=◌ : {A B : Type 0} → Result A FaultKind → (A → Result B FaultKind) → Result B FaultKind
Ok a >>= f = f a
Err fault >>= f = Err fault

-- what each of some parts says: the first fault among them counts
abbrev pub each_of : {A B : Type 0} → (A → Result B FaultKind) → List A → Result (List B) FaultKind
each_of said [] = Ok []
each_of said (part ∷ parts) = said part >>= λ b. each_of said parts >>= λ bs. Ok (b ∷ bs)

-- a fault at a place of a text, where places count from 0 and lines from 1
abbrev pub fault_in : ℕ → FaultKind → TextFault
fault_in place kind = record { kind = kind; line = place + 1 }

-- the first fault of a text of so many lines, from what is wrong at each place
abbrev pub first_fault : (ℕ → Option FaultKind) → ℕ → Option TextFault
first_fault wrong_at count =
    slice_get (filter_map (λ place. option_map (fault_in place) (wrong_at place)) (range_with_len 0 count)) 0

-- what is answered for a text, a line of which at this place is not read
abbrev pub read_fault : ℕ → LineFault → ReadFault
read_fault place Memory = text.Memory
read_fault place (Kind kind) = text.Numbered (fault_in place kind)

-- what is answered for a line whose path is refused
abbrev pub path_fault : PathFault → LineFault
path_fault path.Memory = Memory
path_fault path.EmptyPath = Kind Syntax
path_fault path.LongPath = Kind Syntax

-- what is read is what the line says, or memory ran out
abbrev pub Answers : {V T : Type 0} → Result V LineFault → (V → T) → Result T FaultKind → Type 0
Answers (Ok value) view said = said ≡ Ok (view value)
Answers (Err Memory) view said = Unit {0}
Answers (Err (Kind kind)) view said = said ≡ Err kind

-- some line of these is at fault, the first of them at a place where so many lines stand before the first of these
pub record IsFirstWrong (wrong_at : ℕ → Option FaultKind) (count before : ℕ) (fault : TextFault) : Type 0 where
  pub place : ℕ
  pub within : place < count
  pub earlier : (k : ℕ) → k < place → wrong_at k ≡ None
  pub kind : FaultKind
  pub wrong : wrong_at place ≡ Some kind
  pub is : fault ≡ fault_in (before + place) kind
