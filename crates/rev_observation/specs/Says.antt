-- Which texts say which observations, and where a text that says none first goes wrong.
use Rattle.std.specs.Prelude.{◌≡◌, ◌≢◌, ℕ, ◌+◌, ◌-◌, codes, length, slice_get, take, List, [], ◌∷◌, ◌++◌, Option, Some, None, Ok, Err}
use Rattle.rev_fields.specs.Lines.{lines_of}
use Rattle.rev_observed.specs.declared.faults.Fault.{Fault}
use Rattle.rev_observed.specs.declared.faults.FaultKind.{FaultKind}
use Rattle.rev_observed.specs.declared.faults.FaultKind.TheVariants.{Header, Syntax}
use Rattle.rev_observed.specs.Faults.{fault_at}
use Rattle.rev_observation.specs.declared.head.Observer.{Observer}
use Rattle.rev_observation.specs.Ends.{is_complete}
use Rattle.rev_observation.specs.Lines.{by_line, line_added}
use Rattle.rev_observation.specs.Observations.{ObservationValue, nothing_by, settled}

-- the lines of a text, each ended by LF: bytes that follow the last LF are not read
abbrev pub statements_of : List ℕ → List (List ℕ)
statements_of text = take (length (lines_of text) - 1) (lines_of text)

-- the first line
abbrev pub first_line : List ℕ
first_line = codes "rebug-observed 2"

-- Behind what is said, lines say more: each adds to what those before it say.
pub data Says : ObservationValue → List (List ℕ) → ObservationValue → Type 0 where
  NoLine : {o : ObservationValue} → Says o [] o
  OneLine : {o p q : ObservationValue} {line : List ℕ} {lines : List (List ℕ)}
      → line_added o line ≡ Ok p → Says p lines q → Says o (line ∷ lines) q

-- One of the lines behind the first two adds nothing to what those before it say, which have no fault.
pub record IsWrongAmong (o : ObservationValue) (lines : List (List ℕ)) (fault : Fault) : Type 0 where
  pub before : List (List ℕ)
  pub line : List ℕ
  pub after : List (List ℕ)
  pub whole : lines ≡ before ++ line ∷ after
  pub said : ObservationValue
  pub says : Says o before said
  pub kind : FaultKind
  pub wrong : line_added said line ≡ Err kind
  pub is : fault ≡ fault_at (length before + 2) kind

-- What lines say, before it is known whether they are whole: the first names the format, the second what observed, and
-- the others say entries and blocks.
pub record SaidBy (lines : List (List ℕ)) (o : ObservationValue) : Type 0 where
  pub second : List ℕ
  pub rest : List (List ℕ)
  pub by : Observer
  pub whole : lines ≡ first_line ∷ second ∷ rest
  pub observer : by_line second ≡ Ok by
  pub says : Says (nothing_by by) rest o

-- Lines say an observation. It is complete where the last line is the one that has to stand behind the others.
pub record LinesSay (lines : List (List ℕ)) (o : ObservationValue) : Type 0 where
  pub said : ObservationValue
  pub says : SaidBy lines said
  pub settles : o ≡ settled said (is_complete said lines)

-- What is wrong behind lines that begin an observation, with the line there, or since there is none: it does not name
-- the format, or not what observed, or it adds nothing to what is said.
pub data IsWrongBehind : List (List ℕ) → Option (List ℕ) → FaultKind → Type 0 where
  NoHeader : {next : Option (List ℕ)} → next ≢ Some first_line → IsWrongBehind [] next Header
  NoObserver : IsWrongBehind (first_line ∷ []) None Syntax
  WrongObserver : {line : List ℕ} {kind : FaultKind}
      → by_line line ≡ Err kind → IsWrongBehind (first_line ∷ []) (Some line) kind
  WrongLine : {second line : List ℕ} {by : Observer} {lines : List (List ℕ)} {kind : FaultKind} (o : ObservationValue)
      → by_line second ≡ Ok by → Says (nothing_by by) lines o → line_added o line ≡ Err kind
      → IsWrongBehind (first_line ∷ second ∷ lines) (Some line) kind

-- The first fault of lines: those before its line begin an observation, and it is wrong behind them.
pub record IsFirstFault (lines : List (List ℕ)) (fault : Fault) : Type 0 where
  pub before : List (List ℕ)
  pub rest : List (List ℕ)
  pub whole : lines ≡ before ++ rest
  pub number : fault.line ≡ length before + 1
  pub wrong : IsWrongBehind before (slice_get rest 0) fault.kind
