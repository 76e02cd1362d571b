-- The lines that sentences speak of, and what sentences say.
use Rattle.std.specs.Prelude.{◌≡◌, ℕ, ◌+◌, ◌-◌, ◌^◌, ◌==◌, ◌&&◌, Bool, true, false, List, [], ◌∷◌, ◌++◌, length, take, drop, Option, Some, None, Result, Ok, Err, bytes_eq, codes, decimal, if◌then◌else◌}
use Rattle.std.specs.List.{last_or, slice_split, slice_get, starts_with}
use Rattle.std.specs.Option.{option_and_then}
use Rattle.rev_fields.specs.declared.faults.FaultKind.{FaultKind}
use Rattle.rev_fields.specs.Fields.{texts_of}
use Rattle.rev_fields.specs.Numbers.{number_below}
use Rattle.rev_sentences.specs.Meanings.{meaning_of}

-- a text, if there is one
abbrev pub text_or_none : Option (List ℕ) → List ℕ
text_or_none None = []
text_or_none (Some text) = text

-- the lines of a text, without their ends
abbrev pub lines_of : List ℕ → List (List ℕ)
lines_of text = slice_split (λ b. b == 10) text

-- the line of this number, which counts from 1, or the first for 0; nothing where there is none
abbrev pub line_at : List ℕ → ℕ → List ℕ
line_at text n = text_or_none (slice_get (lines_of text) (n - 1))

-- WHICH NUMBER A REPORT ENDS WITH
-- the number that a field writes, if it writes one
abbrev pub written : Result ℕ FaultKind → Option ℕ
written (Ok n) = Some n
written (Err fault) = None

abbrev pub number_in : Option (List ℕ) → Option ℕ
number_in None = None
number_in (Some field) = written (number_below (2 ^ 64) field)

abbrev pub number_at : List (List ℕ) → ℕ → Option ℕ
number_at fields place = number_in (slice_get fields place)

-- a number, where another stands beside it
abbrev pub told_by : Option ℕ → Option ℕ → Option ℕ
told_by None number = None
told_by (Some beside) number = number

-- the number of the fault of a line that goes on with these fields after its first
abbrev pub fault_number : List ℕ → List (List ℕ) → Option ℕ
fault_number what rest =
    if bytes_eq what (codes "graph") then number_at rest 0
    else (if bytes_eq what (codes "close") then told_by (number_at rest 1) (number_at rest 0)
    else (if bytes_eq what (codes "trace") then told_by (number_at rest 0) (number_at rest 1)
    else (if bytes_eq what (codes "script") then told_by (number_at rest 0) (number_at rest 1)
    else (if bytes_eq what (codes "manifest") then told_by (number_at rest 1) (number_at rest 2) else None))))

abbrev pub number_told : List (List ℕ) → Option ℕ
number_told [] = None
number_told (first ∷ []) = None
number_told (first ∷ what ∷ rest) = fault_number what rest

-- a line that begins as fault lines do
abbrev pub if_fault : List ℕ → Option (List ℕ)
if_fault line = if bytes_eq (take 6 line) (codes "fault ") then Some line else None

-- the last line of a report, where it has its end and begins as fault lines do
abbrev pub fault_line : List ℕ → Option (List ℕ)
fault_line report =
    if bytes_eq (drop (length report - 1) report) (10 ∷ [])
    then option_and_then if_fault (last_or None (lines_of (take (length report - 1) report))) else None

-- the number of the fault that a report ends with
abbrev pub report_number : List ℕ → Option ℕ
report_number report =
    option_and_then number_told (option_and_then texts_of (fault_line report))

-- WHAT A SENTENCE SAYS
-- what a number means, and where more of it stands
abbrev pub meaning_text : ℕ → List ℕ
meaning_text n = text_or_none (meaning_of n) ++ codes " (" ++ decimal n ++ codes ", docs/CODES.md)"

-- what a number means stands in a sentence
pub record Tells (sentence : List ℕ) (n : ℕ) : Type 0 where
  pub before : List ℕ
  pub after : List ℕ
  pub is : sentence ≡ before ++ meaning_text n ++ after

-- something was added to a text
pub record Grows (old new : List ℕ) : Type 0 where
  pub more : List ℕ
  pub is : new ≡ old ++ more
