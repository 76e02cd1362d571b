-- Scripts: a text of lines, each of which is a word or empty.
use Rattle.std.specs.Prelude.{ℕ, if◌then◌else◌, bytes_eq, codes, List, [], ◌∷◌, Option, Some, None, Result, Ok, Err, length}
use Rattle.std.specs.List.{slice_index_or}
use Rattle.rev_fields.specs.declared.faults.FaultKind.{FaultKind}
use Rattle.rev_fields.specs.declared.faults.FaultKind.TheVariants.{Syntax}
use Rattle.rev_fields.specs.declared.faults.TextFault.{TextFault}
use Rattle.rev_fields.specs.Faults.{◌>>=◌, each_of, first_fault}
use Rattle.rev_fields.specs.Fields.{texts_of}
use Rattle.rev_fields.specs.Lines.{lines_of, path_of, read_as, wrong_by, said_by}
use Rattle.rev_trace.specs.Commands.{command_of, short, which_of}
use Rattle.rev_script.specs.declared.script.Word.{Word}
use Rattle.rev_script.specs.declared.script.Word.TheVariants as word

-- a command as a word of a script; `plan` without a path means the graph's defaults
abbrev pub command_word : List (List ℕ) → Result Word FaultKind
command_word texts = command_of [] texts >>= λ c. Ok (word.Command c)

-- `run` and `run K`
abbrev pub run_of : List (List ℕ) → Result Word FaultKind
run_of [] = Ok (word.Run None)
run_of (count ∷ []) = short count >>= λ k. Ok (word.Run (Some k))
run_of (count ∷ more ∷ rest) = Err Syntax

-- a word that stands alone
abbrev pub bare_of : Word → List (List ℕ) → Result Word FaultKind
bare_of said [] = Ok said
bare_of said (more ∷ rest) = Err Syntax

-- `why OUT`
abbrev pub why_of : List (List ℕ) → Result Word FaultKind
why_of [] = Err Syntax
why_of (out ∷ []) = path_of out >>= λ o. Ok (word.Why o)
why_of (out ∷ more ∷ rest) = Err Syntax

-- `dependents WHICH`
abbrev pub dependents_of : List (List ℕ) → Result Word FaultKind
dependents_of [] = Err Syntax
dependents_of (event ∷ []) = which_of event >>= λ which. Ok (word.Dependents which)
dependents_of (event ∷ more ∷ rest) = Err Syntax

-- `order N...`
abbrev pub order_of : List (List ℕ) → Result Word FaultKind
order_of texts = each_of short texts >>= λ numbers. Ok (word.Order numbers)

-- the word of a script, or a command, where the fields have these texts
abbrev pub word_of : List (List ℕ) → Result Word FaultKind
word_of [] = Err Syntax
word_of (first ∷ rest) =
    if bytes_eq first (codes "run") then run_of rest else (if bytes_eq first (codes "kept") then bare_of word.Kept rest
    else (if bytes_eq first (codes "marks") then bare_of word.Marks rest
    else (if bytes_eq first (codes "stamps") then bare_of word.Stamps rest
    else (if bytes_eq first (codes "logs") then bare_of word.Logs rest
    else (if bytes_eq first (codes "why") then why_of rest
    else (if bytes_eq first (codes "dependents") then dependents_of rest
    else (if bytes_eq first (codes "order") then order_of rest else command_word (first ∷ rest))))))))

abbrev pub script_line : List ℕ → Result Word FaultKind
script_line line = read_as word_of (texts_of line)

-- what is wrong with the line at a place
abbrev pub script_wrong : List (List ℕ) → ℕ → Option FaultKind
script_wrong lines place = wrong_by script_line (slice_index_or lines place [])

-- the first fault of a script
abbrev pub script_fault : List ℕ → Option TextFault
script_fault text = let lines = lines_of text in first_fault (script_wrong lines) (length lines)

-- the words of a script that has no fault
abbrev pub script_of : List ℕ → List Word
script_of text = said_by script_line (lines_of text)
