-- Statements in reading order, an included file at its place.
use Rattle.std.specs.Prelude.{◌≡◌, ℕ, zero, suc, nat_lt, List, [], ◌∷◌, length, Option, Some, None, Result, Ok, Err, if◌then◌else◌}
use Rattle.rev_syntax.specs.declared.fault.SyntaxFault.{SyntaxFault}
use Rattle.std.specs.Borrow.{Bor}
use Rattle.rev_syntax.specs.Lines.{LineValue, lines_of}
use Rattle.rev_syntax.specs.Statements as syntax
use Rattle.rev_manifest.specs.declared.fault.FaultKind.{FaultKind}
use Rattle.rev_manifest.specs.declared.fault.FaultKind.TheVariants.{IncludeDepth, TooLarge}
use Rattle.rev_manifest.specs.declared.fault.ManifestFault.{ManifestFault}
use Rattle.rev_manifest.specs.declared.fault.ReadFault.{ReadFault}
use Rattle.rev_manifest.specs.declared.fault.ReadFault.TheVariants.{Memory, Manifest}
use Rattle.rev_manifest.specs.Answers.{fault_at, and_then, refused, unless_then, syntax_kind, in_file}
use Rattle.rev_manifest.specs.Files.{FileValue, content_at}
use Rattle.rev_manifest.specs.Declarations.{DeclarationsValue, after_bytes}
use Rattle.rev_manifest.specs.declared.inclusion.Inclusion.{Inclusion}
use Rattle.rev_manifest.specs.declared.fault.Place.{Place}
use Rattle.rev_manifest.specs.Made.{made_by, left_of, with_left}
use Rattle.rev_manifest.specs.Statements.{Step, look_up, with_form}

-- A statement of a file, in a scope. Before all else the bytes of the values that it binds are counted.
abbrev pub with_statement : List FileValue → ℕ → ℕ → DeclarationsValue → syntax.StatementValue
    → Result Step ManifestFault
with_statement files file scope above statement =
    let place : Place = record { file = file; line = statement.line } in
    with_left place (left_of above.value_room (made_by (look_up above scope) statement.form))
    (λ left. with_form files place scope statement.form (record above { value_room = left }))

-- how a file is read: what it declares after what stands above
abbrev pub Reader : Type 0
Reader = DeclarationsValue → Inclusion → Result DeclarationsValue ManifestFault

-- a fault is that of the first of the statements meant; Memory says nothing of them
abbrev pub IsNextFault : ℕ → ReadFault → List (Result syntax.StatementValue SyntaxFault) → Type 0
IsNextFault file Memory meant = Unit {0}
IsNextFault file (Manifest fault) meant =
    (first : SyntaxFault) × (others : List (Result syntax.StatementValue SyntaxFault)) × (meant ≡ Err first ∷ others)
    × (fault ≡ fault_at (record { file = file; line = first.line }) (syntax_kind first.kind))

-- the file that a statement names, if it names one, is read at the statement's place
abbrev pub with_inclusion : Reader → Step → Result DeclarationsValue ManifestFault
with_inclusion read step = elim step.inclusion [ None ↦ Ok step.above | Some inclusion ↦ read step.above inclusion ]

-- statements one after another; the first fault is that of the first that has one
unfoldable pub with_statements : List FileValue → Reader → ℕ → ℕ → DeclarationsValue
    → List (Result syntax.StatementValue SyntaxFault) → Result DeclarationsValue ManifestFault
with_statements files read file scope above [] = Ok above
with_statements files read file scope above (statement ∷ statements) =
    and_then (in_file file statement) (λ value. and_then (with_statement files file scope above value) (λ step.
    and_then (with_inclusion read step) (λ more. with_statements files read file scope more statements)))

-- What is added of the statements meant: the first, with the file that it names and the lines after it. There is none
-- where none is meant.
abbrev pub IsAdded : List FileValue → ℕ → ℕ → DeclarationsValue → DeclarationsValue
    → List (Result syntax.StatementValue SyntaxFault) → Option (Option Inclusion × Bor (List LineValue)) → Type 0
IsAdded files file scope old new meant None = (meant ≡ []) × (new ≡ old)
IsAdded files file scope old new meant (Some found) =
    (value : syntax.StatementValue) × (meant ≡ Ok value ∷ syntax.statements_of found.1.now)
    × (with_statement files file scope old value ≡ Ok (record { above = new; inclusion = found.0 }))

-- why a file is not read for its bytes: there are more than may still be read
abbrev pub bytes_fault : ℕ → DeclarationsValue → Option FaultKind
bytes_fault bytes above = if nat_lt above.room bytes then Some TooLarge else None

-- what a file declares, where so many files deep may still be read, itself among them
unfoldable pub reading : List FileValue → ℕ → Reader
reading files zero above inclusion = refused inclusion.place IncludeDepth
reading files (suc left) above inclusion =
    let content = content_at files inclusion.file in
    unless_then inclusion.place (bytes_fault (length content) above)
    (with_statements files (reading files left) inclusion.file inclusion.scope (after_bytes (length content) above)
    (syntax.statements_of (lines_of content)))
