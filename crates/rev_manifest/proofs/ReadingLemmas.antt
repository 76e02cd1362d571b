-- Statements in reading order.
use Rattle.std.proofs.Common.{◌≡◌, ℕ, suc, ◌-◌, ◌<◌, ◌≤◌, nat_lt, Bool, true, false, List, [], ◌∷◌, length, Option, Some, None, Result, Ok, Err, refl, sym, ap, subst, ◌∙◌, arith, if◌then◌else◌}
use Rattle.std.proofs.lemmas.Bool.{ltb-true, lt-ltb}
use Rattle.rev_syntax.specs.declared.fault.SyntaxFault.{SyntaxFault}
use Rattle.rev_syntax.specs.Lines.{lines_of}
use Rattle.rev_syntax.specs.Statements.{StatementValue, statements_of}
use Rattle.rev_manifest.specs.declared.fault.FaultKind.TheVariants.{IncludeDepth, TooLarge}
use Rattle.rev_manifest.specs.declared.fault.ManifestFault.{ManifestFault}
use Rattle.rev_manifest.specs.declared.fault.ReadFault.{ReadFault}
use Rattle.rev_manifest.specs.declared.fault.ReadFault.TheVariants.{Memory, Manifest}
use Rattle.rev_manifest.specs.declared.inclusion.Inclusion.{Inclusion}
use Rattle.rev_manifest.specs.Answers.{and_then, refused, unless_then, IsFault}
use Rattle.rev_manifest.specs.Files.{FileValue, content_at}
use Rattle.rev_manifest.specs.Declarations.{DeclarationsValue, after_bytes}
use Rattle.rev_manifest.specs.Statements.{Step}
use Rattle.rev_manifest.specs.Reading.{Reader, reading, bytes_fault, with_statement, with_statements, with_inclusion, IsNextFault}

pub too_deep : (files : List FileValue) (left : ℕ) (above : DeclarationsValue) (inclusion : Inclusion) → left ≡ 0 → reading files left above inclusion ≡ refused inclusion.place IncludeDepth
unfolding reading
too_deep files left above inclusion e = ap (λ (n : ℕ). reading files n above inclusion) e

-- the bytes of the file that is named
abbrev pub bytes_at : List FileValue → Inclusion → ℕ
bytes_at files inclusion = length (content_at files inclusion.file)

-- what a file's statements add to what stands above when its bytes are counted
abbrev pub in_room : List FileValue → Reader → DeclarationsValue → Inclusion → Result DeclarationsValue ManifestFault
in_room files read above inclusion =
    with_statements files read inclusion.file inclusion.scope (after_bytes (bytes_at files inclusion) above) (statements_of (lines_of (content_at files inclusion.file)))

one_more : (files : List FileValue) (n : ℕ) (above : DeclarationsValue) (inclusion : Inclusion)
    → reading files (suc n) above inclusion ≡ unless_then inclusion.place (bytes_fault (bytes_at files inclusion) above) (in_room files (reading files n) above inclusion)
unfolding reading
one_more files n above inclusion = refl

some_more : (files : List FileValue) (left : ℕ) (above : DeclarationsValue) (inclusion : Inclusion) → (left ≡ 0 → ⊥)
    → reading files left above inclusion ≡ unless_then inclusion.place (bytes_fault (bytes_at files inclusion) above) (in_room files (reading files (left - 1)) above inclusion)
some_more files left above inclusion some =
    let more : left ≡ suc (left - 1) = omega arith in
    ap (λ (n : ℕ). reading files n above inclusion) more ∙ one_more files (left - 1) above inclusion

not_less : (a b : ℕ) (is : Bool) → nat_lt a b ≡ is → b ≤ a → is ≡ false
not_less a b true e h =
    let less : a < b = ltb-true a b e in
    let none : ⊥ = omega arith in
    absurd none
not_less a b false e h = refl

by_room : List FileValue → ℕ → DeclarationsValue → Inclusion → Bool → Result DeclarationsValue ManifestFault
by_room files left above inclusion is = unless_then inclusion.place (if is then Some TooLarge else None) (in_room files (reading files (left - 1)) above inclusion)

-- more bytes than may still be read
pub too_many : (files : List FileValue) (left : ℕ) (above : DeclarationsValue) (inclusion : Inclusion) → (left ≡ 0 → ⊥)
    → (content : List ℕ) → content ≡ content_at files inclusion.file → above.room < length content → reading files left above inclusion ≡ refused inclusion.place TooLarge
unfolding by_room
too_many files left above inclusion some content is many =
    some_more files left above inclusion some
    ∙ ap (by_room files left above inclusion) (lt-ltb above.room (bytes_at files inclusion) (subst (λ (c : List ℕ). above.room < length c) is many))

-- a statement's step, by its parts
abbrev pub step_of : DeclarationsValue → Option Inclusion → Step
step_of above named = record { above = above; inclusion = named }

pub of_file : (files : List FileValue) (left : ℕ) (above : DeclarationsValue) (inclusion : Inclusion) → (left ≡ 0 → ⊥)
    → (content : List ℕ) → content ≡ content_at files inclusion.file → length content ≤ above.room → reading files left above inclusion ≡ in_room files (reading files (left - 1)) above inclusion
unfolding by_room
of_file files left above inclusion some content is few =
    some_more files left above inclusion some
    ∙ ap (by_room files left above inclusion)
    (not_less above.room (bytes_at files inclusion) (nat_lt above.room (bytes_at files inclusion)) refl (subst (λ (c : List ℕ). length c ≤ above.room) is few))

module _ (files : List FileValue) (read : Reader) (file scope : ℕ) where
  pub at_end : (above : DeclarationsValue) (meant : List (Result StatementValue SyntaxFault)) → meant ≡ [] → with_statements files read file scope above meant ≡ Ok above
  unfolding with_statements
  at_end above meant e = ap (with_statements files read file scope above) e

  pub after_first : (above : DeclarationsValue) (meant rest : List (Result StatementValue SyntaxFault)) (value : StatementValue) (step : Step) → meant ≡ Ok value ∷ rest
      → with_statement files file scope above value ≡ Ok step
      → with_statements files read file scope above meant ≡ and_then (with_inclusion read step) (λ more. with_statements files read file scope more rest)
  unfolding with_statements
  after_first above meant rest value step e h =
      ap (with_statements files read file scope above) e
      ∙ ap (λ (r : Result Step ManifestFault). and_then r (λ s. and_then (with_inclusion read s) (λ more. with_statements files read file scope more rest))) h

  pub first_fault : (above : DeclarationsValue) (meant rest : List (Result StatementValue SyntaxFault)) (value : StatementValue) (fault : ReadFault) → meant ≡ Ok value ∷ rest
      → IsFault fault (with_statement files file scope above value) → IsFault fault (with_statements files read file scope above meant)
  unfolding with_statements
  first_fault above meant rest value Memory e h = tt
  first_fault above meant rest value (Manifest fault) e h =
      ap (with_statements files read file scope above) e
      ∙ ap (λ (r : Result Step ManifestFault). and_then r (λ s. and_then (with_inclusion read s) (λ more. with_statements files read file scope more rest))) h

  pub syntax_fault : (above : DeclarationsValue) (meant : List (Result StatementValue SyntaxFault)) (fault : ReadFault) → IsNextFault file fault meant → IsFault fault (with_statements files read file scope above meant)
  unfolding with_statements
  syntax_fault above meant Memory h = tt
  syntax_fault above meant (Manifest fault) h = ap (with_statements files read file scope above) h.2 ∙ ap Err (sym h.3)

  -- a file that is read at a statement
  pub inclusion_fault : (above : DeclarationsValue) (step : Step) (rest : List (Result StatementValue SyntaxFault)) (fault : ReadFault) → IsFault fault (with_inclusion read step)
      → IsFault fault (and_then (with_inclusion read step) (λ more. with_statements files read file scope more rest))
  inclusion_fault above step rest Memory h = tt
  inclusion_fault above step rest (Manifest fault) h = ap (λ (r : Result DeclarationsValue ManifestFault). and_then r (λ more. with_statements files read file scope more rest)) h
