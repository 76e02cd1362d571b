-- How files are cut into lines: their grammar, as a relation of bytes and lines.
use Rattle.std.specs.Prelude.{◌≡◌, ℕ, suc, ◌==◌, ◌↔◌, Bool, true, false, not, List, [], ◌∷◌, ◌++◌, replicate}
use Rattle.std.specs.List.{list_any}
use Rattle.rev_syntax.specs.Bytes.{is_byte, is_empty, begins_with}
use Rattle.rev_syntax.specs.Lines.{LineValue, lines_of}

-- whether no LF is among the bytes
abbrev pub lacks_feed : List ℕ → Bool
lacks_feed bytes = not (list_any (is_byte 10) bytes)

-- whether a CR is the last of the bytes
abbrev pub ends_return : List ℕ → Bool
ends_return [] = false
ends_return (b ∷ []) = b == 13
ends_return (b ∷ c ∷ cs) = ends_return (c ∷ cs)

-- A file's bytes are its lines, each written out with its end: LF, or CR and LF. The last needs none where it has a
-- byte.
pub data IsCut : List ℕ → List (List ℕ) → Type 0 where
  NoLines : IsCut [] []
  LastLine : (raw : List ℕ) → is_empty raw ≡ false → lacks_feed raw ≡ true → IsCut raw (raw ∷ [])
  Feed : (raw : List ℕ) {content : List ℕ} {raws : List (List ℕ)} → lacks_feed raw ≡ true → ends_return raw ≡ false
      → IsCut content raws
      → IsCut (raw ++ 10 ∷ content) (raw ∷ raws)
  ReturnFeed : (raw : List ℕ) {content : List ℕ} {raws : List (List ℕ)} → lacks_feed raw ≡ true → IsCut content raws
      → IsCut (raw ++ 13 ∷ 10 ∷ content) (raw ∷ raws)

abbrev pub spaces : ℕ → List ℕ
spaces n = replicate n 32

-- a blank line or a comment
pub data IsDropped : List ℕ → Type 0 where
  Blank : (n : ℕ) → IsDropped (spaces n)
  Comment : (n : ℕ) (bytes : List ℕ) → IsDropped (spaces n ++ 35 ∷ bytes)

-- bytes in which each `$` takes the byte after it along
pub data IsPaired : List ℕ → Type 0 where
  NoBytes : IsPaired []
  Single : {b : ℕ} {bytes : List ℕ} → (b == 36) ≡ false → IsPaired bytes → IsPaired (b ∷ bytes)
  Taken : (b : ℕ) {bytes : List ℕ} → IsPaired bytes → IsPaired (36 ∷ b ∷ bytes)

-- A line of a file and those behind it, of which the first has this number, are one line of the grammar with this text,
-- which ends or not; behind it are the lines from another number on.
pub data Joins : ℕ → List ℕ → List (List ℕ) → List ℕ → Bool → ℕ → List (List ℕ) → Type 0 where
  Whole : {n : ℕ} {raw : List ℕ} {raws : List (List ℕ)} → IsPaired raw → Joins n raw raws raw true n raws
  -- a `$` alone at the end joins the next line, whatever that is, without its leading spaces
  Joined : {n : ℕ} {raw : List ℕ} (k : ℕ) {next : List ℕ} {raws : List (List ℕ)} {text : List ℕ} {ended : Bool} {m : ℕ}
      {rest : List (List ℕ)}
      → IsPaired raw → begins_with 32 next ≡ false → Joins (suc n) next raws text ended m rest
      → Joins n (raw ++ 36 ∷ []) ((spaces k ++ next) ∷ raws) (raw ++ text) ended m rest
  -- at the end of the file there is none
  Open : {n : ℕ} {raw : List ℕ} → IsPaired raw → Joins n (raw ++ 36 ∷ []) [] raw false n []

-- the lines of a file from the one of that number on are these lines of the grammar
pub data AreLines : ℕ → List (List ℕ) → List LineValue → Type 0 where
  NoMore : {n : ℕ} → AreLines n [] []
  -- a blank line or a comment that continues no other is dropped
  Dropped : {n : ℕ} {raw : List ℕ} {raws : List (List ℕ)} {lines : List LineValue} → IsDropped raw
      → AreLines (suc n) raws lines → AreLines n (raw ∷ raws) lines
  -- each other is a line, or begins one, which has its number
  Line : {n : ℕ} {raw : List ℕ} {raws : List (List ℕ)} {text : List ℕ} {ended : Bool} {m : ℕ} {rest : List (List ℕ)}
      {lines : List LineValue}
      → (IsDropped raw → ⊥) → Joins (suc n) raw raws text ended m rest → AreLines m rest lines
      → AreLines n (raw ∷ raws) (record { number = n; text = text; ended = ended } ∷ lines)

-- the file's bytes are a file of these lines
pub record IsFile (content : List ℕ) (lines : List LineValue) : Type 0 where
  pub raws : List (List ℕ)
  pub cut : IsCut content raws
  pub are : AreLines 1 raws lines

-- a file has certain lines exactly where its bytes are a file of these
abbrev pub LinesAreCut : Type 0
LinesAreCut = (content : List ℕ) (lines : List LineValue) → (lines_of content ≡ lines) ↔ IsFile content lines
