-- How texts read: their grammar, as a relation of bytes and pieces.
use Rattle.std.specs.Prelude.{◌≡◌, ℕ, Bool, true, not, ◌&&◌, ◌==◌, ◌↔◌, List, [], ◌∷◌, ◌++◌, None}
use Rattle.rev_syntax.specs.Bytes.{is_in_name, is_in_bare_name, is_empty}
use Rattle.rev_syntax.specs.Texts.{PieceValue, Byte, Variable, is_no_text, is_escaped, fault_of, pieces_of}

-- a byte that stands for itself: no `$`, no NUL and no CR
abbrev pub is_plain : ℕ → Bool
is_plain b = not (b == 36) && not (is_no_text b)

-- bytes that all pass the test
abbrev pub is_run : (ℕ → Bool) → List ℕ → Bool
is_run test [] = true
is_run test (b ∷ bs) = test b && is_run test bs

-- a name of such bytes: there is at least one
abbrev pub is_name : (ℕ → Bool) → List ℕ → Bool
is_name test name = not (is_empty name) && is_run test name

-- where a name without braces ends before this text: at the text's end, or at a byte that cannot be in it
abbrev pub ends_name : List ℕ → Bool
ends_name [] = true
ends_name (b ∷ bs) = not (is_in_bare_name b)

-- the bytes read as these pieces
pub data ReadsAs : List ℕ → List PieceValue → Type 0 where
  Nothing : ReadsAs [] []
  -- a plain byte
  Plain : {b : ℕ} {text : List ℕ} {pieces : List PieceValue} → is_plain b ≡ true → ReadsAs text pieces
      → ReadsAs (b ∷ text) (Byte b ∷ pieces)
  -- `$$`, `$` and a space, `$:`
  Escaped : {b : ℕ} {text : List ℕ} {pieces : List PieceValue} → is_escaped b ≡ true → ReadsAs text pieces
      → ReadsAs (36 ∷ b ∷ text) (Byte b ∷ pieces)
  -- `$name`, whose name has no dot
  Bare : (name : List ℕ) {text : List ℕ} {pieces : List PieceValue} → is_name is_in_bare_name name ≡ true
      → ends_name text ≡ true → ReadsAs text pieces
      → ReadsAs (36 ∷ name ++ text) (Variable name ∷ pieces)
  -- `${name}`
  Braced : (name : List ℕ) {text : List ℕ} {pieces : List PieceValue} → is_name is_in_name name ≡ true
      → ReadsAs text pieces
      → ReadsAs (36 ∷ 123 ∷ name ++ 125 ∷ text) (Variable name ∷ pieces)

-- bytes are a text of those pieces exactly where they read as them
abbrev pub TextsAreRead : Type 0
TextsAreRead =
    (raw : List ℕ) (pieces : List PieceValue) → ((fault_of raw ≡ None) × (pieces_of raw ≡ pieces)) ↔ ReadsAs raw pieces
