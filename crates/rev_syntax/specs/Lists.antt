-- How lists of paths read: their grammar, as a relation of bytes and paths.
use Rattle.std.specs.Prelude.{◌≡◌, ℕ, Bool, true, false, ◌||◌, ◌==◌, ◌↔◌, List, [], ◌∷◌, ◌++◌, length, Ok}
use Rattle.rev_syntax.specs.declared.bytes.End.TheVariants.{PathEnd}
use Rattle.rev_syntax.specs.Bytes.{is_empty}
use Rattle.rev_syntax.specs.Ends.{free_len}
use Rattle.rev_syntax.specs.Lines.{LineValue}
use Rattle.rev_syntax.specs.Texts.{PieceValue}
use Rattle.rev_syntax.specs.Grammar.{ReadsAs}
use Rattle.rev_syntax.specs.Paths.{list_of}

-- the bytes of a path: there are some, they read as its pieces, and nothing that no `$` takes along ends it before
-- their end
pub record IsPath (raw : List ℕ) (path : List PieceValue) : Type 0 where
  pub some : is_empty raw ≡ false
  pub whole : free_len PathEnd false raw ≡ length raw
  pub reads : ReadsAs raw path

-- where a path in a list ends before this text: at the text's end, or at a space
abbrev pub ends_path : List ℕ → Bool
ends_path [] = true
ends_path (b ∷ bs) = b == 32

-- where a list ends before this text: at the line's end, at a colon or at a bar
abbrev pub ends_list : List ℕ → Bool
ends_list [] = true
ends_list (b ∷ bs) = b == 58 || b == 124

-- the bytes read as these paths: spaces may stand everywhere round them, and stand between each two
pub data ListReads : List ℕ → List (List PieceValue) → Type 0 where
  Nothing : ListReads [] []
  Space : {text : List ℕ} {paths : List (List PieceValue)} → ListReads text paths → ListReads (32 ∷ text) paths
  Path : (raw : List ℕ) {text : List ℕ} {path : List PieceValue} {paths : List (List PieceValue)} → IsPath raw path
      → ends_path text ≡ true → ListReads text paths
      → ListReads (raw ++ text) (path ∷ paths)

-- a list is read exactly where a text begins with its bytes and goes on with an end of lists
abbrev pub ListsAreRead : Type 0
ListsAreRead =
    (line : LineValue) (text rest : List ℕ) (paths : List (List PieceValue))
    → (list_of line text ≡ Ok (paths, rest))
    ↔ ((front : List ℕ) × (text ≡ front ++ rest) × ListReads front paths × (ends_list rest ≡ true))
