-- How depfiles read: their grammar, as a relation of bytes, words and lines.
use Rattle.std.specs.Prelude.{◌≡◌, ℕ, suc, ◌+◌, ◌-◌, ◌==◌, Bool, true, false, not, ◌&&◌, ◌||◌, List, [], ◌∷◌, ◌++◌, length, map, replicate, Option, Some, None}
use Rattle.std.specs.List.{list_any}
use Rattle.rev_depfile.specs.declared.sign.Mark.{Mark}
use Rattle.rev_depfile.specs.declared.sign.Mark.TheVariants.{Byte, Colon, Blank, LineEnd}
use Rattle.rev_depfile.specs.declared.sign.Sign.{Sign}
use Rattle.rev_depfile.specs.Signs.{is_line_end_return, is_word_end, backslash_at}
use Rattle.rev_depfile.specs.Lines.{is_line_end, is_blank, is_colon, byte_of, words, before_colon, from_colon, word_text, word_at, lines}

-- that many backslashes
abbrev pub backslashes : ℕ → List ℕ
backslashes n = replicate n 92

-- LF and CR LF end a line
pub data IsLineEnd : List ℕ → Type 0 where
  LineFeed : IsLineEnd (10 ∷ [])
  ReturnLineFeed : IsLineEnd (13 ∷ 10 ∷ [])

-- a byte that says nothing but itself: no LF, space, tab, `#`, `:` or backslash, and no CR right before LF
abbrev pub is_plain : ℕ → List ℕ → Bool
is_plain b after =
    not (b == 10 || (b == 32 || (b == 9 || (b == 35 || (b == 58 || b == 92))))) && not (is_line_end_return b after)

-- What a run of backslashes says with the bytes behind it, before what follows these: how many of the backslashes are
-- bytes of a word, and what the bytes themselves are.
pub data Says : ℕ → List ℕ → List ℕ → ℕ → Mark → Type 0 where
  Ends : {bytes after : List ℕ} → IsLineEnd bytes → Says 0 bytes after 0 LineEnd
  -- the last backslash before a line end is with it a blank
  Joins : {n : ℕ} {bytes after : List ℕ} → IsLineEnd bytes → Says (suc n) bytes after n Blank
  -- an even number of backslashes before a space
  Parts : (half : ℕ) {after : List ℕ} → Says (half + half) (32 ∷ []) after (half + half) Blank
  -- an odd one: half of them, and the space is a byte
  Space : (half : ℕ) {after : List ℕ} → Says (half + half + 1) (32 ∷ []) after half (Byte 32)
  Tab : {n : ℕ} {after : List ℕ} → Says n (9 ∷ []) after n Blank
  -- a `#`, and a `:` behind which its word goes on, take a backslash away
  Hash : {n : ℕ} {after : List ℕ} → Says n (35 ∷ []) after (n - 1) (Byte 35)
  Inner : {n : ℕ} {after : List ℕ} → is_word_end after ≡ false → Says n (58 ∷ []) after (n - 1) (Byte 58)
  -- a `:` before a blank, a line end or the end may separate
  Separates : {n : ℕ} {after : List ℕ} → is_word_end after ≡ true → Says n (58 ∷ []) after n Colon
  Itself : {n b : ℕ} {after : List ℕ} → is_plain b after ≡ true → Says n (b ∷ []) after n (Byte b)

-- that many backslashes as bytes of a word, all with the offset at which their run begins
abbrev pub kept_at : ℕ → ℕ → List Sign
kept_at at n = replicate n (backslash_at at)

-- A text whose first byte has an offset reads as these signs. What a run of backslashes says has the offset of the run.
pub data ReadsAs : ℕ → List ℕ → List Sign → Type 0 where
  Rest : {at : ℕ} (n : ℕ) → ReadsAs at (backslashes n) (kept_at at n)
  Run : {at n kept : ℕ} {bytes text : List ℕ} {mark : Mark} {signs : List Sign} → Says n bytes text kept mark
      → ReadsAs (at + n + length bytes) text signs
      → ReadsAs at (backslashes n ++ (bytes ++ text)) (kept_at at kept ++ record { at = at; mark = mark } ∷ signs)

-- whether a dollar sign comes first
abbrev pub begins_dollar : List ℕ → Bool
begins_dollar [] = false
begins_dollar (b ∷ bs) = b == 36

-- the bytes of a word stand for these: two dollar signs for one, and every other byte for itself
pub data StandsFor : List ℕ → List ℕ → Type 0 where
  Empty : StandsFor [] []
  Dollars : {raw text : List ℕ} → StandsFor raw text → StandsFor (36 ∷ 36 ∷ raw) (36 ∷ text)
  Own : {b : ℕ} {raw text : List ℕ} → (b == 36 && begins_dollar raw) ≡ false → StandsFor raw text
      → StandsFor (b ∷ raw) (b ∷ text)

-- a word: the offset of its first byte, and what its bytes stand for
pub record WordValue : Type 0 where
  pub at : ℕ
  pub text : List ℕ

-- whether no sign passes the test
abbrev pub lacks : (Sign → Bool) → List Sign → Bool
lacks test signs = not (list_any test signs)

-- where a word ends before these signs: at their end, or at a blank
abbrev pub ends_word : List Sign → Bool
ends_word [] = true
ends_word (s ∷ signs) = is_blank s

-- the signs are these words, with blanks round them
pub data WordsAre : List Sign → List WordValue → Type 0 where
  NoWords : WordsAre [] []
  Gap : {s : Sign} {signs : List Sign} {words : List WordValue} → is_blank s ≡ true → WordsAre signs words
      → WordsAre (s ∷ signs) words
  Word : (s : Sign) (word : List Sign) {text : List ℕ} {signs : List Sign} {words : List WordValue}
      → lacks is_blank (s ∷ word) ≡ true → StandsFor (map byte_of (s ∷ word)) text → ends_word signs ≡ true
      → WordsAre signs words
      → WordsAre ((s ∷ word) ++ signs) (record { at = s.at; text = text } ∷ words)

-- what stands behind a separating colon
pub record RuleValue : Type 0 where
  -- the offset of the colon
  pub at : ℕ
  pub prerequisites : List WordValue

-- what stands in a line: the words before its separating colon, or all where there is none; and that colon with what
-- follows
pub record LineValue : Type 0 where
  pub targets : List WordValue
  pub rule : Option RuleValue

-- The first colon that can separate does: none stands among the targets. Behind it a colon is a byte of its word.
pub data LineIs : List Sign → LineValue → Type 0 where
  Bare : {signs : List Sign} {words : List WordValue} → lacks is_colon signs ≡ true → WordsAre signs words
      → LineIs signs (record { targets = words; rule = None })
  Rule : (before : List Sign) (colon : Sign) {after : List Sign} {targets prerequisites : List WordValue}
      → lacks is_colon before ≡ true → is_colon colon ≡ true → WordsAre before targets → WordsAre after prerequisites
      → LineIs (before ++ colon ∷ after)
      (record { targets = targets; rule = Some (record { at = colon.at; prerequisites = prerequisites }) })

-- the lines stand between the line ends
pub data LinesAre : List Sign → List LineValue → Type 0 where
  Last : {signs : List Sign} {line : LineValue} → lacks is_line_end signs ≡ true → LineIs signs line
      → LinesAre signs (line ∷ [])
  More : (front : List Sign) (end : Sign) {signs : List Sign} {line : LineValue} {lines : List LineValue}
      → lacks is_line_end front ≡ true → is_line_end end ≡ true → LineIs front line → LinesAre signs lines
      → LinesAre (front ++ end ∷ signs) (line ∷ lines)

-- the text is a depfile of these lines
pub record IsDepfile (text : List ℕ) (lines : List LineValue) : Type 0 where
  pub signs : List Sign
  pub reads : ReadsAs 0 text signs
  pub cut : LinesAre signs lines

-- a word, its line and all lines, as the functions give them
abbrev pub word_said : List Sign → WordValue
word_said word = record { at = word_at word; text = word_text word }

abbrev pub rule_said : List Sign → Option RuleValue
rule_said [] = None
rule_said (colon ∷ rest) = Some (record { at = colon.at; prerequisites = map word_said (words rest) })

abbrev pub line_said : List Sign → LineValue
line_said line = record { targets = map word_said (words (before_colon line)); rule = rule_said (from_colon line) }

abbrev pub lines_said : List ℕ → List LineValue
lines_said text = map line_said (lines text)
