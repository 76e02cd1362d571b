-- The lines of a depfile, and the words of a line.
use Rattle.std.specs.Prelude.{ℕ, suc, ◌==◌, Bool, true, false, ◌&&◌, List, [], ◌∷◌, map, filter, take, drop, if◌then◌else◌}
use Rattle.rev_depfile.specs.declared.sign.Mark.{Mark}
use Rattle.rev_depfile.specs.declared.sign.Mark.TheVariants.{Byte, Colon, Blank, LineEnd}
use Rattle.rev_depfile.specs.declared.sign.Sign.{Sign}
use Rattle.rev_depfile.specs.Signs.{signs_of}

-- the tests of a sign by its mark
abbrev pub is_line_end_mark : Mark → Bool
is_line_end_mark (Byte b) = false
is_line_end_mark Colon = false
is_line_end_mark Blank = false
is_line_end_mark LineEnd = true

abbrev pub is_blank_mark : Mark → Bool
is_blank_mark (Byte b) = false
is_blank_mark Colon = false
is_blank_mark Blank = true
is_blank_mark LineEnd = false

abbrev pub is_colon_mark : Mark → Bool
is_colon_mark (Byte b) = false
is_colon_mark Colon = true
is_colon_mark Blank = false
is_colon_mark LineEnd = false

abbrev pub is_line_end : Sign → Bool
is_line_end s = is_line_end_mark s.mark

abbrev pub is_blank : Sign → Bool
is_blank s = is_blank_mark s.mark

abbrev pub is_colon : Sign → Bool
is_colon s = is_colon_mark s.mark

-- the parts of a list with one more element at the front of the first of them
abbrev pub onto : {A : Type 0} → A → List (List A) → List (List A)
onto x [] = (x ∷ []) ∷ []
onto x (p ∷ ps) = (x ∷ p) ∷ ps

-- The parts of a list are what stands between the elements that pass a test.
abbrev pub parts : {A : Type 0} → (A → Bool) → List A → List (List A)
parts test [] = [] ∷ []
parts test (x ∷ xs) = if test x then [] ∷ parts test xs else onto x (parts test xs)

-- The lines of a text stand between its line ends.
abbrev pub lines : List ℕ → List (List Sign)
lines text = parts is_line_end (signs_of text)

-- whether a list has some element
abbrev pub has_some : {A : Type 0} → List A → Bool
has_some [] = false
has_some (x ∷ xs) = true

-- The words of a part of a line stand between its blanks, and have some bytes.
abbrev pub words : List Sign → List (List Sign)
words part = filter has_some (parts is_blank part)

-- how many elements stand before the first that passes a test, or all where none does
abbrev pub place : {A : Type 0} → (A → Bool) → List A → ℕ
place test [] = 0
place test (x ∷ xs) = if test x then 0 else suc (place test xs)

-- What stands before the first separating colon of a line, or all of the line where there is none.
abbrev pub before_colon : List Sign → List Sign
before_colon line = take (place is_colon line) line

-- The first separating colon of a line with what follows it, or nothing where there is none.
abbrev pub from_colon : List Sign → List Sign
from_colon line = drop (place is_colon line) line

-- the byte that a sign is in a word, where a colon separates nothing
abbrev pub mark_byte : Mark → ℕ
mark_byte (Byte b) = b
mark_byte Colon = 58
mark_byte Blank = 32
mark_byte LineEnd = 10

abbrev pub byte_of : Sign → ℕ
byte_of s = mark_byte s.mark

-- Two dollar signs stand for one.
abbrev pub single_dollars : List ℕ → List ℕ
single_dollars [] = []
single_dollars (b ∷ []) = b ∷ []
single_dollars (b ∷ c ∷ bs) = if b == 36 && c == 36 then 36 ∷ single_dollars bs else b ∷ single_dollars (c ∷ bs)

-- The bytes of a word are those of its signs, with one dollar sign for each two.
abbrev pub word_text : List Sign → List ℕ
word_text word = single_dollars (map byte_of word)

-- the offset of the first byte of a word
abbrev pub word_at : List Sign → ℕ
word_at [] = 0
word_at (s ∷ ss) = s.at
