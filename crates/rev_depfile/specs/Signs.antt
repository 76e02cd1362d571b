-- What each byte of a depfile says, told from the bytes beside it.
use Rattle.std.specs.Prelude.{ℕ, ◌+◌, ◌-◌, ◌/◌, ◌%◌, ◌==◌, Bool, true, false, ◌&&◌, ◌||◌, List, [], ◌∷◌, ◌++◌, Option, Some, None, replicate, if◌then◌else◌}
use Rattle.std.specs.List.{flat_map}
use Rattle.rev_depfile.specs.declared.sign.Mark.TheVariants.{Byte, Colon, Blank, LineEnd}
use Rattle.rev_depfile.specs.declared.sign.Sign.{Sign}
use Rattle.rev_depfile.specs.declared.sign.Reading.{Reading}

-- whether LF comes first
abbrev pub begins_line_feed : List ℕ → Bool
begins_line_feed [] = false
begins_line_feed (b ∷ bs) = b == 10

-- whether a byte is a CR right before LF
abbrev pub is_line_end_return : ℕ → List ℕ → Bool
is_line_end_return b after = b == 13 && begins_line_feed after

-- LF and CR LF end a line.
abbrev pub begins_line_end : List ℕ → Bool
begins_line_end [] = false
begins_line_end (b ∷ bs) = b == 10 || is_line_end_return b bs

-- Space and tab are blanks, and so is a backslash together with the line end behind it.
abbrev pub begins_blank : List ℕ → Bool
begins_blank [] = false
begins_blank (b ∷ bs) = b == 32 || b == 9 || (b == 92 && begins_line_end bs)

-- A word ends before a blank, before a line end and at the end of the bytes.
abbrev pub is_word_end : List ℕ → Bool
is_word_end [] = true
is_word_end (b ∷ bs) = begins_blank (b ∷ bs) || begins_line_end (b ∷ bs)

-- A byte that is no backslash, with the run of backslashes right before it: the offset at which these begin,
-- how many backslashes there are, the byte, and the bytes behind it. The end of the text counts as such a byte.
pub record Piece : Type 0 where
  pub at : ℕ
  pub backslashes : ℕ
  pub byte : Option ℕ
  pub after : List ℕ

-- pieces with some more backslashes in front, which begin at an offset
abbrev pub more : ℕ → ℕ → List Piece → List Piece
more at n [] = []
more at n (p ∷ ps) = record p { at = at; backslashes = n + p.backslashes } ∷ ps

-- The pieces of a text whose first byte has a given offset. A CR right before LF belongs to the piece of the LF.
abbrev pub pieces : ℕ → List ℕ → List Piece
pieces at [] = record { at = at; backslashes = 0; byte = None; after = [] } ∷ []
pieces at (b ∷ bs) =
    if b == 92 then more at 1 (pieces (at + 1) bs)
    else (if is_line_end_return b bs then more at 0 (pieces (at + 1) bs)
    else record { at = at; backslashes = 0; byte = Some b; after = bs } ∷ pieces (at + 1) bs)

-- A byte behind n backslashes: how many of them are bytes of a word, and what the byte itself is.
-- LF ends a line, but with a backslash before it it is a blank, and that backslash is taken away.
-- Space is a blank behind an even number of backslashes; behind an odd one it is a byte, and half of them stay.
-- A tab is a blank. A `#` takes a backslash away. A `:` before the end of a word may separate targets from
-- prerequisites; another is a byte and takes a backslash away.
abbrev pub reading : ℕ → ℕ → List ℕ → Reading
reading n b after =
    if b == 10 then (if n == 0 then record { kept = 0; mark = LineEnd } else record { kept = n - 1; mark = Blank })
    else (if b == 32 then (if n % 2 == 1 then record { kept = n / 2; mark = Byte 32 } else record { kept = n; mark = Blank })
    else (if b == 9 then record { kept = n; mark = Blank }
    else (if b == 35 then record { kept = n - 1; mark = Byte 35 }
    else (if b == 58 then (if is_word_end after then record { kept = n; mark = Colon } else record { kept = n - 1; mark = Byte 58 })
    else record { kept = n; mark = Byte b }))))

-- a backslash that is a byte of a word
abbrev pub backslash_at : ℕ → Sign
backslash_at at = record { at = at; mark = Byte 92 }

-- what is read, as signs at an offset
abbrev pub read_signs : ℕ → Reading → List Sign
read_signs at r = replicate r.kept (backslash_at at) ++ record { at = at; mark = r.mark } ∷ []

-- the signs of a byte and of the backslashes before it, all at the offset at which these begin
abbrev pub signs_by : ℕ → ℕ → Option ℕ → List ℕ → List Sign
signs_by at n None after = replicate n (backslash_at at)
signs_by at n (Some b) after = read_signs at (reading n b after)

-- the signs of a piece
abbrev pub signs_of_piece : Piece → List Sign
signs_of_piece p = signs_by p.at p.backslashes p.byte p.after

-- The signs of a text are those of its pieces.
abbrev pub signs_of : List ℕ → List Sign
signs_of text = flat_map signs_of_piece (pieces 0 text)
