-- Texts read from the left.
use Rattle.std.proofs.Common.{◌≡◌, ◌≢◌, ℕ, zero, suc, ◌+◌, Bool, true, false, not, ◌||◌, ◌==◌, List, [], ◌∷◌, ◌++◌, length, map, take, drop, Option, Some, None, cond, refl, sym, ap, subst, ◌∙◌, if◌then◌else◌, arith}
use Rattle.std.proofs.lemmas.Bool.{ne_eqb}
use Rattle.std.specs.Borrow.{Bor}
use Rattle.std.specs.List.{position_or_len, prefix_len, take_while}
use Rattle.std.proofs.lemmas.List.Folds.{length-prefix_len}
use Rattle.rev_syntax.specs.declared.fault.SyntaxKind.TheVariants.{Syntax, BadEscape}
use Rattle.rev_syntax.specs.declared.text.Piece.{Piece}
use Rattle.rev_syntax.specs.declared.text.Piece.TheVariants as code
use Rattle.rev_syntax.specs.Bytes.{is_byte, is_in_name, after, is_empty}
use Rattle.rev_syntax.specs.Texts.{PieceValue, Byte, Variable, EscapeValue, is_no_text, braced, escape_of, fault_after, text_fault, fault_of, pieces_after, pieces_from, pieces_of}
use Rattle.rev_syntax.specs.Pieces.{seen_piece, IsEscape}

-- bytes that are taken along
pub text_fault-drop : (n : ℕ) (text : List ℕ) → text_fault n text ≡ fault_of (drop n text)
text_fault-drop zero text = refl
text_fault-drop (suc n) [] = refl
text_fault-drop (suc n) (b ∷ bs) = text_fault-drop n bs

pub pieces_from-drop : (n : ℕ) (text : List ℕ) → pieces_from n text ≡ pieces_of (drop n text)
pieces_from-drop zero text = refl
pieces_from-drop (suc n) [] = refl
pieces_from-drop (suc n) (b ∷ bs) = pieces_from-drop n bs

escape-fault : (meant : Option EscapeValue) (rest : List ℕ) (found : Piece × Bor (List ℕ)) → IsEscape meant rest (Some found)
    → fault_after meant (λ taken. text_fault taken rest) ≡ fault_of found.1.now
escape-fault None rest found h = absurd h
escape-fault (Some escape) rest found h = text_fault-drop escape.taken rest ∙ ap fault_of (sym h.1)

escape-pieces : (meant : Option EscapeValue) (rest : List ℕ) (found : Piece × Bor (List ℕ)) → IsEscape meant rest (Some found)
    → pieces_after meant (λ taken. pieces_from taken rest) ≡ seen_piece found.0 ++ pieces_of found.1.now
escape-pieces None rest found h = absurd h
escape-pieces (Some escape) rest found h =
    ap (λ pieces. escape.piece ∷ pieces) (pieces_from-drop escape.taken rest ∙ ap pieces_of (sym h.1)) ∙ ap (λ front. front ++ pieces_of found.1.now) (sym h.0)

-- a `$` and what it takes along
pub dollar-fault : (b : ℕ) (rest : List ℕ) (found : Piece × Bor (List ℕ)) → b ≡ 36 → IsEscape (escape_of rest) rest (Some found)
    → fault_of (b ∷ rest) ≡ fault_of found.1.now
dollar-fault b rest found d h = ap (λ x. fault_of (x ∷ rest)) d ∙ escape-fault (escape_of rest) rest found h

pub dollar-pieces : (b : ℕ) (rest : List ℕ) (found : Piece × Bor (List ℕ)) → b ≡ 36 → IsEscape (escape_of rest) rest (Some found)
    → pieces_of (b ∷ rest) ≡ seen_piece found.0 ++ pieces_of found.1.now
dollar-pieces b rest found d h = ap (λ x. pieces_of (x ∷ rest)) d ∙ escape-pieces (escape_of rest) rest found h

no-escape : (meant : Option EscapeValue) (rest : List ℕ) → IsEscape meant rest None → fault_after meant (λ taken. text_fault taken rest) ≡ Some BadEscape
no-escape None rest h = refl
no-escape (Some escape) rest h = absurd h

pub dollar-none : (b : ℕ) (rest : List ℕ) → b ≡ 36 → IsEscape (escape_of rest) rest None → fault_of (b ∷ rest) ≡ Some BadEscape
dollar-none b rest d h = ap (λ x. fault_of (x ∷ rest)) d ∙ no-escape (escape_of rest) rest h

escape-some : (meant : Option EscapeValue) (rest : List ℕ) (found : Piece × Bor (List ℕ)) → IsEscape meant rest (Some found) → seen_piece found.0 ≢ []
escape-some None rest found h = absurd h
escape-some (Some escape) rest found h = λ e. by escape.piece (sym h.0 ∙ e)
  where
    by : (p : PieceValue) → p ∷ [] ≢ []
    by p e = cc

pub dollar-some : (rest : List ℕ) (found : Piece × Bor (List ℕ)) → IsEscape (escape_of rest) rest (Some found) → seen_piece found.0 ≢ []
dollar-some rest found h = escape-some (escape_of rest) rest found h

-- the bytes before the first `$`
one-more : (k : ℕ) → 1 + k ≡ suc k
one-more k = omega arith

plain-step : (b : ℕ) (bs : List ℕ) (t n : Bool) → fault_of (b ∷ bs) ≡ None → (fault_of bs ≡ None → fault_of (drop (position_or_len (is_byte 36) bs) bs) ≡ None)
    → (if t then fault_after (escape_of bs) (λ taken. text_fault taken bs) else (if n then Some Syntax else fault_of bs)) ≡ None
    → fault_of (drop (cond (not t) (1 + position_or_len (is_byte 36) bs) 0) (b ∷ bs)) ≡ None
plain-step b bs true n whole rest h = whole
plain-step b bs false true whole rest h = cc
plain-step b bs false false whole rest h = ap (λ k. fault_of (drop k (b ∷ bs))) (one-more (position_or_len (is_byte 36) bs)) ∙ rest h

pub plain-fault : (text : List ℕ) → fault_of text ≡ None → fault_of (drop (position_or_len (is_byte 36) text) text) ≡ None
plain-fault [] h = h
plain-fault (b ∷ bs) h = plain-step b bs (b == 36) (is_no_text b) h (plain-fault bs) h

pieces-step : (b : ℕ) (bs : List ℕ) (t : Bool) → (b == 36) ≡ t
    → pieces_of bs ≡ map Byte (take (position_or_len (is_byte 36) bs) bs) ++ pieces_of (drop (position_or_len (is_byte 36) bs) bs)
    → pieces_of (b ∷ bs)
    ≡ map Byte (take (cond (not t) (1 + position_or_len (is_byte 36) bs) 0) (b ∷ bs)) ++ pieces_of (drop (cond (not t) (1 + position_or_len (is_byte 36) bs) 0) (b ∷ bs))
pieces-step b bs true e rest = refl
pieces-step b bs false e rest =
    ap (λ t. if t then pieces_after (escape_of bs) (λ taken. pieces_from taken bs) else Byte b ∷ pieces_of bs) e
    ∙ ap (λ pieces. Byte b ∷ pieces) rest
    ∙ sym (ap (λ k. map Byte (take k (b ∷ bs)) ++ pieces_of (drop k (b ∷ bs))) (one-more (position_or_len (is_byte 36) bs)))

pub plain-pieces : (text : List ℕ) → pieces_of text ≡ map Byte (take (position_or_len (is_byte 36) text) text) ++ pieces_of (drop (position_or_len (is_byte 36) text) text)
plain-pieces [] = refl
plain-pieces (b ∷ bs) = pieces-step b bs (b == 36) refl (plain-pieces bs)

pub plain-some : (b : ℕ) (bs : List ℕ) → (b == 36) ≡ false → map Byte (take (position_or_len (is_byte 36) (b ∷ bs)) (b ∷ bs)) ≢ []
plain-some b bs e = λ h.
    let some : map Byte (take (1 + position_or_len (is_byte 36) bs) (b ∷ bs)) ≡ [] =
    sym (ap (λ t. map Byte (take (cond (not t) (1 + position_or_len (is_byte 36) bs) 0) (b ∷ bs))) e) ∙ h in
    let more : map Byte (take (suc (position_or_len (is_byte 36) bs)) (b ∷ bs)) ≡ [] =
    sym (ap (λ k. map Byte (take k (b ∷ bs))) (one-more (position_or_len (is_byte 36) bs))) ∙ some in
    let none : Byte b ∷ map Byte (take (position_or_len (is_byte 36) bs) bs) ≡ [] = more in
    cc

after-some : (meant : Option EscapeValue) (rest : List ℕ) → fault_after meant (λ taken. text_fault taken rest) ≡ None → pieces_after meant (λ taken. pieces_from taken rest) ≢ []
after-some None rest f h = cc
after-some (Some escape) rest f h = cc

-- a text that has bytes has pieces
pub pieces-some : (b : ℕ) (bs : List ℕ) → fault_of (b ∷ bs) ≡ None → pieces_of (b ∷ bs) ≢ []
pieces-some b bs f = by (b == 36) refl f
  where
    by : (t : Bool) → (b == 36) ≡ t → (if t then fault_after (escape_of bs) (λ taken. text_fault taken bs) else (if is_no_text b then Some Syntax else fault_of bs)) ≡ None
        → (if t then pieces_after (escape_of bs) (λ taken. pieces_from taken bs) else Byte b ∷ pieces_of bs) ≢ []
    by true e h = after-some (escape_of bs) bs h
    by false e h = λ n. cc

pub is_empty-pieces : (raw : List ℕ) → fault_of raw ≡ None → (length raw == 0) ≡ is_empty (pieces_of raw)
is_empty-pieces [] f = refl
is_empty-pieces (b ∷ bs) f = ne_eqb (suc (length bs)) 0 (λ e. cc) ∙ sym (some (pieces_of (b ∷ bs)) (pieces-some b bs f))
  where
    some : (pieces : List PieceValue) → pieces ≢ [] → is_empty pieces ≡ false
    some [] h = absurd (h refl)
    some (p ∷ ps) h = refl

pub drop-more : (n x : ℕ) (xs rest : List ℕ) → drop n xs ≡ x ∷ rest → drop (suc n) xs ≡ rest
drop-more zero x [] rest h = cc
drop-more (suc n) x [] rest h = cc
drop-more zero x (y ∷ ys) rest h = cc
drop-more (suc n) x (y ∷ ys) rest h = drop-more n x ys rest h

none-length : (xs : List ℕ) → (length xs == 0) ≡ false → is_empty xs ≡ false
none-length [] h = h
none-length (x ∷ xs) h = refl

-- `{name}`
pub braced-escape : (text : List ℕ) (name rest : Bor (List ℕ)) (b : ℕ) → name.now ≡ take_while is_in_name text → after is_in_name text ≡ b ∷ rest.now → b ≡ 125
    → (length name.now == 0) ≡ false → IsEscape (braced (take_while is_in_name text) (after is_in_name text)) (123 ∷ text) (Some (code.Variable name, rest))
braced-escape text name rest b named left closed some =
    let n = prefix_len is_in_name text in
    let found = take_while is_in_name text in
    let escape : EscapeValue = record { piece = Variable found; taken = length found + 2 } in
    let P : Option EscapeValue → Type 0 = λ meant. IsEscape meant (123 ∷ text) (Some (code.Variable name, rest)) in
    let is : braced found (after is_in_name text) ≡ Some escape =
    ap (braced found) (left ∙ ap (λ x. x ∷ rest.now) closed)
    ∙ ap (λ t. if t || false then None else Some escape) (sym (ap is_empty named) ∙ none-length name.now some) in
    let two : length found + 2 ≡ suc (suc n) = ap (λ k. k + 2) (length-prefix_len is_in_name text) ∙ plus-two n in
    subst P (sym is) (ap (λ x. Variable x ∷ []) named, sym (ap (λ k. drop k (123 ∷ text)) two ∙ drop-more n b text rest.now left))
  where
    plus-two : (k : ℕ) → k + 2 ≡ suc (suc k)
    plus-two k = omega arith
