-- The first separator of a text.
use Rattle.std.proofs.Common.{◌≡◌, ℕ, Bool, true, false, List, length, Some, None, arith}
use Rattle.std.specs.List.{position_or_len}
use Rattle.std.proofs.lemmas.List.Sums.{position_or_len_is}
use Rattle.memchr.specs.Find.{IsFirstByte}
use Rattle.rev_syntax.specs.Bytes.{is_byte}

not_true : (b : Bool) → (b ≡ true → ⊥) → b ≡ false
not_true true h = absurd (h (λ _. true))
not_true false h = λ _. false

pub piece-found : (b : ℕ) (text : List ℕ) (k : ℕ) → IsFirstByte (is_byte b) text (Some k) → position_or_len (is_byte b) text ≡ k
piece-found b text k h = position_or_len_is (is_byte b) text k 0 (omega (arith, h.0.high)) (λ j l. not_true _ (h.0.before j (omega arith) l)) (λ _. h.1)

pub piece-none : (b : ℕ) (text : List ℕ) → IsFirstByte (is_byte b) text None → position_or_len (is_byte b) text ≡ length text
piece-none b text h = position_or_len_is (is_byte b) text (length text) 0 (omega arith) (λ j l. not_true _ (h j (omega arith) l)) (λ l. absurd (omega arith))
