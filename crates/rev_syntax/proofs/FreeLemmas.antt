-- Up to the first byte that may be an end or is a `$`, no byte is taken along.
use Rattle.std.proofs.Common.{◌≡◌, ℕ, ◌+◌, suc, Bool, true, false, not, ◌==◌, cond, ◌||◌, List, [], ◌∷◌, length, drop, Option, Some, None, unwrap_or, refl, sym, ap, ◌∙◌, true≢false, arith, if◌then◌else◌}
use Rattle.std.specs.List.{position_or_len}
use Rattle.std.proofs.lemmas.List.Sums.{position_or_len_is}
use Rattle.memchr.specs.Find.{IsFirstByte, is_byte2, is_byte3}
use Rattle.rev_syntax.specs.declared.bytes.End.{End}
use Rattle.rev_syntax.specs.declared.bytes.End.TheVariants.{SpaceEnd, ListEnd}
use Rattle.rev_syntax.specs.Ends.{ends_at, free_len}

-- a byte that fails the test is no end and no `$`
abbrev pub IsPlain : End → (ℕ → Bool) → Type 0
IsPlain end test = (b : ℕ) → test b ≡ false → (ends_at end b ≡ false) × ((b == 36) ≡ false)

pub free-plain : (end : End) (test : ℕ → Bool) → IsPlain end test → (text : List ℕ)
    → free_len end false text ≡ position_or_len test text + free_len end false (drop (position_or_len test text) text)
free-plain end test plain [] = refl
free-plain end test plain (b ∷ bs) = by (free-plain end test plain bs) (test b) refl
  where
    len : Bool → ℕ
    len t = cond (not t) (1 + position_or_len test bs) 0

    by : free_len end false bs ≡ position_or_len test bs + free_len end false (drop (position_or_len test bs) bs) → (t : Bool) → test b ≡ t
        → free_len end false (b ∷ bs) ≡ position_or_len test (b ∷ bs) + free_len end false (drop (position_or_len test (b ∷ bs)) (b ∷ bs))
    by rest true e =
        let whole = free_len end false (b ∷ bs) in
        let none : whole ≡ 0 + whole = omega arith in
        none ∙ sym (ap (λ t. len t + free_len end false (drop (len t) (b ∷ bs))) e)
    by rest false e =
        let apart = plain b e in
        let p = position_or_len test bs in
        let q = free_len end false (drop p bs) in
        let shift : suc (p + q) ≡ suc p + q = omega arith in
        let one : suc p ≡ 1 + p = omega arith in
        ap (λ t. if t then 0 else suc (free_len end (b == 36) bs)) apart.0
        ∙ ap (λ t. suc (free_len end t bs)) apart.1
        ∙ ap suc rest
        ∙ shift
        ∙ ap (λ n. n + free_len end false (drop n (b ∷ bs))) one
        ∙ sym (ap (λ t. len t + free_len end false (drop (len t) (b ∷ bs))) e)

neither : (a b : Bool) → (a || b) ≡ false → (a ≡ false) × (b ≡ false)
neither true b h = absurd (true≢false h)
neither false b h = (refl, h)

not_true : (b : Bool) → (b ≡ true → ⊥) → b ≡ false
not_true true h = absurd (h (λ _. true))
not_true false h = λ _. false

-- what a search found, or the length
pub plain-place : (end : End) (test : ℕ → Bool) → IsPlain end test → (text : List ℕ) (found : Option ℕ) → IsFirstByte test text found
    → free_len end false text ≡ unwrap_or found (length text) + free_len end false (drop (unwrap_or found (length text)) text)
plain-place end test plain text (Some k) h =
    free-plain end test plain text
    ∙ ap (λ n. n + free_len end false (drop n text)) (position_or_len_is test text k 0 (omega (arith, h.0.high)) (λ j l. not_true _ (h.0.before j (omega arith) l)) (λ _. h.1))
plain-place end test plain text None h =
    free-plain end test plain text
    ∙ ap (λ n. n + free_len end false (drop n text)) (position_or_len_is test text (length text) 0 (omega arith) (λ j l. not_true _ (h j (omega arith) l)) (λ l. absurd (omega arith)))

-- the tests of the searches
pub spaces-plain : IsPlain SpaceEnd (is_byte2 32 36)
spaces-plain b h = neither (b == 32) (b == 36) h

pub lists-plain : IsPlain ListEnd (is_byte3 58 124 36)
lists-plain b h = neither (b == 58 || b == 124) (b == 36) h
