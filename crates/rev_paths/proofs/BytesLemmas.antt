-- Two texts compared by their words.
use Rattle.std.proofs.Common.{◌≡◌, ◌≢◌, ◌==◌, ℕ, ◌+◌, ◌-◌, ◌<◌, ◌≤◌, Bool, List, ◌++◌, length, get_or, take, drop, true, false, bytes_eq, refl, sym, ap, subst, ◌∙◌, arith, eq-eqb, true≢false}
use Rattle.std.specs.Int.{w64, from_le_bytes, to_le_bytes}
use Rattle.std.proofs.lemmas.Bool.{eqb-true}
use Rattle.std.proofs.lemmas.List.{length-drop, drop-drop, take_all, take-append-drop}
use Rattle.std.proofs.lemmas.Nat.{le_bytes_8}
use Rattle.std.proofs.lemmas.Slice.Eq.{bytes_eq-Decides}

-- texts that differ
pub differ : (a b : List ℕ) → a ≢ b → bytes_eq a b ≡ false
differ a b other = by (bytes_eq a b) refl
  where
    by : (t : Bool) → bytes_eq a b ≡ t → bytes_eq a b ≡ false
    by true e = absurd (other ((bytes_eq-Decides a b).0 e))
    by false e = e

pub agree : (a b : List ℕ) → a ≡ b → bytes_eq a b ≡ true
agree a b = (bytes_eq-Decides a b).1

-- The ends of two texts of one length that are still to be compared: the texts are the same exactly where these are.
pub record AreLeft (a b x y : List ℕ) : Type 0 where
  pub forward : a ≡ b → x ≡ y
  pub back : x ≡ y → a ≡ b
  pub within : length x ≤ length a
  pub each : length x ≡ length y
  pub x_is : x ≡ drop (length a - length x) a
  pub y_is : y ≡ drop (length a - length x) b

pub left-all : (a b : List ℕ) → length a ≡ length b → AreLeft a b a b
left-all a b long = record {
  forward = λ e. e;
  back = λ e. e;
  within = omega arith;
  each = long;
  x_is = let none : length a - length a ≡ 0 = omega arith in sym (ap (λ n. drop n a) none);
  y_is = let none : length a - length a ≡ 0 = omega arith in sym (ap (λ n. drop n b) none);
}

-- eight bytes more are the same
less : (a b x y : List ℕ) → 8 ≤ length x → take 8 x ≡ take 8 y → AreLeft a b x y → AreLeft a b (drop 8 x) (drop 8 y)
less a b x y long same h =
    let shorter = length-drop 8 x in
    let other = length-drop 8 y in
    let within = h.within in
    let each = h.each in
    let further : length a - length (drop 8 x) ≡ length a - length x + 8 = omega (arith, shorter, within, long) in
    record {
      forward = λ e. ap (drop 8) (h.forward e);
      back = λ e. h.back (sym (take-append-drop 8 x) ∙ ap (λ t. t ++ drop 8 x) same ∙ ap (λ t. take 8 y ++ t) e ∙ take-append-drop 8 y);
      within = omega (arith, shorter, within);
      each = shorter ∙ ap (λ n. n - 8) each ∙ sym other;
      x_is = ap (drop 8) h.x_is ∙ drop-drop 8 (length a - length x) a ∙ sym (ap (λ n. drop n a) further);
      y_is = ap (drop 8) h.y_is ∙ drop-drop 8 (length a - length x) b ∙ sym (ap (λ n. drop n b) further);
    }

-- the first eight bytes of what is left, and what is behind them
pub left-less : (a b x y p q xs ys : List ℕ) (r : Bool) → p ≡ take 8 x → q ≡ take 8 y → xs ≡ drop 8 x → ys ≡ drop 8 y → length xs + 8 ≡ length x
    → r ≡ bytes_eq p q → r ≡ true → AreLeft a b x y → AreLeft a b xs ys
left-less a b x y p q xs ys r front other behind also long tested same h =
    let words : p ≡ q = (bytes_eq-Decides p q).0 (sym tested ∙ same) in
    subst (λ t. AreLeft a b xs t) (sym also) (subst (λ t. AreLeft a b t (drop 8 y)) (sym behind) (less a b x y (omega (arith, long)) (sym front ∙ words ∙ other) h))

-- these eight bytes differ
pub left-differs : (a b x y p q : List ℕ) (r : Bool) → p ≡ take 8 x → q ≡ take 8 y → r ≡ bytes_eq p q → r ≡ false → AreLeft a b x y → false ≡ bytes_eq a b
left-differs a b x y p q r front other tested unlike h =
    sym (differ a b (λ e. true≢false (sym (agree p q (front ∙ ap (take 8) (h.forward e) ∙ sym other)) ∙ sym tested ∙ unlike)))

-- what is left is part of the last eight bytes, which are the same
pub left-none : (a b x y : List ℕ) → 8 ≤ length a → length x < 8 → drop (length a - 8) a ≡ drop (length a - 8) b → AreLeft a b x y → true ≡ bytes_eq a b
left-none a b x y long few ends h =
    let within = h.within in
    let at : length a - length x ≡ length a - 8 + (8 - length x) = omega (arith, within, long, few) in
    let part : (t : List ℕ) → drop (length a - length x) t ≡ drop (8 - length x) (drop (length a - 8) t) =
    λ t. ap (λ n. drop n t) at ∙ sym (drop-drop (8 - length x) (length a - 8) t) in
    sym (agree a b (h.back (h.x_is ∙ part a ∙ ap (drop (8 - length x)) ends ∙ sym (part b) ∙ sym h.y_is)))

-- words of eight bytes are the same where their numbers are
pub words-same : (a b : List ℕ) (m n : ℕ) (r : Bool) → length a ≡ 8 → length b ≡ 8 → ((i : ℕ) → get_or a i 0 < 256) → ((i : ℕ) → get_or b i 0 < 256)
    → m ≡ from_le_bytes w64 a → n ≡ from_le_bytes w64 b → r ≡ (m == n) → r ≡ bytes_eq a b
words-same a b m n r long also fits other is same tested = by (m == n) refl
  where
    by : (t : Bool) → (m == n) ≡ t → r ≡ bytes_eq a b
    by true e =
        let one : m ≡ n = eqb-true m n e in
        tested ∙ e ∙ sym (agree a b (sym (le_bytes_8 a m long fits is) ∙ ap (to_le_bytes w64) one ∙ le_bytes_8 b n also other same))
    by false e =
        tested ∙ e ∙ sym (differ a b (λ s. true≢false (sym (eq-eqb m n (is ∙ ap (from_le_bytes w64) s ∙ sym same)) ∙ e)))

-- texts of one length, of which all bytes are the same
pub same-all : (a b : List ℕ) (n : ℕ) → length a ≤ n → length a ≡ length b → take n a ≡ take n b → bytes_eq a b ≡ true
same-all a b n all long same = agree a b (sym (take_all n a all) ∙ same ∙ take_all n b (omega (arith, all, long)))

-- the last eight bytes are the same
pub same-ends : (a b p q : List ℕ) (r : Bool) → length a ≡ length b → p ≡ drop (length a - 8) a → q ≡ drop (length b - 8) b → r ≡ bytes_eq p q → r ≡ true
    → drop (length a - 8) a ≡ drop (length a - 8) b
same-ends a b p q r long end other tested same =
    sym end ∙ (bytes_eq-Decides p q).0 (sym tested ∙ same) ∙ other ∙ sym (ap (λ n. drop (n - 8) b) long)
