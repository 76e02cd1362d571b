-- The words of a text.
use Rattle.std.proofs.Common.{◌≡◌, ◌≢◌, ℕ, zero, suc, ◌+◌, ◌<◌, ◌≤◌, ◌==◌, Bool, true, false, ◌&&◌, ◌||◌, List, [], ◌∷◌, ◌++◌, length, get_or, drop, Option, Some, None, bytes_eq, refl, sym, ap, ◌∙◌, arith, add-one, Bor, if◌then◌else◌}
use Rattle.std.specs.List.{cons_option, filter_map, list_any}
use Rattle.std.proofs.lemmas.Bool.{ne_eqb}
use Rattle.std.proofs.lemmas.List.{get_or_default}
use Rattle.std.proofs.lemmas.Slice.Eq.{bytes_eq-Decides}
use Rattle.rev_paths.specs.Kept.{texts}
use Rattle.rev_named.specs.Words.{are_dots, undotted, with_word, word_in}

dots-dot : (xs : List ℕ) → are_dots (xs ++ 46 ∷ []) ≡ are_dots xs
dots-dot [] = refl
dots-dot (x ∷ xs) = ap (λ b. (x == 46) && b) (dots-dot xs)

and-false : (b : Bool) → (b && false) ≡ false
and-false true = refl
and-false false = refl

dots-other : (xs : List ℕ) (b : ℕ) → (b == 46) ≡ false → are_dots (xs ++ b ∷ []) ≡ false
dots-other [] b e = ap (λ c. c && true) e
dots-other (x ∷ xs) b e = ap (λ c. (x == 46) && c) (dots-other xs b e) ∙ and-false (x == 46)

undotted-dot : (xs : List ℕ) → undotted (xs ++ 46 ∷ []) ≡ undotted xs
undotted-dot [] = refl
undotted-dot (x ∷ xs) =
    ap (λ b. if b then [] else x ∷ undotted (xs ++ 46 ∷ [])) (dots-dot (x ∷ xs))
    ∙ ap (λ (ys : List ℕ). if are_dots (x ∷ xs) then [] else x ∷ ys) (undotted-dot xs)

undotted-other : (xs : List ℕ) (b : ℕ) → (b == 46) ≡ false → undotted (xs ++ b ∷ []) ≡ xs ++ b ∷ []
undotted-other [] b e = ap (λ c. if c && true then [] else b ∷ []) e
undotted-other (x ∷ xs) b e =
    ap (λ c. if c then [] else x ∷ undotted (xs ++ b ∷ [])) (dots-other (x ∷ xs) b e)
    ∙ ap (λ (ys : List ℕ). x ∷ ys) (undotted-other xs b e)

-- a dot at the end, and another byte there
pub one-dot-less : (rest before piece : List ℕ) (last : ℕ) → rest ≡ before ++ last ∷ [] → last ≡ 46 → undotted rest ≡ undotted piece → undotted before ≡ undotted piece
one-dot-less rest before piece last is dot h =
    sym (ap undotted is ∙ ap (λ b. undotted (before ++ b ∷ [])) dot ∙ undotted-dot before) ∙ h

pub no-dot-left : (rest before piece : List ℕ) (last : ℕ) → rest ≡ before ++ last ∷ [] → last ≢ 46 → undotted rest ≡ undotted piece → rest ≡ undotted piece
no-dot-left rest before piece last is other h =
    is ∙ sym (undotted-other before last (ne_eqb last 46 other)) ∙ sym (ap undotted is) ∙ h

-- MEMBERS
pub eq-flips : (a b : List ℕ) → bytes_eq a b ≡ bytes_eq b a
eq-flips a b = by (bytes_eq a b) refl (bytes_eq b a) refl
  where
    by : (p : Bool) → bytes_eq a b ≡ p → (q : Bool) → bytes_eq b a ≡ q → p ≡ q
    by true h true k = refl
    by false h false k = refl
    by true h false k = sym ((bytes_eq-Decides b a).1 (sym ((bytes_eq-Decides a b).0 h))) ∙ k
    by false h true k = sym h ∙ (bytes_eq-Decides a b).1 (sym ((bytes_eq-Decides b a).0 k))

-- what a set has, with what is still to be added, where one more is added, or none
pub one-added : (old new : Bool) (w n : List ℕ) (left : Bool) → new ≡ (if bytes_eq n w then true else old) → (old || (bytes_eq w n || left)) ≡ (new || left)
one-added old new w n left is = by (bytes_eq n w) old left is (eq-flips w n)
  where
    by : (b old left : Bool) → new ≡ (if b then true else old) → bytes_eq w n ≡ b → (old || (bytes_eq w n || left)) ≡ (new || left)
    by true true left is e = ap (λ x. x || left) (sym is)
    by true false left is e = ap (λ x. x || left) e ∙ ap (λ x. x || left) (sym is)
    by false true left is e = ap (λ x. x || left) (sym is)
    by false false left is e = ap (λ x. x || left) e ∙ ap (λ x. x || left) (sym is)

-- ONE PIECE AFTER THE OTHER
from-texts : (xs : List (Bor (List ℕ))) (i : ℕ) (x : Bor (List ℕ)) → i < length xs → x ≡ get_or xs i x → drop i (texts xs) ≡ x.now ∷ drop (suc i) (texts xs)
from-texts [] i x within is = absurd (omega (arith, within))
from-texts (y ∷ ys) zero x within is = ap (λ (z : Bor (List ℕ)). z.now ∷ texts ys) (sym is)
from-texts (y ∷ ys) (suc i) x within is = from-texts ys i x (omega (arith, within)) is

-- the words of the pieces that are left, where one piece is taken
abbrev left-words : List (Bor (List ℕ)) → ℕ → List ℕ → Bool
left-words xs i word = list_any (bytes_eq word) (filter_map word_in (drop i (texts xs)))

one-taken : (xs : List (Bor (List ℕ))) (i : ℕ) (x : Bor (List ℕ)) (word : List ℕ) → i < length xs → x ≡ get_or xs i x
    → left-words xs i word ≡ list_any (bytes_eq word) (cons_option (word_in x.now) (filter_map word_in (drop (i + 1) (texts xs))))
one-taken xs i x word within is =
    ap (λ (ps : List (List ℕ)). list_any (bytes_eq word) (filter_map word_in ps)) (from-texts xs i x within is)
    ∙ ap (λ j. list_any (bytes_eq word) (cons_option (word_in x.now) (filter_map word_in (drop j (texts xs))))) (sym (add-one i))

pub more-taken : (xs : List (Bor (List ℕ))) (i : ℕ) (x : Bor (List ℕ)) (word : List ℕ) (old new whole : Bool) → i < length xs → x ≡ get_or xs i x → new ≡ with_word (word_in x.now) word old
    → (old || left-words xs i word) ≡ whole → (new || left-words xs (i + 1) word) ≡ whole
more-taken xs i x word old new whole within is added before = by (word_in x.now) refl added
  where
    by : (o : Option (List ℕ)) → word_in x.now ≡ o → new ≡ with_word o word old → (new || left-words xs (i + 1) word) ≡ whole
    by None named added =
        ap (λ b. b || left-words xs (i + 1) word) added
        ∙ ap (λ b. old || b) (sym (one-taken xs i x word within is ∙ ap (λ o. list_any (bytes_eq word) (cons_option o (filter_map word_in (drop (i + 1) (texts xs))))) named))
        ∙ before
    by (Some n) named added =
        sym (one-added old new word n (left-words xs (i + 1) word) added)
        ∙ ap (λ b. old || b) (sym (one-taken xs i x word within is ∙ ap (λ o. list_any (bytes_eq word) (cons_option o (filter_map word_in (drop (i + 1) (texts xs))))) named))
        ∙ before

pub more-at : (xs : List (Bor (List ℕ))) (i : ℕ) (d : Bor (List ℕ)) (word : List ℕ) (old new whole : Bool) → i < length xs → new ≡ with_word (word_in (get_or xs i d).now) word old
    → (old || left-words xs i word) ≡ whole → (new || left-words xs (i + 1) word) ≡ whole
more-at xs i d word old new whole within added before =
    more-taken xs i (get_or xs i d) word old new whole within (get_or_default xs i d (get_or xs i d) within) added before

or-false : (b : Bool) → b ≡ (b || false)
or-false true = refl
or-false false = refl

past-texts : (xs : List (Bor (List ℕ))) (i : ℕ) → length xs ≤ i → drop i (texts xs) ≡ []
past-texts [] zero past = refl
past-texts [] (suc i) past = refl
past-texts (x ∷ xs) zero past = absurd (omega (arith, past))
past-texts (x ∷ xs) (suc i) past = past-texts xs i (omega (arith, past))

pub all-taken : (xs : List (Bor (List ℕ))) (i : ℕ) (word : List ℕ) (old whole : Bool) → length xs ≤ i → (old || left-words xs i word) ≡ whole → old ≡ whole
all-taken xs i word old whole past before =
    or-false old ∙ ap (λ (ps : List (List ℕ)). old || list_any (bytes_eq word) (filter_map word_in ps)) (sym (past-texts xs i past)) ∙ before
