-- Lines read from the left.
use Rattle.std.proofs.Common.{◌≡◌, ℕ, zero, suc, ◌-◌, ◌+◌, ◌<◌, ◌≤◌, ◌==◌, Bool, true, false, not, ◌&&◌, List, [], ◌∷◌, ◌++◌, take, drop, length, refl, sym, ap, ◌∙◌, arith, if◌then◌else◌, cond, append_assoc}
use Rattle.std.specs.List.{slice_split, onto_first, position_or_len, IsFirstAndRest}
use Rattle.std.proofs.lemmas.List.Splits.{slice_split_first, slice_split_none}
use Rattle.std.proofs.lemmas.List.Sums.{fails_before_first}
use Rattle.std.proofs.lemmas.Grind.{common_steps}
use Rattle.std.specs.Borrow.{Bor}
use Rattle.rev_syntax.specs.Joining.{texts}
use Rattle.rev_syntax.specs.Bytes.{is_byte, is_empty}
use Rattle.rev_syntax.specs.Lines.{LineValue, without_return, without_last, lines_of_pieces, file_lines, ends_alone, before_first, joined, lines_from}

pub without_return-return : (xs : List ℕ) (b : ℕ) → (b == 13) ≡ true → without_return (xs ++ b ∷ []) ≡ xs
without_return-return [] b h = ap (λ t. if t then [] else b ∷ []) h
without_return-return (x ∷ []) b h = ap (λ t. x ∷ (if t then [] else b ∷ [])) h
without_return-return (x ∷ y ∷ ys) b h = ap (λ t. x ∷ t) (without_return-return (y ∷ ys) b h)

pub without_return-other : (xs : List ℕ) (b : ℕ) → (b == 13) ≡ false → without_return (xs ++ b ∷ []) ≡ xs ++ b ∷ []
without_return-other [] b h = ap (λ t. if t then [] else b ∷ []) h
without_return-other (x ∷ []) b h = ap (λ t. x ∷ (if t then [] else b ∷ [])) h
without_return-other (x ∷ y ∷ ys) b h = ap (λ t. x ∷ t) (without_return-other (y ∷ ys) b h)

pub without_last-push : (xs : List ℕ) (b : ℕ) → without_last (xs ++ b ∷ []) ≡ xs
without_last-push [] b = refl
without_last-push (x ∷ []) b = refl
without_last-push (x ∷ y ∷ ys) b = ap (λ t. x ∷ t) (without_last-push (y ∷ ys) b)

-- whether the rest of a line ends in a `$` alone, after a `$` that takes a byte along or not
abbrev pub alone_after : Bool → List ℕ → Bool
alone_after false text = ends_alone text
alone_after true [] = true
alone_after true (b ∷ bs) = ends_alone bs

pub alone_after-step : (takes : Bool) (b : ℕ) (bs : List ℕ) → alone_after (not takes && b == 36) bs ≡ alone_after takes (b ∷ bs)
alone_after-step true b bs = refl
alone_after-step false b [] = elim (b == 36) as (λ t. alone_after t [] ≡ t) [ true ↦ refl | false ↦ refl ]
alone_after-step false b (c ∷ cs) =
    elim (b == 36) as (λ t. alone_after t (c ∷ cs) ≡ (if t then ends_alone cs else ends_alone (c ∷ cs))) [ true ↦ refl | false ↦ refl ]

pub texts-push : (xs : List (Bor (List ℕ))) (x : Bor (List ℕ)) → texts (xs ++ x ∷ []) ≡ texts xs ++ x.now ∷ []
texts-push [] x = refl
texts-push (y ∷ ys) x = ap (λ ts. y.now ∷ ts) (texts-push ys x)

-- what a slice from place n on is
pub tail-none : (xs : List ℕ) (n : ℕ) → length (take (length xs - n) (drop n xs)) ≡ 0 → length xs ≤ n
tail-none xs n h = grind (arith, common_steps)

tail-all : (n : ℕ) (xs : List ℕ) → take (length xs - n) (drop n xs) ≡ drop n xs
tail-all n xs = grind (arith, common_steps)

pub tail-some : (xs after : List ℕ) (n x : ℕ) → IsFirstAndRest (take (length xs - n) (drop n xs)) x after → drop n xs ≡ x ∷ after
tail-some xs after n x h = sym (tail-all n xs) ∙ h.0

sum-suc : (n : ℕ) → suc n + 1 ≡ suc (n + 1)
sum-suc n = omega arith

tail-more : (xs after : List ℕ) (n x : ℕ) → drop n xs ≡ x ∷ after → drop (n + 1) xs ≡ after
tail-more [] after zero x h = cc
tail-more [] after (suc n) x h = cc
tail-more (y ∷ ys) after zero x h = cc
tail-more (y ∷ ys) after (suc n) x h = ap (λ k. drop k (y ∷ ys)) (sum-suc n) ∙ tail-more ys after n x h

tail-within : (xs after : List ℕ) (n x : ℕ) → drop n xs ≡ x ∷ after → n < length xs
tail-within [] after zero x h = cc
tail-within [] after (suc n) x h = cc
tail-within (y ∷ ys) after zero x h = omega arith
tail-within (y ∷ ys) after (suc n) x h = omega (arith, tail-within ys after n x h)

none-length : (xs : List ℕ) → (length xs == 0) ≡ false → is_empty xs ≡ false
none-length [] h = h
none-length (x ∷ xs) h = refl

-- the last line of a file that has no line feed at its end
pub file_lines-last : (p : List ℕ) → (length p == 0) ≡ false → length p ≤ position_or_len (is_byte 10) p → file_lines p ≡ p ∷ []
file_lines-last p some h =
    ap lines_of_pieces (slice_split_none (is_byte 10) p (λ k d below. fails_before_first (is_byte 10) p k d (omega arith)))
    ∙ ap (λ t. if t then [] else p ∷ []) (none-length p some)

onto_first-some : (b : ℕ) (ps : List (List ℕ)) → is_empty (onto_first b ps) ≡ false
onto_first-some b [] = refl
onto_first-some b (p ∷ ps) = refl

split-some : (test : ℕ → Bool) (q : List ℕ) → is_empty (slice_split test q) ≡ false
split-some test [] = refl
split-some test (b ∷ bs) =
    elim (test b) as (λ t. is_empty (cond t ([] ∷ slice_split test bs) (onto_first b (slice_split test bs))) ≡ false) [
      | true ↦ refl
      | false ↦ onto_first-some b (slice_split test bs)
    ]

pieces-more : (piece : List ℕ) (ps : List (List ℕ)) → is_empty ps ≡ false → lines_of_pieces (piece ∷ ps) ≡ without_return piece ∷ lines_of_pieces ps
pieces-more piece [] h = cc
pieces-more piece (p ∷ ps) h = refl

-- a line that has one
pub file_lines-more : (p after : List ℕ) (n x : ℕ) → n ≡ position_or_len (is_byte 10) p → drop n p ≡ x ∷ after → file_lines p ≡ without_return (take n p) ∷ file_lines after
file_lines-more p after n x e h =
    let within : position_or_len (is_byte 10) p < length p = omega (arith, tail-within p after n x h) in
    ap lines_of_pieces (slice_split_first (is_byte 10) p 0 within)
    ∙ pieces-more _ _ (split-some (is_byte 10) (drop (position_or_len (is_byte 10) p + 1) p))
    ∙ ap (λ k. without_return (take k p) ∷ file_lines (drop (k + 1) p)) (sym e)
    ∙ ap (λ t. without_return (take n p) ∷ file_lines t) (tail-more p after n x h)

before_first-twice : (k m : ℕ) (t u : List ℕ) (ls : List LineValue) → before_first k (t ++ u) ls ≡ before_first k t (before_first m u ls)
before_first-twice k m t u [] = refl
before_first-twice k m t u (l ∷ ls) = ap (λ text. record { number = k; text = text; ended = l.ended } ∷ ls) (append_assoc t u l.text)

-- a line that goes on in the next, and one that ends
pub goes_on : (k m n : ℕ) (t text : List ℕ) (more : List (List ℕ)) → ends_alone text ≡ true
    → before_first k (t ++ without_last text) (lines_from true n more) ≡ before_first k t (joined m text (lines_from (ends_alone text) n more))
goes_on k m n t text more h =
    before_first-twice k m t (without_last text) (lines_from true n more)
    ∙ sym (ap (λ b. before_first k t (if b then before_first m (without_last text) (lines_from b n more) else record { number = m; text = text; ended = true } ∷ lines_from b n more)) h)

pub ends_here : (k m n : ℕ) (t text : List ℕ) (more : List (List ℕ)) → ends_alone text ≡ false
    → record { number = k; text = t ++ text; ended = true } ∷ lines_from false n more ≡ before_first k t (joined m text (lines_from (ends_alone text) n more))
ends_here k m n t text more h =
    sym (ap (λ b. before_first k t (if b then before_first m (without_last text) (lines_from b n more) else record { number = m; text = text; ended = true } ∷ lines_from b n more)) h)

before_nothing : (k : ℕ) (u : List ℕ) (ls : List LineValue) → before_first k [] (before_first k u ls) ≡ before_first k u ls
before_nothing k u [] = refl
before_nothing k u (l ∷ ls) = refl

-- a line that begins
pub begins : (k : ℕ) (text : List ℕ) (ls : List LineValue) → before_first k [] (joined k text ls) ≡ joined k text ls
begins k text ls =
    elim (ends_alone text) as (λ b. before_first k [] (if b then before_first k (without_last text) ls else record { number = k; text = text; ended = true } ∷ ls)
    ≡ (if b then before_first k (without_last text) ls else record { number = k; text = text; ended = true } ∷ ls)) [
      | true ↦ before_nothing k (without_last text) ls
      | false ↦ refl
    ]
