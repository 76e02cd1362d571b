-- What the functions read is what the grammar says.
use Rattle.std.proofs.Common.{◌≡◌, ℕ, zero, suc, ◌+◌, ◌-◌, ◌/◌, ◌%◌, ◌==◌, Bool, true, false, not, ◌&&◌, ◌||◌, List, [], ◌∷◌, ◌++◌, length, refl, sym, ap, ◌∙◌, subst, arith, if◌then◌else◌, append_assoc, add-zero, zero-add}
use Rattle.std.specs.List.{flat_map}
use Rattle.std.proofs.lemmas.Bool.{eqb-true, eqb-false, ne_eqb}
use Rattle.rev_depfile.specs.declared.sign.Mark.{Mark}
use Rattle.rev_depfile.specs.declared.sign.Mark.TheVariants.{Byte, Colon, Blank, LineEnd}
use Rattle.rev_depfile.specs.declared.sign.Reading.{Reading}
use Rattle.rev_depfile.specs.declared.sign.Sign.{Sign}
use Rattle.rev_depfile.specs.Signs.{more, pieces, is_line_end_return, is_word_end, begins_line_feed, signs_of_piece, signs_of, read_signs, reading}
use Rattle.rev_depfile.specs.Grammar.{backslashes, IsLineEnd, LineFeed, ReturnLineFeed, is_plain, Says, Ends, Joins, Parts, Space, Tab, Hash, Inner, Separates, Itself, kept_at, ReadsAs, Rest, Run}
use Rattle.rev_depfile.proofs.SignLemmas.{more-backslash, more-return, more-byte, more-none}

-- the signs of a text behind n backslashes that begin at an offset; the text itself begins at i
abbrev signs_at : ℕ → ℕ → ℕ → List ℕ → List Sign
signs_at at n i text = flat_map signs_of_piece (more at n (pieces i text))

-- one backslash more
pub one-more : (n : ℕ) (text : List ℕ) → backslashes (suc n) ++ text ≡ backslashes n ++ 92 ∷ text
one-more zero text = refl
one-more (suc n) text = ap (λ t. 92 ∷ t) (one-more n text)

-- backslashes at the front are those that are waited with
waiting : (at n i : ℕ) (k : ℕ) (text : List ℕ) → signs_at at n i (backslashes k ++ text) ≡ signs_at at (n + k) (i + k) text
waiting at n i zero text = (λ j. signs_at at (sym (add-zero n) j) (sym (add-zero i) j) text)
waiting at n i (suc k) text =
    let more : n + 1 + k ≡ n + suc k = omega arith in
    let on : i + 1 + k ≡ i + suc k = omega arith in
    ap (flat_map signs_of_piece) (more-backslash at n i 92 (backslashes k ++ text) refl) ∙ waiting at (n + 1) (i + 1) k text ∙ (λ j. signs_at at (more j) (on j) text)

-- a byte that is no backslash
by-reading : (at n i b kept : ℕ) (mark : Mark) (text : List ℕ) → (b == 92) ≡ false → is_line_end_return b text ≡ false → reading n b text ≡ record { kept = kept; mark = mark }
    → signs_at at n i (b ∷ text) ≡ kept_at at kept ++ record { at = at; mark = mark } ∷ signs_at (i + 1) 0 (i + 1) text
by-reading at n i b kept mark text no_backslash no_return is =
    ap (flat_map signs_of_piece) (more-byte at n i b text no_backslash no_return)
    ∙ (λ j. read_signs at (is j) ++ flat_map signs_of_piece (sym (more-none (i + 1) text) j))
    ∙ append_assoc (kept_at at kept) (record { at = at; mark = mark } ∷ []) (signs_at (i + 1) 0 (i + 1) text)

reading-joins : (n : ℕ) (text : List ℕ) → reading (suc n) 10 text ≡ record { kept = n; mark = Blank }
reading-joins n text =
    let some : (suc n == 0) ≡ false = ne_eqb (suc n) 0 (λ h. omega arith) in
    let less : suc n - 1 ≡ n = omega arith in
    (λ j. if some j then record { kept = 0; mark = LineEnd } else record { kept = less j; mark = Blank })

reading-parts : (half : ℕ) (text : List ℕ) → reading (half + half) 32 text ≡ record { kept = half + half; mark = Blank }
reading-parts half text =
    let even : (half + half) % 2 ≡ 0 = omega arith in
    ap (λ m. if m == 1 then record { kept = (half + half) / 2; mark = Byte 32 } else record { kept = half + half; mark = Blank }) even

reading-space : (half : ℕ) (text : List ℕ) → reading (half + half + 1) 32 text ≡ record { kept = half; mark = Byte 32 }
reading-space half text =
    let odd : (half + half + 1) % 2 ≡ 1 = omega arith in
    let halved : (half + half + 1) / 2 ≡ half = omega arith in
    ap (λ m. if m == 1 then record { kept = (half + half + 1) / 2; mark = Byte 32 } else record { kept = half + half + 1; mark = Blank }) odd
    ∙ ap (λ m. record { kept = m; mark = Byte 32 }) halved

reading-inner : (n : ℕ) (text : List ℕ) → is_word_end text ≡ false → reading n 58 text ≡ record { kept = n - 1; mark = Byte 58 }
reading-inner n text h = ap (λ t. if t then record { kept = n; mark = Colon } else record { kept = n - 1; mark = Byte 58 }) h

reading-separates : (n : ℕ) (text : List ℕ) → is_word_end text ≡ true → reading n 58 text ≡ record { kept = n; mark = Colon }
reading-separates n text h = ap (λ t. if t then record { kept = n; mark = Colon } else record { kept = n - 1; mark = Byte 58 }) h

pub both : (a b : Bool) → (a && b) ≡ true → (a ≡ true) × (b ≡ true)
both true b h = (refl, h)
both false b h = cc

pub not-true : (b : Bool) → not b ≡ true → b ≡ false
not-true true h = cc
not-true false h = refl

pub neither : (a b : Bool) → (a || b) ≡ false → (a ≡ false) × (b ≡ false)
neither true b h = cc
neither false b h = (refl, h)

-- a byte that says nothing but itself
reading-itself : (n b : ℕ) (text : List ℕ) → is_plain b text ≡ true → (reading n b text ≡ record { kept = n; mark = Byte b }) × ((b == 92) ≡ false) × (is_line_end_return b text ≡ false)
reading-itself n b text h =
    let parts = both (not (b == 10 || (b == 32 || (b == 9 || (b == 35 || (b == 58 || b == 92)))))) (not (is_line_end_return b text)) h in
    let a = neither (b == 10) (b == 32 || (b == 9 || (b == 35 || (b == 58 || b == 92)))) (not-true (b == 10 || (b == 32 || (b == 9 || (b == 35 || (b == 58 || b == 92))))) parts.0) in
    let c = neither (b == 32) (b == 9 || (b == 35 || (b == 58 || b == 92))) a.1 in
    let d = neither (b == 9) (b == 35 || (b == 58 || b == 92)) c.1 in
    let e = neither (b == 35) (b == 58 || b == 92) d.1 in
    let f = neither (b == 58) (b == 92) e.1 in
    let line : Reading = if n == 0 then record { kept = 0; mark = LineEnd } else record { kept = n - 1; mark = Blank } in
    let space : Reading = if n % 2 == 1 then record { kept = n / 2; mark = Byte 32 } else record { kept = n; mark = Blank } in
    let colon : Reading = if is_word_end text then record { kept = n; mark = Colon } else record { kept = n - 1; mark = Byte 58 } in (
      (λ j. if a.0 j then line else (if c.0 j then space else (if d.0 j then record { kept = n; mark = Blank } else (if e.0 j then record { kept = n - 1; mark = Byte 35 }
          else (if f.0 j then colon else record { kept = n; mark = Byte b }))))),
      f.1,
      not-true (is_line_end_return b text) parts.1,
    )

-- the signs of a line end, which a CR may begin
line-given : (at n kept : ℕ) (mark : Mark) {bytes : List ℕ} (text : List ℕ) → IsLineEnd bytes → reading n 10 text ≡ record { kept = kept; mark = mark }
    → signs_at at n (at + n) (bytes ++ text) ≡ kept_at at kept ++ record { at = at; mark = mark } ∷ signs_at (at + n + length bytes) 0 (at + n + length bytes) text
line-given at n kept mark text LineFeed is = by-reading at n (at + n) 10 kept mark text refl refl is
line-given at n kept mark text ReturnLineFeed is =
    let on : at + n + 1 + 1 ≡ at + n + 2 = omega arith in
    ap (flat_map signs_of_piece) (more-return at n (at + n) 13 (10 ∷ text) refl refl) ∙ by-reading at n (at + n + 1) 10 kept mark text refl refl is
    ∙ ap (λ i. kept_at at kept ++ record { at = at; mark = mark } ∷ signs_at i 0 i text) on

-- what a run says is what is read of it
run-given : (at : ℕ) {n kept : ℕ} {bytes text : List ℕ} {mark : Mark} → Says n bytes text kept mark
    → signs_at at n (at + n) (bytes ++ text) ≡ kept_at at kept ++ record { at = at; mark = mark } ∷ signs_at (at + n + length bytes) 0 (at + n + length bytes) text
run-given at (Ends {bytes} {after} e) = line-given at 0 0 LineEnd after e refl
run-given at (Joins {n} {bytes} {after} e) = line-given at (suc n) n Blank after e (reading-joins n after)
run-given at (Parts half {after}) = by-reading at (half + half) (at + (half + half)) 32 (half + half) Blank after refl refl (reading-parts half after)
run-given at (Space half {after}) = by-reading at (half + half + 1) (at + (half + half + 1)) 32 half (Byte 32) after refl refl (reading-space half after)
run-given at (Tab {n} {after}) = by-reading at n (at + n) 9 n Blank after refl refl refl
run-given at (Hash {n} {after}) = by-reading at n (at + n) 35 (n - 1) (Byte 35) after refl refl refl
run-given at (Inner {n} {after} h) = by-reading at n (at + n) 58 (n - 1) (Byte 58) after refl refl (reading-inner n after h)
run-given at (Separates {n} {after} h) = by-reading at n (at + n) 58 n Colon after refl refl (reading-separates n after h)
run-given at (Itself {n} {b} {after} h) =
    let is = reading-itself n b after h in
    by-reading at n (at + n) b n (Byte b) after is.1 is.2 is.0

pub append_nil : {A : Type 0} (xs : List A) → xs ++ [] ≡ xs
append_nil [] = refl
append_nil (x ∷ xs) = ap (λ ys. x ∷ ys) (append_nil xs)

-- backslashes at the end
rest-kept : (at n i : ℕ) → signs_at at n i [] ≡ kept_at at n
rest-kept at n i = append_nil (kept_at at (n + 0)) ∙ ap (kept_at at) (add-zero n)

-- what the grammar reads is what the functions read
signs-given : {at : ℕ} {text : List ℕ} {signs : List Sign} → ReadsAs at text signs → signs_at at 0 at text ≡ signs
signs-given (Rest {at} n) =
    ap (signs_at at 0 at) (sym (append_nil (backslashes n))) ∙ waiting at 0 at n [] ∙ rest-kept at (0 + n) (at + n) ∙ ap (kept_at at) (zero-add n)
signs-given (Run {at} {n} {kept} {bytes} {text} {mark} {signs} s r) =
    waiting at 0 at n (bytes ++ text) ∙ (λ j. signs_at at (zero-add n j) (at + n) (bytes ++ text)) ∙ run-given at s
    ∙ ap (λ rest. kept_at at kept ++ record { at = at; mark = mark } ∷ rest) (signs-given r)

-- one of two readings
pick : (P : Reading → Type 0) (t : Bool) (x y : Reading) → (t ≡ true → P x) → (t ≡ false → P y) → P (if t then x else y)
pick P true x y f g = f refl
pick P false x y f g = g refl

abbrev SaysOf : ℕ → List ℕ → List ℕ → Reading → Type 0
SaysOf n bytes text r = Says n bytes text r.kept r.mark

line-says : (n : ℕ) {bytes : List ℕ} (text : List ℕ) → IsLineEnd bytes → SaysOf n bytes text (reading n 10 text)
line-says zero text e = Ends e
line-says (suc n) text e = subst (SaysOf (suc n) _ text) (sym (reading-joins n text)) (Joins e)

space-says : (n : ℕ) (text : List ℕ) → SaysOf n (32 ∷ []) text (reading n 32 text)
space-says n text =
    let half = n / 2 in
    pick (SaysOf n (32 ∷ []) text) (n % 2 == 1) (record { kept = half; mark = Byte 32 }) (record { kept = n; mark = Blank })
    (λ odd. let one : n % 2 ≡ 1 = eqb-true (n % 2) 1 odd in
    let is : half + half + 1 ≡ n = omega arith in
    subst (λ (m : ℕ). Says m (32 ∷ []) text half (Byte 32)) is (Space half))
    (λ even. let is : half + half ≡ n = omega (arith, eqb-false (n % 2) 1 even) in
    subst (λ (m : ℕ). Says m (32 ∷ []) text m Blank) is (Parts half))

colon-says : (n : ℕ) (text : List ℕ) → SaysOf n (58 ∷ []) text (reading n 58 text)
colon-says n text =
    pick (SaysOf n (58 ∷ []) text) (is_word_end text) (record { kept = n; mark = Colon }) (record { kept = n - 1; mark = Byte 58 }) (λ h. Separates h) (λ h. Inner h)

-- what is read of a byte that is no backslash, and of the backslashes before it
byte-says : (n b : ℕ) (text : List ℕ) → (b == 92) ≡ false → is_line_end_return b text ≡ false → SaysOf n (b ∷ []) text (reading n b text)
byte-says n b text no_backslash no_return =
    let P : Reading → Type 0 = SaysOf n (b ∷ []) text in
    let itself : Reading = record { kept = n; mark = Byte b } in
    let colon : Reading = if is_word_end text then record { kept = n; mark = Colon } else record { kept = n - 1; mark = Byte 58 } in
    let after_hash : Reading = if b == 58 then colon else itself in
    let hash : Reading = record { kept = n - 1; mark = Byte 35 } in
    let after_tab : Reading = if b == 35 then hash else after_hash in
    let tab : Reading = record { kept = n; mark = Blank } in
    let after_space : Reading = if b == 9 then tab else after_tab in
    let space : Reading = if n % 2 == 1 then record { kept = n / 2; mark = Byte 32 } else record { kept = n; mark = Blank } in
    let after_line : Reading = if b == 32 then space else after_space in
    let line : Reading = if n == 0 then record { kept = 0; mark = LineEnd } else record { kept = n - 1; mark = Blank } in
    pick P (b == 10) line after_line (λ e. subst (λ (c : ℕ). SaysOf n (c ∷ []) text line) (sym (eqb-true b 10 e)) (line-says n text LineFeed))
    (λ e10. pick P (b == 32) space after_space (λ e. subst (λ (c : ℕ). SaysOf n (c ∷ []) text space) (sym (eqb-true b 32 e)) (space-says n text))
    (λ e32. pick P (b == 9) tab after_tab (λ e. subst (λ (c : ℕ). SaysOf n (c ∷ []) text tab) (sym (eqb-true b 9 e)) Tab)
    (λ e9. pick P (b == 35) hash after_hash (λ e. subst (λ (c : ℕ). SaysOf n (c ∷ []) text hash) (sym (eqb-true b 35 e)) Hash)
    (λ e35. pick P (b == 58) colon itself (λ e. subst (λ (c : ℕ). SaysOf n (c ∷ []) text colon) (sym (eqb-true b 58 e)) (colon-says n text))
    (λ e58. Itself (λ j. not (e10 j || (e32 j || (e9 j || (e35 j || (e58 j || no_backslash j))))) && not (no_return j)))))))

pub cast : {at : ℕ} {text other : List ℕ} {signs same : List Sign} → text ≡ other → signs ≡ same → ReadsAs at text signs → ReadsAs at other same
cast {at} {text} {other} {signs} {same} e f r = subst (λ (x : List Sign). ReadsAs at other x) f (subst (λ (t : List ℕ). ReadsAs at t signs) e r)

-- what the functions read of a text behind n backslashes is what the grammar reads
abbrev Found : List ℕ → Type 0
Found bs = (at n i : ℕ) → i ≡ at + n → ReadsAs at (backslashes n ++ bs) (signs_at at n i bs)

abbrev TailFound : List ℕ → Type 0
TailFound [] = Unit {0}
TailFound (c ∷ cs) = Found cs

from-here : (at n i len : ℕ) (bs : List ℕ) → i ≡ at + n → Found bs → ReadsAs (at + n + len) bs (signs_at (i + len) 0 (i + len) bs)
from-here at n i len bs e found =
    let there : i + len ≡ at + n + len = omega (arith, e) in
    let same : i + len ≡ i + len + 0 = omega arith in
    subst (λ (k : ℕ). ReadsAs k bs (signs_at (i + len) 0 (i + len) bs)) there (found (i + len) 0 (i + len) same)

byte-found : (at n i b : ℕ) (bs : List ℕ) → i ≡ at + n → (b == 92) ≡ false → is_line_end_return b bs ≡ false → Found bs → ReadsAs at (backslashes n ++ b ∷ bs) (signs_at at n i (b ∷ bs))
byte-found at n i b bs e no_backslash no_return found =
    let r = reading n b bs in
    cast refl (sym (by-reading at n i b r.kept r.mark bs no_backslash no_return refl)) (Run (byte-says n b bs no_backslash no_return) (from-here at n i 1 bs e found))

return-found : (at n i : ℕ) (bs : List ℕ) → i ≡ at + n → begins_line_feed bs ≡ true → TailFound bs → ReadsAs at (backslashes n ++ 13 ∷ bs) (signs_at at n i (13 ∷ bs))
return-found at n i [] e h found = cc
return-found at n i (c ∷ cs) e h found =
    let r = reading n 10 cs in
    let on : i + 1 + 1 ≡ i + 2 = omega arith in
    let signs : signs_at at n i (13 ∷ 10 ∷ cs) ≡ kept_at at r.kept ++ record { at = at; mark = r.mark } ∷ signs_at (i + 2) 0 (i + 2) cs =
    ap (flat_map signs_of_piece) (more-return at n i 13 (10 ∷ cs) refl refl) ∙ by-reading at n (i + 1) 10 r.kept r.mark cs refl refl refl
    ∙ ap (λ k. kept_at at r.kept ++ record { at = at; mark = r.mark } ∷ signs_at k 0 k cs) on in
    subst (λ (x : ℕ). ReadsAs at (backslashes n ++ 13 ∷ x ∷ cs) (signs_at at n i (13 ∷ x ∷ cs))) (sym (eqb-true c 10 h))
    (cast refl (sym signs) (Run (line-says n cs ReturnLineFeed) (from-here at n i 2 cs e found)))

step-found : (b : ℕ) (bs : List ℕ) → Found bs → TailFound bs → Found (b ∷ bs)
step-found b bs found tail at n i e = by (b == 92) refl (is_line_end_return b bs) refl
  where
    by : (t : Bool) → (b == 92) ≡ t → (u : Bool) → is_line_end_return b bs ≡ u → ReadsAs at (backslashes n ++ b ∷ bs) (signs_at at n i (b ∷ bs))
    by true is u v =
        let on : i + 1 ≡ at + suc n = omega (arith, e) in
        let more : n + 1 ≡ suc n = omega arith in
        cast (one-more n bs ∙ ap (λ c. backslashes n ++ c ∷ bs) (sym (eqb-true b 92 is)))
        ((λ j. signs_at at (sym more j) (i + 1) bs) ∙ ap (flat_map signs_of_piece) (sym (more-backslash at n i b bs is))) (found at (suc n) (i + 1) on)
    by false is true returned =
        let parts = both (b == 13) (begins_line_feed bs) returned in
        subst (λ (c : ℕ). ReadsAs at (backslashes n ++ c ∷ bs) (signs_at at n i (c ∷ bs))) (sym (eqb-true b 13 parts.0)) (return-found at n i bs e parts.1 tail)
    by false is false other = byte-found at n i b bs e is other found

signs-found : (text : List ℕ) → Found text
signs-found [] at n i e = cast (sym (append_nil (backslashes n))) (sym (rest-kept at n i)) (Rest n)
signs-found (b ∷ []) at n i e = step-found b [] (λ at n i e. signs-found [] at n i e) tt at n i e
signs-found (b ∷ c ∷ cs) at n i e = step-found b (c ∷ cs) (λ at n i e. signs-found (c ∷ cs) at n i e) (λ at n i e. signs-found cs at n i e) at n i e

-- the signs of a text are those that the grammar reads
pub text-found : (text : List ℕ) → ReadsAs 0 text (signs_of text)
text-found text = cast refl (ap (flat_map signs_of_piece) (more-none 0 text)) (signs-found text 0 0 0 refl)

pub text-given : {text : List ℕ} {signs : List Sign} → ReadsAs 0 text signs → signs_of text ≡ signs
text-given {text} r = ap (flat_map signs_of_piece) (sym (more-none 0 text)) ∙ signs-given r
