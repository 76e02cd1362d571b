-- What is spelled is read back, and which words are read at all.
use Rattle.std.proofs.Common.{◌≡◌, ℕ, zero, suc, ◌+◌, ◌-◌, ◌<◌, ◌≤◌, ◌==◌, inl, Bool, true, false, not, ◌&&◌, ◌||◌, List, [], ◌∷◌, ◌++◌, Some, length, map, bytes_eq, refl, sym, ap, ◌∙◌, subst, arith, if◌then◌else◌, append_assoc}
use Rattle.std.specs.List.{list_any, list_all, AllByRecursion, IsDistinct}
use Rattle.std.proofs.lemmas.Bool.{eqb-true}
use Rattle.std.proofs.lemmas.Slice.Eq.{bytes_eq-Decides}
use Rattle.rev_paths.specs.Canonical.{canonical}
use Rattle.rev_paths.specs.Mentions.{first_mentions}
use Rattle.rev_paths.proofs.MentionLemmas.{mentions-once}
use Rattle.rev_depfile.specs.declared.sign.Mark.{Mark}
use Rattle.rev_depfile.specs.declared.sign.Mark.TheVariants.{Byte, Colon, Blank}
use Rattle.rev_depfile.specs.declared.sign.Sign.{Sign}
use Rattle.rev_depfile.specs.Signs.{begins_line_feed, begins_line_end, is_line_end_return, is_word_end, backslash_at}
use Rattle.rev_depfile.specs.Lines.{has_some, is_blank, is_blank_mark, is_line_end, is_line_end_mark, is_colon, is_colon_mark, byte_of, mark_byte}
use Rattle.rev_depfile.specs.Grammar.{backslashes, is_plain, Says, Ends, Joins, Parts, Space, Tab, Hash, Inner, Separates, Itself, kept_at, ReadsAs, Rest, Run, begins_dollar, StandsFor, Empty, Dollars, Own, WordValue, LineValue, lacks, ends_word, WordsAre, NoWords, Gap, Word, LineIs, Bare, Rule, LinesAre, Last, More, IsDepfile}
use Rattle.rev_depfile.specs.Reading.{IsShort, path_named, Listed, NoLines, Then, Gives}
use Rattle.rev_depfile.specs.Spelling.{spelled, prerequisites_spelled, spelling, is_held, CanBeListed, AreHeld, LineHolds}
use Rattle.rev_depfile.proofs.GrammarLemmas.{both, not-true, neither, append_nil, one-more, cast}

-- texts without LF
abbrev lacks_feed : List ℕ → Bool
lacks_feed text = list_all (λ b. not (b == 10)) text

no-feed : (text : List ℕ) → lacks_feed text ≡ true → begins_line_feed text ≡ false
no-feed [] h = refl
no-feed (b ∷ bs) h = not-true (b == 10) (both (not (b == 10)) (lacks_feed bs) h).0

no-return : (b : ℕ) (text : List ℕ) → lacks_feed text ≡ true → is_line_end_return b text ≡ false
no-return b text h = ap (λ t. b == 13 && t) (no-feed text h) ∙ and-false (b == 13)
  where
    and-false : (b : Bool) → (b && false) ≡ false
    and-false true = refl
    and-false false = refl

no-end : (text : List ℕ) → lacks_feed text ≡ true → begins_line_end text ≡ false
no-end [] h = refl
no-end (b ∷ bs) h =
    let parts = both (not (b == 10)) (lacks_feed bs) h in
    (λ j. not-true (b == 10) parts.0 j || no-return b bs parts.1 j)

feeds-append : (xs ys : List ℕ) → lacks_feed xs ≡ true → lacks_feed ys ≡ true → lacks_feed (xs ++ ys) ≡ true
feeds-append [] ys h e = e
feeds-append (x ∷ xs) ys h e =
    let parts = both (not (x == 10)) (lacks_feed xs) h in
    (λ j. parts.0 j && feeds-append xs ys parts.1 e j)

backslashes-feed : (n : ℕ) (ys : List ℕ) → lacks_feed ys ≡ true → lacks_feed (backslashes n ++ ys) ≡ true
backslashes-feed zero ys h = h
backslashes-feed (suc n) ys h = backslashes-feed n ys h

-- a text that begins with neither space nor tab and has no LF goes on with a word
abbrev begins_gap : List ℕ → Bool
begins_gap [] = true
begins_gap (b ∷ bs) = b == 32 || b == 9

goes-on : (text : List ℕ) → lacks_feed text ≡ true → begins_gap text ≡ false → is_word_end text ≡ false
goes-on [] h e = cc
goes-on (b ∷ bs) h e =
    let here = both (not (b == 10)) (lacks_feed bs) h in
    let gaps = neither (b == 32) (b == 9) e in
    (λ j. (gaps.0 j || gaps.1 j || (b == 92 && no-end bs here.1 j)) || no-end (b ∷ bs) h j) ∙ last (b == 92)
  where
    last : (t : Bool) → ((t && false) || false) ≡ false
    last true = refl
    last false = refl

-- spelled bytes have no LF
spelled-feed : (on : Bool) (n : ℕ) (word : List ℕ) → list_all is_held word ≡ true → lacks_feed (spelled on n word) ≡ true
spelled-feed on n [] h = ap lacks_feed (sym (append_nil (backslashes n))) ∙ backslashes-feed n [] refl
spelled-feed on n (b ∷ bs) h =
    let parts = both (is_held b) (list_all is_held bs) h in
    let tests = neither (b == 9) (b == 10) (not-true (b == 9 || b == 10) parts.0) in
    let rest = spelled-feed on 0 bs parts.1 in
    let plain : lacks_feed (b ∷ spelled on 0 bs) ≡ true = (λ j. not (tests.1 j) && rest j) in
    first_of (b == 92) (λ t. lacks_feed t ≡ true) (spelled-feed on (suc n) bs parts.1)
    (first_of (b == 32) (λ t. lacks_feed t ≡ true) (backslashes-feed (n + n + 1) (32 ∷ spelled on 0 bs) rest)
    (first_of (b == 35) (λ t. lacks_feed t ≡ true) (backslashes-feed (n + 1) (35 ∷ spelled on 0 bs) rest)
    (first_of (b == 58) (λ t. lacks_feed t ≡ true) (colon (has_some bs || on) (58 ∷ spelled on 0 bs) rest)
    (first_of (b == 36) (λ t. lacks_feed t ≡ true) (backslashes-feed n (36 ∷ 36 ∷ spelled on 0 bs) rest) (backslashes-feed n (b ∷ spelled on 0 bs) plain)))))
  where
    first_of : (t : Bool) {x y : List ℕ} (P : List ℕ → Type 0) → P x → P y → P (if t then x else y)
    first_of true P p q = p
    first_of false P p q = q

    colon : (t : Bool) (text : List ℕ) → lacks_feed text ≡ true → lacks_feed ((if t then backslashes (n + 1) else backslashes n) ++ text) ≡ true
    colon true text h = backslashes-feed (n + 1) text h
    colon false text h = backslashes-feed n text h

-- a word that is spelled begins with neither space nor tab
slash-first : (m : ℕ) (text : List ℕ) → begins_gap (backslashes (m + 1) ++ text) ≡ false
slash-first m text = let one : suc m ≡ m + 1 = omega arith in ap (λ k. begins_gap (backslashes k ++ text)) (sym one)

choose : {A : Type 0} (P : A → Type 0) (t : Bool) (x y : A) → (t ≡ true → P x) → (t ≡ false → P y) → P (if t then x else y)
choose P true x y p q = p refl
choose P false x y p q = q refl

slashes-first : (on : Bool) (n : ℕ) (word after : List ℕ) → begins_gap (spelled on (suc n) word ++ after) ≡ false
slashes-first on n [] after = refl
slashes-first on n (b ∷ bs) after =
    let P : List ℕ → Type 0 = λ t. begins_gap (t ++ after) ≡ false in
    let m = suc n in
    let rest = spelled on 0 bs in
    let itself = backslashes m ++ b ∷ rest in
    let dollars = backslashes m ++ 36 ∷ 36 ∷ rest in
    let colon = (if has_some bs || on then backslashes (m + 1) else backslashes m) ++ 58 ∷ rest in
    let hash = backslashes (m + 1) ++ 35 ∷ rest in
    let space = backslashes (m + m + 1) ++ 32 ∷ rest in
    choose P (b == 92) (spelled on (suc m) bs) (if b == 32 then space else (if b == 35 then hash else (if b == 58 then colon else (if b == 36 then dollars else itself))))
    (λ e. slashes-first on m bs after)
    (λ e. choose P (b == 32) space (if b == 35 then hash else (if b == 58 then colon else (if b == 36 then dollars else itself)))
    (λ e. ap begins_gap (append_assoc (backslashes (m + m + 1)) (32 ∷ rest) after) ∙ slash-first (m + m) (32 ∷ rest ++ after))
    (λ e. choose P (b == 35) hash (if b == 58 then colon else (if b == 36 then dollars else itself))
    (λ e. ap begins_gap (append_assoc (backslashes (m + 1)) (35 ∷ rest) after) ∙ slash-first m (35 ∷ rest ++ after))
    (λ e. choose P (b == 58) colon (if b == 36 then dollars else itself) (λ e. both-colons (has_some bs || on) rest)
    (λ e. choose P (b == 36) dollars itself (λ e. refl) (λ e. refl)))))
  where
    both-colons : (t : Bool) (rest : List ℕ) → begins_gap (((if t then backslashes (suc n + 1) else backslashes (suc n)) ++ 58 ∷ rest) ++ after) ≡ false
    both-colons true rest = ap begins_gap (append_assoc (backslashes (suc n + 1)) (58 ∷ rest) after) ∙ slash-first (suc n) (58 ∷ rest ++ after)
    both-colons false rest = refl

word-first : (on : Bool) (b : ℕ) (bs after : List ℕ) → is_held b ≡ true → begins_gap (spelled on 0 (b ∷ bs) ++ after) ≡ false
word-first on b bs after h =
    let P : List ℕ → Type 0 = λ t. begins_gap (t ++ after) ≡ false in
    let rest = spelled on 0 bs in
    let tests = neither (b == 9) (b == 10) (not-true (b == 9 || b == 10) h) in
    let itself = b ∷ rest in
    let dollars = 36 ∷ 36 ∷ rest in
    let colon = (if has_some bs || on then backslashes 1 else backslashes 0) ++ 58 ∷ rest in
    let hash = backslashes 1 ++ 35 ∷ rest in
    let space = backslashes 1 ++ 32 ∷ rest in
    choose P (b == 92) (spelled on 1 bs) (if b == 32 then space else (if b == 35 then hash else (if b == 58 then colon else (if b == 36 then dollars else itself))))
    (λ e. slashes-first on 0 bs after)
    (λ e. choose P (b == 32) space (if b == 35 then hash else (if b == 58 then colon else (if b == 36 then dollars else itself))) (λ e. refl)
    (λ no_space. choose P (b == 35) hash (if b == 58 then colon else (if b == 36 then dollars else itself)) (λ e. refl)
    (λ e. choose P (b == 58) colon (if b == 36 then dollars else itself) (λ e. both-colons (has_some bs || on) rest)
    (λ e. choose P (b == 36) dollars itself (λ e. refl) (λ e. (λ j. no_space j || tests.0 j))))))
  where
    both-colons : (t : Bool) (rest : List ℕ) → begins_gap (((if t then backslashes 1 else backslashes 0) ++ 58 ∷ rest) ++ after) ≡ false
    both-colons true rest = refl
    both-colons false rest = refl

-- signs of backslashes
lacks-kept : (test : Sign → Bool) (at n : ℕ) (signs : List Sign) → test (backslash_at at) ≡ false → lacks test (kept_at at n ++ signs) ≡ lacks test signs
lacks-kept test at zero signs h = refl
lacks-kept test at (suc n) signs h = ap (λ t. not (t || list_any test (kept_at at n ++ signs))) h ∙ lacks-kept test at n signs h

kept-stand : (at n : ℕ) (signs : List Sign) (text : List ℕ) → StandsFor (map byte_of signs) text → StandsFor (map byte_of (kept_at at n ++ signs)) (backslashes n ++ text)
kept-stand at zero signs text r = r
kept-stand at (suc n) signs text r = Own refl (kept-stand at n signs text r)

-- What was written of a word: its signs, with those of what follows, of which P holds
record Wrote (P : List Sign → Type 0) (on : Bool) (at : ℕ) (text word : List ℕ) : Type 0 where
  front : List Sign
  signs : List Sign
  reads : ReadsAs at text (front ++ signs)
  holds : P signs
  stands : StandsFor (map byte_of front) word
  no_blank : lacks is_blank front ≡ true
  no_end : lacks is_line_end front ≡ true
  no_colon : on ≡ true → lacks is_colon front ≡ true

-- what may stand behind a word: backslashes before it are bytes of the word
abbrev Closes : (List Sign → Type 0) → List ℕ → Type 0
Closes P after = (at n : ℕ) → (signs : List Sign) × ReadsAs at (backslashes n ++ after) (kept_at at n ++ signs) × P signs

-- one more byte, behind m backslashes of which n are bytes
byte-wrote : (P : List Sign → Type 0) (on : Bool) (at m n b x : ℕ) (mark : Mark) (text word : List ℕ) → Says m (b ∷ []) text n mark → mark_byte mark ≡ x → (x == 36) ≡ false
    → is_blank_mark mark ≡ false → is_line_end_mark mark ≡ false → (on ≡ true → is_colon_mark mark ≡ false) → Wrote P on (at + m + 1) text word → Wrote P on at (backslashes m ++ b ∷ text) (backslashes n ++ x ∷ word)
byte-wrote P on at m n b x mark text word says is no_dollar blank end colon w =
    let sign : Sign = record { at = at; mark = mark } in record {
      front = kept_at at n ++ sign ∷ w.front;
      signs = w.signs;
      reads = cast refl (sym (append_assoc (kept_at at n) (sign ∷ w.front) w.signs)) (Run says w.reads);
      holds = w.holds;
      stands = kept-stand at n (sign ∷ w.front) (x ∷ word)
          (subst (λ (c : ℕ). StandsFor (c ∷ map byte_of w.front) (x ∷ word)) (sym is) (Own (ap (λ t. t && begins_dollar (map byte_of w.front)) no_dollar) w.stands));
      no_blank = lacks-kept is_blank at n (sign ∷ w.front) refl ∙ ap (λ t. not (t || list_any is_blank w.front)) blank ∙ w.no_blank;
      no_end = lacks-kept is_line_end at n (sign ∷ w.front) refl ∙ ap (λ t. not (t || list_any is_line_end w.front)) end ∙ w.no_end;
      no_colon = λ e. lacks-kept is_colon at n (sign ∷ w.front) refl ∙ ap (λ t. not (t || list_any is_colon w.front)) (colon e) ∙ w.no_colon e;
    }

-- a dollar sign
dollar-wrote : (P : List Sign → Type 0) (on : Bool) (at n : ℕ) (text word : List ℕ) → lacks_feed text ≡ true → Wrote P on (at + n + 1 + 1) text word → Wrote P on at (backslashes n ++ 36 ∷ 36 ∷ text) (backslashes n ++ 36 ∷ word)
dollar-wrote P on at n text word feeds w =
    let first : Sign = record { at = at; mark = Byte 36 } in
    let second : Sign = record { at = at + n + 1; mark = Byte 36 } in
    let zero_more : at + n + 1 + 0 + 1 ≡ at + n + 1 + 1 = omega arith in
    let plain : is_plain 36 text ≡ true = refl in
    let rest : ReadsAs (at + n + 1) (36 ∷ text) (second ∷ w.front ++ w.signs) =
    Run (Itself {n = 0} plain) (subst (λ (k : ℕ). ReadsAs k text (w.front ++ w.signs)) (sym zero_more) w.reads) in record {
      front = kept_at at n ++ first ∷ second ∷ w.front;
      signs = w.signs;
      reads = cast refl (sym (append_assoc (kept_at at n) (first ∷ second ∷ w.front) w.signs)) (Run (Itself {n = n} refl) rest);
      holds = w.holds;
      stands = kept-stand at n (first ∷ second ∷ w.front) (36 ∷ word) (Dollars w.stands);
      no_blank = lacks-kept is_blank at n (first ∷ second ∷ w.front) refl ∙ w.no_blank;
      no_end = lacks-kept is_line_end at n (first ∷ second ∷ w.front) refl ∙ w.no_end;
      no_colon = λ e. lacks-kept is_colon at n (first ∷ second ∷ w.front) refl ∙ w.no_colon e;
    }

-- what may stand behind a word that goes on at once, or does not
abbrev Follows : Bool → List ℕ → Type 0
Follows true after = is_word_end after ≡ false
Follows false after = is_word_end after ≡ true

turn : {P : List Sign → Type 0} {on : Bool} {at : ℕ} {text other word same : List ℕ} → text ≡ other → word ≡ same → Wrote P on at text word → Wrote P on at other same
turn {P} {on} {at} {text} {other} {word} {same} e f w = subst (λ (x : List ℕ). Wrote P on at other x) f (subst (λ (t : List ℕ). Wrote P on at t word) e w)

-- what follows a colon of a word
inner-follows : (on : Bool) (bs after : List ℕ) → lacks_feed after ≡ true → list_all is_held bs ≡ true → Follows on after → (has_some bs || on) ≡ true → is_word_end (spelled on 0 bs ++ after) ≡ false
inner-follows true [] after feeds h follows e = follows
inner-follows false [] after feeds h follows e = cc
inner-follows on (c ∷ cs) after feeds h follows e =
    goes-on (spelled on 0 (c ∷ cs) ++ after) (feeds-append (spelled on 0 (c ∷ cs)) after (spelled-feed on 0 (c ∷ cs) h) feeds)
    (word-first on c cs after (both (is_held c) (list_all is_held cs) h).0)

last-follows : (on : Bool) (bs after : List ℕ) → Follows on after → (has_some bs || on) ≡ false → is_word_end (spelled on 0 bs ++ after) ≡ true
last-follows true [] after follows e = cc
last-follows false [] after follows e = follows
last-follows on (c ∷ cs) after follows e = cc

last-off : (on : Bool) (bs : List ℕ) → (has_some bs || on) ≡ false → on ≡ true → true ≡ false
last-off on [] e f = sym f ∙ e
last-off on (c ∷ cs) e f = e

-- one more byte of a word
more-wrote : (P : List Sign → Type 0) (on : Bool) (after : List ℕ) → lacks_feed after ≡ true → Follows on after → (b : ℕ) (bs : List ℕ) → list_all is_held (b ∷ bs) ≡ true
    → ((at n : ℕ) → Wrote P on at (spelled on n bs ++ after) (backslashes n ++ bs)) → (at n : ℕ) → Wrote P on at (spelled on n (b ∷ bs) ++ after) (backslashes n ++ b ∷ bs)
more-wrote P on after feeds follows b bs h later at n =
    let rest = spelled on 0 bs in
    let held = both (is_held b) (list_all is_held bs) h in
    let tests = neither (b == 9) (b == 10) (not-true (b == 9 || b == 10) held.0) in
    let all_feeds : lacks_feed (rest ++ after) ≡ true = feeds-append rest after (spelled-feed on 0 bs held.1) feeds in
    let W : List ℕ → Type 0 = λ t. Wrote P on at (t ++ after) (backslashes n ++ b ∷ bs) in
    let itself = backslashes n ++ b ∷ rest in
    let dollars = backslashes n ++ 36 ∷ 36 ∷ rest in
    let colon = (if has_some bs || on then backslashes (n + 1) else backslashes n) ++ 58 ∷ rest in
    let hash = backslashes (n + 1) ++ 35 ∷ rest in
    let space = backslashes (n + n + 1) ++ 32 ∷ rest in
    let less : n + 1 - 1 ≡ n = omega arith in
    let is : (k : ℕ) → (b == k) ≡ true → backslashes n ++ k ∷ bs ≡ backslashes n ++ b ∷ bs = λ k e. ap (λ x. backslashes n ++ x ∷ bs) (sym (eqb-true b k e)) in
    choose W (b == 92) (spelled on (suc n) bs) (if b == 32 then space else (if b == 35 then hash else (if b == 58 then colon else (if b == 36 then dollars else itself))))
    (λ e. turn refl (one-more n bs ∙ is 92 e) (later at (suc n)))
    (λ e92. choose W (b == 32) space (if b == 35 then hash else (if b == 58 then colon else (if b == 36 then dollars else itself)))
    (λ e. turn (sym (append_assoc (backslashes (n + n + 1)) (32 ∷ rest) after)) (is 32 e)
    (byte-wrote P on at (n + n + 1) n 32 32 (Byte 32) (rest ++ after) bs (Space n) refl refl refl refl (λ j. refl) (later (at + (n + n + 1) + 1) 0)))
    (λ e32. choose W (b == 35) hash (if b == 58 then colon else (if b == 36 then dollars else itself))
    (λ e. turn (sym (append_assoc (backslashes (n + 1)) (35 ∷ rest) after)) (ap (λ k. backslashes k ++ 35 ∷ bs) less ∙ is 35 e)
    (byte-wrote P on at (n + 1) (n + 1 - 1) 35 35 (Byte 35) (rest ++ after) bs Hash refl refl refl refl (λ j. refl) (later (at + (n + 1) + 1) 0)))
    (λ e35. choose W (b == 58) colon (if b == 36 then dollars else itself)
    (λ e. choose (λ (slashes : List ℕ). Wrote P on at ((slashes ++ 58 ∷ rest) ++ after) (backslashes n ++ b ∷ bs)) (has_some bs || on) (backslashes (n + 1)) (backslashes n)
    (λ goes. turn (sym (append_assoc (backslashes (n + 1)) (58 ∷ rest) after)) (ap (λ k. backslashes k ++ 58 ∷ bs) less ∙ is 58 e)
    (byte-wrote P on at (n + 1) (n + 1 - 1) 58 58 (Byte 58) (rest ++ after) bs (Inner (inner-follows on bs after feeds held.1 follows goes)) refl refl refl refl (λ j. refl) (later (at + (n + 1) + 1) 0)))
    (λ stops. turn (sym (append_assoc (backslashes n) (58 ∷ rest) after)) (is 58 e)
    (byte-wrote P on at n n 58 58 Colon (rest ++ after) bs (Separates (last-follows on bs after follows stops)) refl refl refl refl (last-off on bs stops) (later (at + n + 1) 0))))
    (λ e58. choose W (b == 36) dollars itself
    (λ e. turn (sym (append_assoc (backslashes n) (36 ∷ 36 ∷ rest) after)) (is 36 e) (dollar-wrote P on at n (rest ++ after) bs all_feeds (later (at + n + 1 + 1) 0)))
    (λ e36. turn (sym (append_assoc (backslashes n) (b ∷ rest) after)) refl
    (byte-wrote P on at n n b b (Byte b) (rest ++ after) bs
    (Itself (λ j. not (tests.1 j || (e32 j || (tests.0 j || (e35 j || (e58 j || e92 j))))) && not (no-return b (rest ++ after) all_feeds j)))
    refl e36 refl refl (λ j. refl) (later (at + n + 1) 0)))))))

-- a word is read back
wrote : (P : List Sign → Type 0) (on : Bool) (after : List ℕ) → lacks_feed after ≡ true → Follows on after → Closes P after → (word : List ℕ) → list_all is_held word ≡ true
    → (at n : ℕ) → Wrote P on at (spelled on n word ++ after) (backslashes n ++ word)
wrote P on after feeds follows closes [] h at n =
    let last = closes at n in record {
      front = kept_at at n;
      signs = last.0;
      reads = last.1;
      holds = last.2;
      stands = subst (λ (ss : List Sign). StandsFor (map byte_of ss) (backslashes n ++ [])) (append_nil (kept_at at n)) (kept-stand at n [] [] Empty);
      no_blank = ap (lacks is_blank) (sym (append_nil (kept_at at n))) ∙ lacks-kept is_blank at n [] refl;
      no_end = ap (lacks is_line_end) (sym (append_nil (kept_at at n))) ∙ lacks-kept is_line_end at n [] refl;
      no_colon = λ e. ap (lacks is_colon) (sym (append_nil (kept_at at n))) ∙ lacks-kept is_colon at n [] refl;
    }
wrote P on after feeds follows closes (b ∷ bs) h at n = more-wrote P on after feeds follows b bs h (wrote P on after feeds follows closes bs (both (is_held b) (list_all is_held bs) h).1) at n

-- the prerequisites
record PathsWrote (paths : List (List ℕ)) (signs : List Sign) : Type 0 where
  words : List WordValue
  are : WordsAre signs words
  texts : map (λ (word : WordValue). word.text) words ≡ paths
  ends : ends_word signs ≡ true
  no_end : lacks is_line_end signs ≡ true

lacks-append : (test : Sign → Bool) (xs ys : List Sign) → lacks test xs ≡ true → lacks test ys ≡ true → lacks test (xs ++ ys) ≡ true
lacks-append test [] ys h e = e
lacks-append test (x ∷ xs) ys h e =
    let parts = neither (test x) (list_any test xs) (not-true (test x || list_any test xs) h) in
    ap (λ t. not (t || list_any test (xs ++ ys))) parts.0 ∙ lacks-append test xs ys (ap not parts.1) e

paths-feed : (paths : List (List ℕ)) → AllByRecursion CanBeListed paths → lacks_feed (prerequisites_spelled paths) ≡ true
paths-feed [] h = refl
paths-feed (p ∷ ps) h = feeds-append (9 ∷ spelled false 0 p) (prerequisites_spelled ps) (spelled-feed false 0 p (h.0).1.1) (paths-feed ps h.1)

paths-end : (paths : List (List ℕ)) → is_word_end (prerequisites_spelled paths) ≡ true
paths-end [] = refl
paths-end (p ∷ ps) = refl

word-read : (P : List ℕ) (front signs : List Sign) (words : List WordValue) → 0 < length P → StandsFor (map byte_of front) P → lacks is_blank front ≡ true → ends_word signs ≡ true → WordsAre signs words
    → (at : ℕ) × WordsAre (front ++ signs) (record { at = at; text = P } ∷ words)
word-read P [] signs words some stands free ends are = absurd (by stands some)
  where
    by : {text : List ℕ} → StandsFor [] text → 0 < length text → ⊥
    by Empty h = omega (arith, h)
word-read P (s ∷ front) signs words some stands free ends are = (s.at, Word s front free stands ends are)

paths-wrote : (paths : List (List ℕ)) → AllByRecursion CanBeListed paths → Closes (PathsWrote paths) (prerequisites_spelled paths)
paths-wrote [] h at n = (
  [],
  cast (sym (append_nil (backslashes n))) (sym (append_nil (kept_at at n))) (Rest n),
  record { words = []; are = NoWords; texts = refl; ends = refl; no_end = refl },
)
paths-wrote (p ∷ ps) h at n =
    let after = prerequisites_spelled ps in
    let w = wrote (PathsWrote ps) false after (paths-feed ps h.1) (paths-end ps) (paths-wrote ps h.1) p (h.0).1.1 (at + n + 1) 0 in
    let blank : Sign = record { at = at; mark = Blank } in
    let rest = w.holds in
    let word = word-read p w.front w.signs rest.words (h.0).1.0 w.stands w.no_blank rest.ends rest.are in (
      blank ∷ w.front ++ w.signs,
      Run (Tab {n = n}) w.reads,
      record {
        words = record { at = word.0; text = p } ∷ rest.words;
        are = Gap refl word.1;
        texts = ap (λ qs. p ∷ qs) rest.texts;
        ends = refl;
        no_end = lacks-append is_line_end w.front w.signs w.no_end rest.no_end;
      },
    )

-- the separating colon and what follows it
record RuleWrote (paths : List (List ℕ)) (signs : List Sign) : Type 0 where
  at : ℕ
  after : List Sign
  whole : record { at = at; mark = Colon } ∷ after ≡ signs
  paths_wrote : PathsWrote paths after

rule-wrote : (paths : List (List ℕ)) → AllByRecursion CanBeListed paths → Closes (RuleWrote paths) (58 ∷ prerequisites_spelled paths)
rule-wrote paths h at n =
    let rest = paths-wrote paths h (at + n + 1) 0 in (
      record { at = at; mark = Colon } ∷ rest.0,
      Run (Separates {n = n} (paths-end paths)) rest.1,
      record { at = at; after = rest.0; whole = refl; paths_wrote = rest.2 },
    )

names-canonical : (words : List WordValue) (paths : List (List ℕ)) → map (λ (word : WordValue). word.text) words ≡ paths → AllByRecursion CanBeListed paths
    → (map path_named words ≡ paths) × AllByRecursion IsShort words
names-canonical [] paths e h = (e, tt)
names-canonical (w ∷ ws) [] e h = cc
names-canonical (w ∷ ws) (p ∷ ps) e h =
    let first : w.text ≡ p = cc in
    let others : map (λ (word : WordValue). word.text) ws ≡ ps = cc in
    let rest = names-canonical ws ps others h.1 in
    let is = (h.0).0 in (
      (λ j. (ap canonical first ∙ is.own) j ∷ rest.0 j),
      (subst (λ (t : List ℕ). length t ≤ 4096) (sym first) is.few, rest.1),
    )

pub lists-spelled : (output : List ℕ) (paths : List (List ℕ)) → CanBeListed output → AllByRecursion CanBeListed paths → IsDistinct bytes_eq paths → Gives (output ∷ []) (spelling output paths) paths
lists-spelled output paths o h distinct =
    let w = wrote (RuleWrote paths) true (58 ∷ prerequisites_spelled paths) (paths-feed paths h) refl (rule-wrote paths h) output o.1.1 0 0 in
    let r = w.holds in
    let listed = r.paths_wrote in
    let colon : Sign = record { at = r.at; mark = Colon } in
    let target = word-read output w.front [] [] o.1.0 w.stands w.no_blank refl NoWords in
    let targets : List WordValue = record { at = target.0; text = output } ∷ [] in
    let line : LineValue = record { targets = targets; rule = Some (record { at = r.at; prerequisites = listed.words }) } in
    let before : WordsAre w.front targets = subst (λ (ss : List Sign). WordsAre ss targets) (append_nil w.front) target.1 in
    let is : LineIs (w.front ++ colon ∷ r.after) line = Rule w.front colon (w.no_colon refl) refl before listed.are in
    let free : lacks is_line_end (w.front ++ colon ∷ r.after) ≡ true = lacks-append is_line_end w.front (colon ∷ r.after) w.no_end listed.no_end in
    let names = names-canonical listed.words paths listed.texts h in
    let found : list_any (bytes_eq (canonical output)) (output ∷ []) ≡ true =
    (λ j. bytes_eq ((o.0).own j) output || false) ∙ ap (λ t. t || false) ((bytes_eq-Decides output output).1 refl) in record {
      lines = line ∷ [];
      mentions = map path_named listed.words ++ [];
      is = record { signs = w.front ++ colon ∷ r.after; reads = cast refl (ap (λ ss. w.front ++ ss) (sym r.whole)) w.reads; cut = Last free is };
      give = Then (Listed (inl ((o.0).few, found)) names.1) NoLines;
      once = ap first_mentions (append_nil (map path_named listed.words) ∙ names.0) ∙ mentions-once paths distinct;
    }

-- which words are read at all
abbrev SignHolds : Sign → Type 0
SignHolds s = (is_held (byte_of s) || (is_blank s || is_line_end s)) ≡ true

kept-hold : (at n : ℕ) (signs : List Sign) → AllByRecursion SignHolds signs → AllByRecursion SignHolds (kept_at at n ++ signs)
kept-hold at zero signs h = h
kept-hold at (suc n) signs h = (refl, kept-hold at n signs h)

says-hold : {n kept : ℕ} {bytes after : List ℕ} {mark : Mark} (at : ℕ) → Says n bytes after kept mark → SignHolds (record { at = at; mark = mark })
says-hold at (Ends e) = refl
says-hold at (Joins e) = refl
says-hold at (Parts half) = refl
says-hold at (Space half) = refl
says-hold at Tab = refl
says-hold at Hash = refl
says-hold at (Inner h) = refl
says-hold at (Separates h) = refl
says-hold at (Itself {n} {b} {after} h) =
    let parts = both (not (b == 10 || (b == 32 || (b == 9 || (b == 35 || (b == 58 || b == 92)))))) (not (is_line_end_return b after)) h in
    let a = neither (b == 10) (b == 32 || (b == 9 || (b == 35 || (b == 58 || b == 92)))) (not-true (b == 10 || (b == 32 || (b == 9 || (b == 35 || (b == 58 || b == 92))))) parts.0) in
    let c = neither (b == 32) (b == 9 || (b == 35 || (b == 58 || b == 92))) a.1 in
    let d = neither (b == 9) (b == 35 || (b == 58 || b == 92)) c.1 in
    (λ j. not (d.0 j || a.0 j) || (false || false))

signs-hold : {at : ℕ} {text : List ℕ} {signs : List Sign} → ReadsAs at text signs → AllByRecursion SignHolds signs
signs-hold (Rest {at} n) = subst (AllByRecursion SignHolds) (append_nil (kept_at at n)) (kept-hold at n [] tt)
signs-hold (Run {at} {n} {kept} {bytes} {text} {mark} {signs} says r) = kept-hold at kept (record { at = at; mark = mark } ∷ signs) (says-hold at says, signs-hold r)

all-front : (P : Sign → Type 0) (xs ys : List Sign) → AllByRecursion P (xs ++ ys) → AllByRecursion P xs × AllByRecursion P ys
all-front P [] ys h = (tt, h)
all-front P (x ∷ xs) ys h = let rest = all-front P xs ys h.1 in ((h.0, rest.0), rest.1)

lacks-front : (test : Sign → Bool) (xs ys : List Sign) → lacks test (xs ++ ys) ≡ true → (lacks test xs ≡ true) × (lacks test ys ≡ true)
lacks-front test [] ys h = (refl, h)
lacks-front test (x ∷ xs) ys h =
    let parts = neither (test x) (list_any test (xs ++ ys)) (not-true (test x || list_any test (xs ++ ys)) h) in
    let rest = lacks-front test xs ys (ap not parts.1) in
    (ap (λ t. not (t || list_any test xs)) parts.0 ∙ rest.0, rest.1)

word-holds : (word : List Sign) → AllByRecursion SignHolds word → lacks is_blank word ≡ true → lacks is_line_end word ≡ true → list_all is_held (map byte_of word) ≡ true
word-holds [] h blank end = refl
word-holds (s ∷ word) h blank end =
    let b = neither (is_blank s) (list_any is_blank word) (not-true (is_blank s || list_any is_blank word) blank) in
    let e = neither (is_line_end s) (list_any is_line_end word) (not-true (is_line_end s || list_any is_line_end word) end) in
    let here : is_held (byte_of s) ≡ true = sym (or-nothing (is_held (byte_of s))) ∙ sym (λ j. is_held (byte_of s) || (b.0 j || e.0 j)) ∙ h.0 in
    (λ j. here j && word-holds word h.1 (ap not b.1) (ap not e.1) j)
  where
    or-nothing : (t : Bool) → (t || (false || false)) ≡ t
    or-nothing true = refl
    or-nothing false = refl

stands-hold : {raw text : List ℕ} → StandsFor raw text → list_all is_held raw ≡ true → list_all is_held text ≡ true
stands-hold Empty h = h
stands-hold (Dollars r) h = stands-hold r h
stands-hold (Own {b} {raw} e r) h =
    let parts = both (is_held b) (list_all is_held raw) h in
    (λ j. parts.0 j && stands-hold r parts.1 j)

stands-some : {b : ℕ} {raw text : List ℕ} → StandsFor (b ∷ raw) text → 0 < length text
stands-some (Dollars r) = omega arith
stands-some (Own e r) = omega arith

words-hold : {signs : List Sign} {words : List WordValue} → WordsAre signs words → AllByRecursion SignHolds signs → lacks is_line_end signs ≡ true → AreHeld words
words-hold NoWords h end = tt
words-hold (Gap {s} {signs} is r) h end = words-hold r h.1 (ap not (neither (is_line_end s) (list_any is_line_end signs) (not-true (is_line_end s || list_any is_line_end signs) end)).1)
words-hold (Word s word {text} {signs} {words} free stands ends r) h end =
    let all = all-front SignHolds (s ∷ word) signs h in
    let none = lacks-front is_line_end (s ∷ word) signs end in
    ((stands-some stands, stands-hold stands (word-holds (s ∷ word) all.0 free none.0)), words-hold r all.1 none.1)

line-holds : {signs : List Sign} {line : LineValue} → LineIs signs line → AllByRecursion SignHolds signs → lacks is_line_end signs ≡ true → LineHolds line
line-holds (Bare free r) h end = (words-hold r h end, tt)
line-holds (Rule before colon {after} free is r rest) h end =
    let all = all-front SignHolds before (colon ∷ after) h in
    let none = lacks-front is_line_end before (colon ∷ after) end in
    let later = lacks-front is_line_end (colon ∷ []) after none.1 in
    (words-hold r all.0 none.0, words-hold rest all.1.1 later.1)

lines-hold : {signs : List Sign} {lines : List LineValue} → LinesAre signs lines → AllByRecursion SignHolds signs → AllByRecursion LineHolds lines
lines-hold (Last free l) h = (line-holds l h free, tt)
lines-hold (More front end {signs} free is l r) h =
    let all = all-front SignHolds front (end ∷ signs) h in
    (line-holds l all.0 free, lines-hold r all.1.1)

pub words-held : (text : List ℕ) (lines : List LineValue) → IsDepfile text lines → AllByRecursion LineHolds lines
words-held text lines is = lines-hold is.cut (signs-hold is.reads)
