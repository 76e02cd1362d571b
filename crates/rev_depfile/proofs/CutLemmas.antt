-- The words and lines that the functions cut signs into are those of the grammar.
use Rattle.std.proofs.Common.{◌≡◌, ℕ, suc, ◌==◌, Bool, true, false, not, ◌&&◌, ◌||◌, List, [], ◌∷◌, ◌++◌, Some, None, map, filter, take, drop, refl, sym, ap, ◌∙◌, subst, if◌then◌else◌}
use Rattle.std.specs.List.{list_any}
use Rattle.std.proofs.lemmas.Bool.{eqb-true}
use Rattle.rev_depfile.specs.declared.sign.Sign.{Sign}
use Rattle.rev_depfile.specs.Lines.{is_line_end, is_blank, is_colon, byte_of, onto, parts, has_some, words, place, before_colon, from_colon, single_dollars, lines}
use Rattle.rev_depfile.specs.Grammar.{begins_dollar, StandsFor, Empty, Dollars, Own, WordValue, lacks, ends_word, WordsAre, NoWords, Gap, Word, LineValue, LineIs, Bare, Rule, LinesAre, Last, More, IsDepfile, word_said, rule_said, line_said, lines_said}
use Rattle.rev_depfile.proofs.WordLemmas.{parts_after}
use Rattle.rev_depfile.proofs.GrammarLemmas.{both, not-true, neither, append_nil, text-found, text-given}

-- what the bytes of a word stand for
pub stands-given : {raw text : List ℕ} → StandsFor raw text → single_dollars raw ≡ text
stands-given Empty = refl
stands-given (Dollars r) = ap (λ t. 36 ∷ t) (stands-given r)
stands-given (Own {b} {raw} h r) = by raw h (stands-given r)
  where
    by : (raw : List ℕ) {text : List ℕ} → (b == 36 && begins_dollar raw) ≡ false → single_dollars raw ≡ text → single_dollars (b ∷ raw) ≡ b ∷ text
    by [] h e = ap (λ t. b ∷ t) e
    by (c ∷ cs) h e = ap (λ t. if t then 36 ∷ single_dollars cs else b ∷ single_dollars (c ∷ cs)) h ∙ ap (λ t. b ∷ t) e

and-false : (b : Bool) → (b && false) ≡ false
and-false true = refl
and-false false = refl

stands-step : (b c : ℕ) (bs : List ℕ) → StandsFor bs (single_dollars bs) → StandsFor (c ∷ bs) (single_dollars (c ∷ bs)) → StandsFor (b ∷ c ∷ bs) (single_dollars (b ∷ c ∷ bs))
stands-step b c bs two one = by (b == 36 && c == 36) refl
  where
    pair : {x y : ℕ} → x ≡ 36 → y ≡ 36 → StandsFor (x ∷ y ∷ bs) (36 ∷ single_dollars bs)
    pair {x} {y} e f =
        subst (λ (u : ℕ). StandsFor (u ∷ y ∷ bs) (36 ∷ single_dollars bs)) (sym e) (subst (λ (v : ℕ). StandsFor (36 ∷ v ∷ bs) (36 ∷ single_dollars bs)) (sym f) (Dollars two))

    by : (t : Bool) → (b == 36 && c == 36) ≡ t → StandsFor (b ∷ c ∷ bs) (if t then 36 ∷ single_dollars bs else b ∷ single_dollars (c ∷ bs))
    by true h = let parts = both (b == 36) (c == 36) h in pair (eqb-true b 36 parts.0) (eqb-true c 36 parts.1)
    by false h = Own h one

pub stands-found : (raw : List ℕ) → StandsFor raw (single_dollars raw)
stands-found [] = Empty
stands-found (b ∷ []) = Own (and-false (b == 36)) Empty
stands-found (b ∷ c ∷ bs) = stands-step b c bs (stands-found bs) (stands-found (c ∷ bs))

-- cutting a list at the elements that pass a test
lacks-parts : (test : Sign → Bool) (x : Sign) (xs : List Sign) → lacks test (x ∷ xs) ≡ true → (test x ≡ false) × (lacks test xs ≡ true)
lacks-parts test x xs h =
    let parts = neither (test x) (list_any test xs) (not-true (test x || list_any test xs) h) in
    (parts.0, ap not parts.1)

-- a list begins with an element that passes, or has none
abbrev Stops : (Sign → Bool) → List Sign → Type 0
Stops test [] = Unit {0}
Stops test (x ∷ xs) = test x ≡ true

parts-front : (test : Sign → Bool) (xs rest : List Sign) → lacks test xs ≡ true → Stops test rest → parts test (xs ++ rest) ≡ xs ∷ parts_after test rest
parts-front test [] [] h stops = refl
parts-front test [] (y ∷ ys) h stops = ap (λ t. if t then [] ∷ parts test ys else onto y (parts test ys)) stops
parts-front test (x ∷ xs) rest h stops =
    let first = lacks-parts test x xs h in
    ap (λ t. if t then [] ∷ parts test (xs ++ rest) else onto x (parts test (xs ++ rest))) first.0 ∙ ap (onto x) (parts-front test xs rest first.1 stops)

place-front : (test : Sign → Bool) (xs rest : List Sign) → lacks test xs ≡ true → Stops test rest → (take (place test (xs ++ rest)) (xs ++ rest) ≡ xs) × (drop (place test (xs ++ rest)) (xs ++ rest) ≡ rest)
place-front test [] [] h stops = (refl, refl)
place-front test [] (y ∷ ys) h stops = (
  ap (λ t. take (if t then 0 else suc (place test ys)) (y ∷ ys)) stops,
  ap (λ t. drop (if t then 0 else suc (place test ys)) (y ∷ ys)) stops,
)
place-front test (x ∷ xs) rest h stops =
    let first = lacks-parts test x xs h in
    let later = place-front test xs rest first.1 stops in (
      ap (λ t. take (if t then 0 else suc (place test (xs ++ rest))) (x ∷ xs ++ rest)) first.0 ∙ ap (λ ys. x ∷ ys) later.0,
      ap (λ t. drop (if t then 0 else suc (place test (xs ++ rest))) (x ∷ xs ++ rest)) first.0 ∙ later.1,
    )

-- a list cut before its first element that passes
record Cut (test : Sign → Bool) (P : List Sign → Type 0) (signs : List Sign) : Type 0 where
  front : List Sign
  rest : List Sign
  whole : front ++ rest ≡ signs
  free : lacks test front ≡ true
  stops : Stops test rest
  holds : P rest

-- one element more
cut-more : (test : Sign → Bool) (P : List Sign → Type 0) (x : Sign) (xs : List Sign) → Cut test P xs → ((test x ≡ true) → P (x ∷ xs)) → Cut test P (x ∷ xs)
cut-more test P x xs cut here = by (test x) refl
  where
    by : (t : Bool) → test x ≡ t → Cut test P (x ∷ xs)
    by true e = record { front = []; rest = x ∷ xs; whole = refl; free = refl; stops = e; holds = here e }
    by false e = record {
      front = x ∷ cut.front;
      rest = cut.rest;
      whole = ap (λ ys. x ∷ ys) cut.whole;
      free = (λ j. not (e j || list_any test cut.front)) ∙ cut.free;
      stops = cut.stops;
      holds = cut.holds;
    }

cut-found : (test : Sign → Bool) (signs : List Sign) → Cut test (λ rest. Unit {0}) signs
cut-found test [] = record { front = []; rest = []; whole = refl; free = refl; stops = tt; holds = tt }
cut-found test (x ∷ xs) = cut-more test (λ rest. Unit {0}) x xs (cut-found test xs) (λ e. tt)

-- words
abbrev said_words : List Sign → List WordValue
said_words signs = map word_said (words signs)

stops-word : (signs : List Sign) → ends_word signs ≡ true → Stops is_blank signs
stops-word [] h = tt
stops-word (s ∷ signs) h = h

word-ends : (signs : List Sign) → Stops is_blank signs → ends_word signs ≡ true
word-ends [] h = refl
word-ends (s ∷ signs) h = h

words-gap : (s : Sign) (signs : List Sign) → is_blank s ≡ true → words (s ∷ signs) ≡ words signs
words-gap s signs h = ap (λ t. filter has_some (if t then [] ∷ parts is_blank signs else onto s (parts is_blank signs))) h

after-words : (signs : List Sign) → Stops is_blank signs → filter has_some (parts_after is_blank signs) ≡ words signs
after-words [] h = refl
after-words (s ∷ signs) h = sym (words-gap s signs h)

words-front : (s : Sign) (word signs : List Sign) → lacks is_blank (s ∷ word) ≡ true → Stops is_blank signs → words ((s ∷ word) ++ signs) ≡ (s ∷ word) ∷ words signs
words-front s word signs free stops =
    ap (filter has_some) (parts-front is_blank (s ∷ word) signs free stops) ∙ ap (λ ws. (s ∷ word) ∷ ws) (after-words signs stops)

pub words-given : {signs : List Sign} {words : List WordValue} → WordsAre signs words → said_words signs ≡ words
words-given NoWords = refl
words-given (Gap {s} {signs} h r) = ap (map word_said) (words-gap s signs h) ∙ words-given r
words-given (Word s word {text} {signs} {words} free stands ends r) =
    ap (map word_said) (words-front s word signs free (stops-word signs ends))
    ∙ (λ j. record { at = s.at; text = stands-given stands j } ∷ words-given r j)

abbrev WordsFound : List Sign → Type 0
WordsFound signs = WordsAre signs (said_words signs)

word-cut : (front rest : List Sign) → lacks is_blank front ≡ true → Stops is_blank rest → WordsFound rest → WordsFound (front ++ rest)
word-cut [] rest free stops found = found
word-cut (s ∷ word) rest free stops found =
    subst (λ (ws : List WordValue). WordsAre ((s ∷ word) ++ rest) ws) (ap (map word_said) (sym (words-front s word rest free stops)))
    (Word s word free (stands-found (map byte_of (s ∷ word))) (word-ends rest stops) found)

words-cut : {signs : List Sign} → Cut is_blank WordsFound signs → WordsFound signs
words-cut cut = subst WordsFound cut.whole (word-cut cut.front cut.rest cut.free cut.stops cut.holds)

cut-words : (signs : List Sign) → Cut is_blank WordsFound signs
cut-words [] = record { front = []; rest = []; whole = refl; free = refl; stops = tt; holds = NoWords }
cut-words (s ∷ signs) =
    let cut = cut-words signs in
    cut-more is_blank WordsFound s signs cut
    (λ h. subst (λ (ws : List WordValue). WordsAre (s ∷ signs) ws) (ap (map word_said) (sym (words-gap s signs h))) (Gap h (words-cut cut)))

pub words-found : (signs : List Sign) → WordsFound signs
words-found signs = words-cut (cut-words signs)

-- lines
pub line-given : {signs : List Sign} {line : LineValue} → LineIs signs line → line_said signs ≡ line
line-given (Bare {signs} {words} free r) =
    let cut = place-front is_colon signs [] free tt in
    let whole = append_nil signs in
    let before : before_colon signs ≡ signs = ap before_colon (sym whole) ∙ cut.0 in
    let from : from_colon signs ≡ [] = ap from_colon (sym whole) ∙ cut.1 in
    (λ j. record { targets = (ap said_words before ∙ words-given r) j; rule = rule_said (from j) })
line-given (Rule before colon {after} {targets} {prerequisites} free is r rest) =
    let cut = place-front is_colon before (colon ∷ after) free is in
    (λ j. record { targets = (ap said_words cut.0 ∙ words-given r) j; rule = rule_said (cut.1 j) })
    ∙ ap (λ ws. record { targets = targets; rule = Some (record { at = colon.at; prerequisites = ws }) }) (words-given rest)

line-cut : (front rest : List Sign) → lacks is_colon front ≡ true → Stops is_colon rest → LineIs (front ++ rest) (record { targets = said_words front; rule = rule_said rest })
line-cut front [] free stops = subst (λ (xs : List Sign). LineIs xs (record { targets = said_words front; rule = None })) (sym (append_nil front)) (Bare free (words-found front))
line-cut front (colon ∷ after) free stops = Rule front colon free stops (words-found front) (words-found after)

pub line-found : (signs : List Sign) → LineIs signs (line_said signs)
line-found signs =
    let cut = cut-found is_colon signs in
    let at = place-front is_colon cut.front cut.rest cut.free cut.stops in
    let said : record { targets = said_words cut.front; rule = rule_said cut.rest } ≡ line_said (cut.front ++ cut.rest) =
    sym (λ j. record { targets = said_words (at.0 j); rule = rule_said (at.1 j) }) in
    subst (λ (xs : List Sign). LineIs xs (line_said xs)) cut.whole
    (subst (λ (line : LineValue). LineIs (cut.front ++ cut.rest) line) said (line-cut cut.front cut.rest cut.free cut.stops))

-- all lines
abbrev said_lines : List Sign → List LineValue
said_lines signs = map line_said (parts is_line_end signs)

pub lines-given : {signs : List Sign} {lines : List LineValue} → LinesAre signs lines → said_lines signs ≡ lines
lines-given (Last {signs} {line} free l) =
    ap said_lines (sym (append_nil signs)) ∙ ap (map line_said) (parts-front is_line_end signs [] free tt) ∙ ap (λ x. x ∷ []) (line-given l)
lines-given (More front end {signs} {line} {lines} free is l r) =
    ap (map line_said) (parts-front is_line_end front (end ∷ signs) free is) ∙ (λ j. line-given l j ∷ lines-given r j)

abbrev LinesFound : List Sign → Type 0
LinesFound signs = LinesAre signs (said_lines signs)

-- the lines behind a line end
abbrev LaterFound : List Sign → Type 0
LaterFound [] = Unit {0}
LaterFound (end ∷ signs) = LinesFound signs

lines-cut-at : (front rest : List Sign) → lacks is_line_end front ≡ true → Stops is_line_end rest → LaterFound rest → LinesFound (front ++ rest)
lines-cut-at front [] free stops found =
    let one : said_lines front ≡ line_said front ∷ [] = ap said_lines (sym (append_nil front)) ∙ ap (map line_said) (parts-front is_line_end front [] free tt) in
    subst LinesFound (sym (append_nil front)) (subst (λ (ls : List LineValue). LinesAre front ls) (sym one) (Last free (line-found front)))
lines-cut-at front (end ∷ signs) free stops found =
    subst (λ (ls : List LineValue). LinesAre (front ++ end ∷ signs) ls) (ap (map line_said) (sym (parts-front is_line_end front (end ∷ signs) free stops)))
    (More front end free stops (line-found front) found)

lines-cut : {signs : List Sign} → Cut is_line_end LaterFound signs → LinesFound signs
lines-cut cut = subst LinesFound cut.whole (lines-cut-at cut.front cut.rest cut.free cut.stops cut.holds)

cut-lines : (signs : List Sign) → Cut is_line_end LaterFound signs
cut-lines [] = record { front = []; rest = []; whole = refl; free = refl; stops = tt; holds = tt }
cut-lines (s ∷ signs) = let cut = cut-lines signs in cut-more is_line_end LaterFound s signs cut (λ h. lines-cut cut)

pub lines-found : (signs : List Sign) → LinesFound signs
lines-found signs = lines-cut (cut-lines signs)

-- a text is a depfile of the lines that the functions read, and of no others
pub depfile-found : (text : List ℕ) → IsDepfile text (lines_said text)
depfile-found text = record { signs = _; reads = text-found text; cut = lines-found _ }

pub depfile-given : (text : List ℕ) (lines : List LineValue) → IsDepfile text lines → lines_said text ≡ lines
depfile-given text lines is = ap said_lines (text-given is.reads) ∙ lines-given is.cut

pub depfiles-read : (text : List ℕ) (lines : List LineValue) → (lines_said text ≡ lines → IsDepfile text lines) × (IsDepfile text lines → lines_said text ≡ lines)
depfiles-read text lines = (λ e. subst (IsDepfile text) e (depfile-found text), depfile-given text lines)
