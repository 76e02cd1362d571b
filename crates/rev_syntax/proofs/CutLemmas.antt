-- The lines that the functions cut are those of the grammar.
use Rattle.std.proofs.Common.{◌≡◌, ℕ, zero, suc, ◌+◌, ◌≤◌, ◌==◌, Bool, true, false, not, ◌||◌, cond, List, [], ◌∷◌, ◌++◌, length, drop, refl, sym, ap, ◌∙◌, subst, arith, if◌then◌else◌, append_assoc}
use Rattle.std.specs.List.{list_any, slice_split, onto_first, prefix_len}
use Rattle.std.proofs.lemmas.Bool.{eqb-true}
use Rattle.rev_syntax.specs.Bytes.{is_byte, is_space, is_empty, begins_with, without_spaces}
use Rattle.rev_syntax.specs.Lines.{LineValue, without_return, lines_of_pieces, file_lines, is_dropped, ends_alone, without_last, before_first, joined, lines_from, lines_of}
use Rattle.rev_syntax.specs.Cutting.{lacks_feed, ends_return, IsCut, NoLines, LastLine, Feed, ReturnFeed, spaces, IsDropped, Blank, Comment, IsPaired, NoBytes, Single, Taken, Joins, Whole, Joined, Open, AreLines, NoMore, Dropped, Line, IsFile}
use Rattle.rev_syntax.proofs.LineLemmas.{without_return-return, without_last-push}
use Rattle.rev_syntax.proofs.GrammarLemmas.{not_true}

pub neither : (a b : Bool) → (a || b) ≡ false → (a ≡ false) × (b ≡ false)
neither true b h = cc
neither false b h = (refl, h)

pub append_nil : {A : Type 0} (xs : List A) → xs ++ [] ≡ xs
append_nil [] = refl
append_nil (x ∷ xs) = ap (λ ys. x ∷ ys) (append_nil xs)

-- the pieces round line feeds
abbrev pieces : List ℕ → List (List ℕ)
pieces content = slice_split (is_byte 10) content

piece-front : (raw content : List ℕ) → lacks_feed raw ≡ true → pieces (raw ++ 10 ∷ content) ≡ raw ∷ pieces content
piece-front [] content h = refl
piece-front (b ∷ bs) content h =
    let parts = neither (is_byte 10 b) (list_any (is_byte 10) bs) (not_true (is_byte 10 b || list_any (is_byte 10) bs) h) in
    ap (λ t. cond t ([] ∷ pieces (bs ++ 10 ∷ content)) (onto_first b (pieces (bs ++ 10 ∷ content)))) parts.0
    ∙ ap (onto_first b) (piece-front bs content (ap not parts.1))

piece-last : (raw : List ℕ) → lacks_feed raw ≡ true → pieces raw ≡ raw ∷ []
piece-last [] h = refl
piece-last (b ∷ bs) h =
    let parts = neither (is_byte 10 b) (list_any (is_byte 10) bs) (not_true (is_byte 10 b || list_any (is_byte 10) bs) h) in
    ap (λ t. cond t ([] ∷ pieces bs) (onto_first b (pieces bs))) parts.0 ∙ ap (onto_first b) (piece-last bs (ap not parts.1))

-- there is a first piece
record Pieces (content : List ℕ) : Type 0 where
  first : List ℕ
  others : List (List ℕ)
  are : pieces content ≡ first ∷ others

pieces-are : (content : List ℕ) → Pieces content
pieces-are [] = record { first = []; others = []; are = refl }
pieces-are (b ∷ bs) = by (is_byte 10 b) refl (pieces-are bs)
  where
    by : (t : Bool) → is_byte 10 b ≡ t → Pieces bs → Pieces (b ∷ bs)
    by true e rest = record { first = []; others = pieces bs; are = ap (λ t. cond t ([] ∷ pieces bs) (onto_first b (pieces bs))) e }
    by false e rest = record {
      first = b ∷ rest.first;
      others = rest.others;
      are = ap (λ t. cond t ([] ∷ pieces bs) (onto_first b (pieces bs))) e ∙ ap (onto_first b) rest.are;
    }

-- one line more
lines-more : (raw content : List ℕ) → lacks_feed raw ≡ true → file_lines (raw ++ 10 ∷ content) ≡ without_return raw ∷ file_lines content
lines-more raw content h =
    let rest = pieces-are content in
    ap lines_of_pieces (piece-front raw content h ∙ ap (λ ps. raw ∷ ps) rest.are) ∙ ap (λ ps. without_return raw ∷ lines_of_pieces ps) (sym rest.are)

keeps-return : (raw : List ℕ) → ends_return raw ≡ false → without_return raw ≡ raw
keeps-return [] h = refl
keeps-return (b ∷ []) h = ap (λ t. if t then [] else b ∷ []) h
keeps-return (b ∷ c ∷ cs) h = ap (λ t. b ∷ t) (keeps-return (c ∷ cs) h)

has-return : (raw : List ℕ) → ends_return raw ≡ true → without_return raw ++ 13 ∷ [] ≡ raw
has-return [] h = cc
has-return (b ∷ []) h = ap (λ t. (if t then [] else b ∷ []) ++ 13 ∷ []) h ∙ ap (λ x. x ∷ []) (sym (eqb-true b 13 h))
has-return (b ∷ c ∷ cs) h = ap (λ t. b ∷ t) (has-return (c ∷ cs) h)

feed-append : (xs ys : List ℕ) → lacks_feed xs ≡ true → lacks_feed ys ≡ true → lacks_feed (xs ++ ys) ≡ true
feed-append [] ys h e = e
feed-append (x ∷ xs) ys h e =
    let parts = neither (is_byte 10 x) (list_any (is_byte 10) xs) (not_true (is_byte 10 x || list_any (is_byte 10) xs) h) in
    ap (λ t. not (t || list_any (is_byte 10) (xs ++ ys))) parts.0 ∙ feed-append xs ys (ap not parts.1) e

feed-front : (xs ys : List ℕ) → lacks_feed (xs ++ ys) ≡ true → lacks_feed xs ≡ true
feed-front [] ys h = refl
feed-front (x ∷ xs) ys h =
    let parts = neither (is_byte 10 x) (list_any (is_byte 10) (xs ++ ys)) (not_true (is_byte 10 x || list_any (is_byte 10) (xs ++ ys)) h) in
    ap (λ t. not (t || list_any (is_byte 10) xs)) parts.0 ∙ feed-front xs ys (ap not parts.1)

cut-given : {content : List ℕ} {raws : List (List ℕ)} → IsCut content raws → file_lines content ≡ raws
cut-given NoLines = refl
cut-given (LastLine raw some free) = ap lines_of_pieces (piece-last raw free) ∙ ap (λ t. if t then [] else raw ∷ []) some
cut-given (Feed raw {content} free kept r) = lines-more raw content free ∙ (λ j. keeps-return raw kept j ∷ cut-given r j)
cut-given (ReturnFeed raw {content} free r) =
    ap file_lines (sym (append_assoc raw (13 ∷ []) (10 ∷ content))) ∙ lines-more (raw ++ 13 ∷ []) content (feed-append raw (13 ∷ []) free refl)
    ∙ (λ j. without_return-return raw 13 refl j ∷ cut-given r j)

-- a file without a line feed, or up to its first
record FeedCut (content : List ℕ) : Type 0 where
  front : List ℕ
  rest : List ℕ
  whole : front ++ 10 ∷ rest ≡ content
  free : lacks_feed front ≡ true
  shorter : suc (length rest) ≤ length content

data FeedFound (content : List ℕ) : Type 0 where
  NoFeed : lacks_feed content ≡ true → FeedFound content
  AtFeed : FeedCut content → FeedFound content

find-feed : (content : List ℕ) → FeedFound content
find-feed [] = NoFeed refl
find-feed (b ∷ bs) = by (is_byte 10 b) refl (find-feed bs)
  where
    by : (t : Bool) → is_byte 10 b ≡ t → FeedFound bs → FeedFound (b ∷ bs)
    by true e found = AtFeed (record { front = []; rest = bs; whole = ap (λ x. x ∷ bs) (sym (eqb-true b 10 e)); free = refl; shorter = omega arith })
    by false e (NoFeed free) = NoFeed (ap (λ t. not (t || list_any (is_byte 10) bs)) e ∙ free)
    by false e (AtFeed cut) = AtFeed (record {
      front = b ∷ cut.front;
      rest = cut.rest;
      whole = ap (λ t. b ∷ t) cut.whole;
      free = ap (λ t. not (t || list_any (is_byte 10) cut.front)) e ∙ cut.free;
      shorter = omega (arith, cut.shorter);
    })

cut-line : (front rest : List ℕ) → lacks_feed front ≡ true → IsCut rest (file_lines rest) → IsCut (front ++ 10 ∷ rest) (without_return front ∷ file_lines rest)
cut-line front rest free r = by (ends_return front) refl
  where
    by : (t : Bool) → ends_return front ≡ t → IsCut (front ++ 10 ∷ rest) (without_return front ∷ file_lines rest)
    by false e = subst (λ (raw : List ℕ). IsCut (front ++ 10 ∷ rest) (raw ∷ file_lines rest)) (sym (keeps-return front e)) (Feed front free e r)
    by true e =
        let whole = has-return front e in
        let less = feed-front (without_return front) (13 ∷ []) (ap lacks_feed whole ∙ free) in
        subst (λ (content : List ℕ). IsCut content (without_return front ∷ file_lines rest))
        (sym (append_assoc (without_return front) (13 ∷ []) (10 ∷ rest)) ∙ ap (λ t. t ++ 10 ∷ rest) whole)
        (ReturnFeed (without_return front) less r)

cut-last : (content : List ℕ) → lacks_feed content ≡ true → IsCut content (file_lines content)
cut-last content free = subst (IsCut content) (sym (ap lines_of_pieces (piece-last content free))) (by content free)
  where
    by : (raw : List ℕ) → lacks_feed raw ≡ true → IsCut raw (if is_empty raw then [] else raw ∷ [])
    by [] free = NoLines
    by (b ∷ bs) free = LastLine (b ∷ bs) refl free

cut-found : (k : ℕ) (content : List ℕ) → length content ≤ k → IsCut content (file_lines content)
cut-found zero [] h = NoLines
cut-found zero (b ∷ bs) h = absurd (omega (arith, h))
cut-found (suc k) content h = by (find-feed content) (cut-found k)
  where
    by : FeedFound content → ((other : List ℕ) → length other ≤ k → IsCut other (file_lines other)) → IsCut content (file_lines content)
    by (NoFeed free) later = cut-last content free
    by (AtFeed cut) later =
        let few : length cut.rest ≤ k = omega (arith, cut.shorter, h) in
        let made = cut-line cut.front cut.rest cut.free (later cut.rest few) in
        let same : IsCut (cut.front ++ 10 ∷ cut.rest) (file_lines (cut.front ++ 10 ∷ cut.rest)) =
        subst (IsCut (cut.front ++ 10 ∷ cut.rest)) (sym (lines-more cut.front cut.rest cut.free)) made in
        subst (λ (other : List ℕ). IsCut other (file_lines other)) cut.whole same

-- spaces at the front
one-more : (n : ℕ) → 1 + n ≡ suc n
one-more n = omega arith

pub spaces-front : (k : ℕ) (next : List ℕ) → begins_with 32 next ≡ false → without_spaces (spaces k ++ next) ≡ next
spaces-front zero [] h = refl
spaces-front zero (b ∷ bs) h = ap (λ t. drop (cond t (1 + prefix_len is_space bs) 0) (b ∷ bs)) h
spaces-front (suc k) next h = ap (λ n. drop n (32 ∷ spaces k ++ next)) (one-more (prefix_len is_space (spaces k ++ next))) ∙ spaces-front k next h

pub record SpacesCut (raw : List ℕ) : Type 0 where
  pub count : ℕ
  pub next : List ℕ
  pub whole : spaces count ++ next ≡ raw
  pub stops : begins_with 32 next ≡ false

pub spaces-cut : (raw : List ℕ) → SpacesCut raw
spaces-cut [] = record { count = 0; next = []; whole = refl; stops = refl }
spaces-cut (b ∷ bs) = by (b == 32) refl (spaces-cut bs)
  where
    by : (t : Bool) → (b == 32) ≡ t → SpacesCut bs → SpacesCut (b ∷ bs)
    by true e cut = record { count = suc cut.count; next = cut.next; whole = (λ j. sym (eqb-true b 32 e) j ∷ cut.whole j); stops = cut.stops }
    by false e cut = record { count = 0; next = b ∷ bs; whole = refl; stops = e }

pub without-cut : {raw : List ℕ} (cut : SpacesCut raw) → without_spaces raw ≡ cut.next
without-cut cut = ap without_spaces (sym cut.whole) ∙ spaces-front cut.count cut.next cut.stops

-- dropped lines
dropped-given : {raw : List ℕ} → IsDropped raw → is_dropped raw ≡ true
dropped-given (Blank n) =
    let none : without_spaces (spaces n) ≡ [] = ap without_spaces (sym (append_nil (spaces n))) ∙ spaces-front n [] refl in
    ap (λ t. is_empty t || begins_with 35 t) none
dropped-given (Comment n bytes) = ap (λ t. is_empty t || begins_with 35 t) (spaces-front n (35 ∷ bytes) refl)

dropped-found : (raw : List ℕ) → is_dropped raw ≡ true → IsDropped raw
dropped-found raw h =
    let cut = spaces-cut raw in
    subst IsDropped cut.whole (by cut.count cut.next (ap (λ t. is_empty t || begins_with 35 t) (sym (without-cut cut)) ∙ h))
  where
    by : (n : ℕ) (next : List ℕ) → (is_empty next || begins_with 35 next) ≡ true → IsDropped (spaces n ++ next)
    by n [] h = subst IsDropped (sym (append_nil (spaces n))) (Blank n)
    by n (b ∷ bs) h = subst (λ (x : ℕ). IsDropped (spaces n ++ x ∷ bs)) (sym (eqb-true b 35 h)) (Comment n bs)

-- a `$` alone
paired-given : {raw : List ℕ} → IsPaired raw → ends_alone raw ≡ false
paired-given NoBytes = refl
paired-given (Single {b} {bytes} h p) = by bytes h (paired-given p)
  where
    by : (bytes : List ℕ) → (b == 36) ≡ false → ends_alone bytes ≡ false → ends_alone (b ∷ bytes) ≡ false
    by [] h e = h
    by (c ∷ cs) h e = ap (λ t. if t then ends_alone cs else ends_alone (c ∷ cs)) h ∙ e
paired-given (Taken b p) = paired-given p

alone-given : {raw : List ℕ} → IsPaired raw → ends_alone (raw ++ 36 ∷ []) ≡ true
alone-given NoBytes = refl
alone-given (Single {b} {bytes} h p) = by bytes h (alone-given p)
  where
    by : (bytes : List ℕ) → (b == 36) ≡ false → ends_alone (bytes ++ 36 ∷ []) ≡ true → ends_alone (b ∷ bytes ++ 36 ∷ []) ≡ true
    by [] h e = ap (λ t. if t then ends_alone [] else ends_alone (36 ∷ [])) h
    by (c ∷ cs) h e = ap (λ t. if t then ends_alone (cs ++ 36 ∷ []) else ends_alone (c ∷ cs ++ 36 ∷ [])) h ∙ e
alone-given (Taken b p) = alone-given p

-- a line of a file, which ends in a `$` alone or does not
data Ending (raw : List ℕ) : Type 0 where
  Closed : IsPaired raw → Ending raw
  Alone : (front : List ℕ) → IsPaired front → front ++ 36 ∷ [] ≡ raw → Ending raw

ending-more : (b : ℕ) (bytes : List ℕ) → (b == 36) ≡ false → Ending bytes → Ending (b ∷ bytes)
ending-more b bytes h (Closed p) = Closed (Single h p)
ending-more b bytes h (Alone front p whole) = Alone (b ∷ front) (Single h p) (ap (λ t. b ∷ t) whole)

ending-taken : (b c : ℕ) (bytes : List ℕ) → (b == 36) ≡ true → Ending bytes → Ending (b ∷ c ∷ bytes)
ending-taken b c bytes h (Closed p) = Closed (subst (λ (x : ℕ). IsPaired (x ∷ c ∷ bytes)) (sym (eqb-true b 36 h)) (Taken c p))
ending-taken b c bytes h (Alone front p whole) = Alone (36 ∷ c ∷ front) (Taken c p) (λ j. sym (eqb-true b 36 h) j ∷ c ∷ whole j)

ending-step : (b c : ℕ) (bytes : List ℕ) → Ending bytes → Ending (c ∷ bytes) → Ending (b ∷ c ∷ bytes)
ending-step b c bytes two one = by (b == 36) refl
  where
    by : (t : Bool) → (b == 36) ≡ t → Ending (b ∷ c ∷ bytes)
    by true h = ending-taken b c bytes h two
    by false h = ending-more b (c ∷ bytes) h one

ending : (raw : List ℕ) → Ending raw
ending [] = Closed NoBytes
ending (b ∷ []) = by (b == 36) refl
  where
    by : (t : Bool) → (b == 36) ≡ t → Ending (b ∷ [])
    by true h = Alone [] NoBytes (ap (λ x. x ∷ []) (sym (eqb-true b 36 h)))
    by false h = Closed (Single h NoBytes)
ending (b ∷ c ∷ bytes) = ending-step b c bytes (ending bytes) (ending (c ∷ bytes))

-- joined lines
abbrev joined_from : ℕ → ℕ → List ℕ → List (List ℕ) → List LineValue
joined_from number n raw raws = joined number raw (lines_from (ends_alone raw) n raws)

joined-closed : (number n : ℕ) (raw : List ℕ) (raws : List (List ℕ)) → IsPaired raw → joined_from number n raw raws ≡ record { number = number; text = raw; ended = true } ∷ lines_from false n raws
joined-closed number n raw raws p =
    ap (λ t. if t then before_first number (without_last raw) (lines_from t n raws) else record { number = number; text = raw; ended = true } ∷ lines_from t n raws) (paired-given p)

joined-alone : (number n : ℕ) (raw : List ℕ) (raws : List (List ℕ)) → IsPaired raw → joined_from number n (raw ++ 36 ∷ []) raws ≡ before_first number raw (lines_from true n raws)
joined-alone number n raw raws p =
    ap (λ t. if t then before_first number (without_last (raw ++ 36 ∷ [])) (lines_from t n raws) else record { number = number; text = raw ++ 36 ∷ []; ended = true } ∷ lines_from t n raws) (alone-given p)
    ∙ ap (λ t. before_first number t (lines_from true n raws)) (without_last-push raw 36)

joins-given : (number : ℕ) {n : ℕ} {raw : List ℕ} {raws : List (List ℕ)} {text : List ℕ} {ended : Bool} {m : ℕ} {rest : List (List ℕ)} → Joins n raw raws text ended m rest
    → joined_from number n raw raws ≡ record { number = number; text = text; ended = ended } ∷ lines_from false m rest
joins-given number (Whole {n} {raw} {raws} p) = joined-closed number n raw raws p
joins-given number (Joined {n} {raw} k {next} {raws} {text} {ended} {m} {rest} p stops j) =
    joined-alone number n raw ((spaces k ++ next) ∷ raws) p
    ∙ ap (λ t. before_first number raw (joined_from n (suc n) t raws)) (spaces-front k next stops)
    ∙ ap (before_first number raw) (joins-given n j)
joins-given number (Open {n} {raw} p) = joined-alone number n raw [] p ∙ ap (λ t. record { number = number; text = t; ended = false } ∷ []) (append_nil raw)

lines-given : {n : ℕ} {raws : List (List ℕ)} {lines : List LineValue} → AreLines n raws lines → lines_from false n raws ≡ lines
lines-given NoMore = refl
lines-given (Dropped {n} {raw} {raws} d r) =
    ap (λ t. if t then lines_from false (suc n) raws else joined_from n (suc n) raw raws) (dropped-given d) ∙ lines-given r
lines-given (Line {n} {raw} {raws} {text} {ended} {m} {rest} {lines} kept j r) =
    ap (λ t. if t then lines_from false (suc n) raws else joined_from n (suc n) raw raws) (by (is_dropped raw) refl) ∙ joins-given n j
    ∙ ap (λ ls. record { number = n; text = text; ended = ended } ∷ ls) (lines-given r)
  where
    by : (t : Bool) → is_dropped raw ≡ t → t ≡ false
    by true e = absurd (kept (dropped-found raw e))
    by false e = refl

record JoinsFound (n : ℕ) (raw : List ℕ) (raws : List (List ℕ)) : Type 0 where
  text : List ℕ
  ended : Bool
  after : ℕ
  rest : List (List ℕ)
  joins : Joins n raw raws text ended after rest
  fewer : length rest ≤ length raws

joins-found : (raws : List (List ℕ)) (n : ℕ) (raw : List ℕ) → JoinsFound n raw raws
joins-found [] n raw = by raw (ending raw)
  where
    by : (raw : List ℕ) → Ending raw → JoinsFound n raw []
    by raw (Closed p) = record { text = raw; ended = true; after = n; rest = []; joins = Whole p; fewer = omega arith }
    by raw (Alone front p whole) = subst (λ (r : List ℕ). JoinsFound n r []) whole (record { text = front; ended = false; after = n; rest = []; joins = Open p; fewer = omega arith })
joins-found (next ∷ raws) n raw = by (ending raw) (spaces-cut next) (joins-found raws (suc n))
  where
    by : Ending raw → SpacesCut next → ((other : List ℕ) → JoinsFound (suc n) other raws) → JoinsFound n raw (next ∷ raws)
    by (Closed p) cut later = record { text = raw; ended = true; after = n; rest = next ∷ raws; joins = Whole p; fewer = omega arith }
    by (Alone front p whole) cut later =
        let found = later cut.next in
        let made : JoinsFound n (front ++ 36 ∷ []) ((spaces cut.count ++ cut.next) ∷ raws) = record {
          text = front ++ found.text;
          ended = found.ended;
          after = found.after;
          rest = found.rest;
          joins = Joined cut.count p cut.stops found.joins;
          fewer = omega (arith, found.fewer);
        } in
        subst (λ (r : List ℕ). JoinsFound n r (next ∷ raws)) whole (subst (λ (x : List ℕ). JoinsFound n (front ++ 36 ∷ []) (x ∷ raws)) cut.whole made)

lines-found : (k : ℕ) (n : ℕ) (raws : List (List ℕ)) → length raws ≤ k → AreLines n raws (lines_from false n raws)
lines-found k n [] h = NoMore
lines-found zero n (raw ∷ raws) h = absurd (omega (arith, h))
lines-found (suc k) n (raw ∷ raws) h = by (is_dropped raw) refl (lines-found k)
  where
    by : (t : Bool) → is_dropped raw ≡ t → ((n : ℕ) (others : List (List ℕ)) → length others ≤ k → AreLines n others (lines_from false n others))
        → AreLines n (raw ∷ raws) (if t then lines_from false (suc n) raws else joined_from n (suc n) raw raws)
    by true e later = let few : length raws ≤ k = omega (arith, h) in Dropped (dropped-found raw e) (later (suc n) raws few)
    by false e later =
        let found = joins-found raws (suc n) raw in
        let few : length found.rest ≤ k = omega (arith, found.fewer, h) in
        subst (λ (ls : List LineValue). AreLines n (raw ∷ raws) ls) (sym (joins-given n found.joins))
        (Line (λ d. let no : true ≡ false = sym (dropped-given d) ∙ e in cc) found.joins (later found.after found.rest few))

pub lines-cut : (content : List ℕ) (lines : List LineValue) → (lines_of content ≡ lines → IsFile content lines) × (IsFile content lines → lines_of content ≡ lines)
lines-cut content lines = (
  (λ e. subst (IsFile content) e
      (record { raws = file_lines content; cut = cut-found (length content) content (omega arith); are = lines-found (length (file_lines content)) 1 (file_lines content) (omega arith) })),
  (λ is. ap (lines_from false 1) (cut-given is.cut) ∙ lines-given is.are),
)
