-- A line by its first part and what is left, and what was seen of it.
use Rattle.std.proofs.Common.{◌≡◌, ◌≤◌, ◌<◌, ℕ, zero, suc, zero-add, get_or, map, ◌+◌, ◌==◌, Bool, true, false, not, ◌&&◌, ◌||◌, if◌then◌else◌, List, [], ◌∷◌, length, drop, Option, Some, None, refl, ap, sym, ◌∙◌, arith}
use Rattle.std.specs.List.{list_any}
use Rattle.std.specs.Option.{option_map, option_or}
use Rattle.rev_patch.specs.declared.statement.Token.{Token}
use Rattle.rev_patch.specs.declared.statement.Token.TheVariants.{Escaped, Dollar, Order, Validations, Blank, Plain}
use Rattle.rev_patch.specs.declared.statement.Signs.{Signs}
use Rattle.rev_patch.specs.declared.statement.Seen.{Seen}
use Rattle.rev_patch.specs.declared.statement.Spot.{Spot}
use Rattle.rev_patch.specs.Statement.{tokens, plain_token, size, is_order, is_solid, is_validations, goes_on, until_validations, solid_end, solid_in, solid_spot, statement, has_order, has_validations, spot_or, put_at, place_in}
use Rattle.rev_patch.specs.Read.{first_token, signs_with, signs_after, no_signs, seen_with, seen_after, unseen}
use Rattle.std.proofs.lemmas.List.{drop_more}
use Rattle.rev_patch.specs.declared.lines.Row.{Row}
use Rattle.rev_patch.specs.Lines.{line_of}
use Rattle.rev_patch.specs.Additions.{texts_of}

plain-one : (b : ℕ) → size (plain_token b) ≡ 1
plain-one b = elim (b == 32 || b == 13) as (λ p. size (if p then Blank else Plain) ≡ 1) [ true ↦ refl | false ↦ refl ]

module _ (t : Token) (one : size t ≡ 1) where
  last_by : (b : ℕ) (p : Bool) → (if p then Dollar ∷ [] else t ∷ []) ≡ (if p then Dollar else t) ∷ tokens (drop (size (if p then Dollar else t)) (b ∷ []))
  last_by b true = refl
  last_by b false = ap (λ n. t ∷ tokens (drop n (b ∷ []))) (sym one)

  more_by : (b c : ℕ) (bs : List ℕ) (p q r : Bool)
      → (if p then Escaped c ∷ tokens bs else (if q then Order ∷ tokens bs else (if r then Validations ∷ tokens bs else t ∷ tokens (c ∷ bs))))
      ≡ (if p then Escaped c else (if q then Order else (if r then Validations else t)))
      ∷ tokens (drop (size (if p then Escaped c else (if q then Order else (if r then Validations else t)))) (b ∷ c ∷ bs))
  more_by b c bs true q r = refl
  more_by b c bs false true r = refl
  more_by b c bs false false true = refl
  more_by b c bs false false false = ap (λ n. t ∷ tokens (drop n (b ∷ c ∷ bs))) (sym one)

  one_by : (p : Bool) → size (if p then Dollar else t) ≡ 1
  one_by true = refl
  one_by false = one

  two_by : (c : ℕ) (p q r : Bool) → size (if p then Escaped c else (if q then Order else (if r then Validations else t))) ≤ 2
  two_by c true q r = omega arith
  two_by c false true r = omega arith
  two_by c false false true = omega arith
  two_by c false false false = omega (arith, one)

  some_by : (c : ℕ) (p q r : Bool) → 0 < size (if p then Escaped c else (if q then Order else (if r then Validations else t)))
  some_by c true q r = omega arith
  some_by c false true r = omega arith
  some_by c false false true = omega arith
  some_by c false false false = omega (arith, one)

pub tokens-first : (b : ℕ) (bs : List ℕ) → tokens (b ∷ bs) ≡ first_token b bs ∷ tokens (drop (size (first_token b bs)) (b ∷ bs))
tokens-first b [] = last_by (plain_token b) (plain-one b) b (b == 36)
tokens-first b (c ∷ bs) = more_by (plain_token b) (plain-one b) b c bs (b == 36) (b == 124 && c == 124) (b == 124 && c == 64)

pub token-some : (b : ℕ) (bs : List ℕ) → 0 < size (first_token b bs)
token-some b [] = let one = one_by (plain_token b) (plain-one b) (b == 36) in omega (arith, one)
token-some b (c ∷ bs) = some_by (plain_token b) (plain-one b) c (b == 36) (b == 124 && c == 124) (b == 124 && c == 64)

-- a part has no more bytes than are left
pub token-fits : (b : ℕ) (bs : List ℕ) → size (first_token b bs) ≤ suc (length bs)
token-fits b [] = let one = one_by (plain_token b) (plain-one b) (b == 36) in omega (arith, one)
token-fits b (c ∷ bs) = let two = two_by (plain_token b) (plain-one b) c (b == 36) (b == 124 && c == 124) (b == 124 && c == 64) in omega (arith, two)

or_assoc : (p q r : Bool) → ((p || q) || r) ≡ (p || (q || r))
or_assoc true q r = refl
or_assoc false q r = refl

or_false : (p : Bool) → (p || false) ≡ p
or_false true = refl
or_false false = refl

pub after-order : (s : Signs) (at : ℕ) (ts : List Token) → (signs_after s at ts).has_order ≡ (s.has_order || list_any is_order ts)
after-order s at [] = sym (or_false s.has_order)
after-order s at (t ∷ ts) = after-order (signs_with s (at + size t) t) (at + size t) ts ∙ or_assoc s.has_order (is_order t) (list_any is_order ts)

pub after-validations : (s : Signs) (at : ℕ) (ts : List Token) → (signs_after s at ts).has_validations ≡ (s.has_validations || list_any is_validations ts)
after-validations s at [] = sym (or_false s.has_validations)
after-validations s at (t ∷ ts) =
    after-validations (signs_with s (at + size t) t) (at + size t) ts ∙ or_assoc s.has_validations (is_validations t) (list_any is_validations ts)

-- the last part that says something, by one more part and what is left
abbrev pub last_of : ℕ → List Token → Bool → Option ℕ → Option ℕ
last_of at ts ended seen = if ended then seen else option_or (option_map (λ n. at + n) (solid_end (until_validations ts))) seen

solid_by : (at n : ℕ) (found seen : Option ℕ) (solid : Bool)
    → option_or (option_map (λ k. at + n + k) found) (if not solid then seen else Some (at + n))
    ≡ option_or (option_map (λ k. at + k) (option_or (option_map (λ k. n + k) found) (if solid then Some n else None))) seen
solid_by at n None seen true = refl
solid_by at n None seen false = refl
solid_by at n (Some k) seen solid = let e : at + n + k ≡ at + (n + k) = omega arith in ap (λ k. Some k) e

last-more : (s : Signs) (at : ℕ) (t : Token) (ts : List Token) (ended : Bool) → s.has_validations ≡ ended
    → last_of (at + size t) ts (ended || is_validations t) (if ended || not (is_solid t) then s.last else Some (at + size t)) ≡ last_of at (t ∷ ts) ended s.last
last-more s at t ts true e = refl
last-more s at (Escaped b) ts false e = solid_by at 2 (solid_end (until_validations ts)) s.last (not (b == 13))
last-more s at Dollar ts false e = solid_by at 1 (solid_end (until_validations ts)) s.last false
last-more s at Order ts false e = solid_by at 2 (solid_end (until_validations ts)) s.last true
last-more s at Validations ts false e = refl
last-more s at Blank ts false e = solid_by at 1 (solid_end (until_validations ts)) s.last false
last-more s at Plain ts false e = solid_by at 1 (solid_end (until_validations ts)) s.last true

last-none : (ended : Bool) (seen : Option ℕ) → seen ≡ (if ended then seen else option_or None seen)
last-none true seen = refl
last-none false seen = refl

pub after-last : (s : Signs) (at : ℕ) (ts : List Token) → (signs_after s at ts).last ≡ last_of at ts s.has_validations s.last
after-last s at [] = last-none s.has_validations s.last
after-last s at (t ∷ ts) = after-last (signs_with s (at + size t) t) (at + size t) ts ∙ last-more s at t ts s.has_validations refl

abbrev pub goes_from : Bool → List Token → Bool
goes_from g [] = g
goes_from g (t ∷ ts) = goes_on (t ∷ ts)

pub after-goes : (s : Signs) (at : ℕ) (ts : List Token) → (signs_after s at ts).goes_on ≡ goes_from s.goes_on ts
after-goes s at [] = refl
after-goes s at (t ∷ []) = refl
after-goes s at (t ∷ u ∷ ts) = after-goes (signs_with s (at + size t) t) (at + size t) (u ∷ ts)

-- what one more part shows of a line
pub read-more : (s : Signs) (at : ℕ) (rest : List ℕ) (b : ℕ) (bs : List ℕ) (t : Token) → rest ≡ b ∷ bs → t ≡ first_token b bs
    → signs_after s at (tokens rest) ≡ signs_after (signs_with s (at + size t) t) (at + size t) (tokens (drop (size t) rest))
read-more s at rest b bs t is token =
    ap (λ xs. signs_after s at (tokens xs)) is ∙ ap (λ ts. signs_after s at ts) (tokens-first b bs)
    ∙ ap (λ (u : Token). signs_after (signs_with s (at + size u) u) (at + size u) (tokens (drop (size u) (b ∷ bs)))) (sym token)
    ∙ ap (λ xs. signs_after (signs_with s (at + size t) t) (at + size t) (tokens (drop (size t) xs))) (sym is)

zero-last : (o : Option ℕ) → option_or (option_map (λ n. 0 + n) o) None ≡ o
zero-last None = refl
zero-last (Some n) = ap (λ k. Some k) (zero-add n)

goes_from-none : (ts : List Token) → goes_from false ts ≡ goes_on ts
goes_from-none [] = refl
goes_from-none (t ∷ ts) = refl

-- what was seen of a whole line
pub read-order : (ts : List Token) (s : Signs) → s ≡ signs_after no_signs 0 ts → s.has_order ≡ list_any is_order ts
read-order ts s is = ap (λ (x : Signs). x.has_order) is ∙ after-order no_signs 0 ts

pub read-validations : (ts : List Token) (s : Signs) → s ≡ signs_after no_signs 0 ts → s.has_validations ≡ list_any is_validations ts
read-validations ts s is = ap (λ (x : Signs). x.has_validations) is ∙ after-validations no_signs 0 ts

pub read-last : (ts : List Token) (s : Signs) → s ≡ signs_after no_signs 0 ts → s.last ≡ solid_end (until_validations ts)
read-last ts s is = ap (λ (x : Signs). x.last) is ∙ after-last no_signs 0 ts ∙ zero-last (solid_end (until_validations ts))

pub read-goes : (ts : List Token) (s : Signs) → s ≡ signs_after no_signs 0 ts → s.goes_on ≡ goes_on ts
read-goes ts s is = ap (λ (x : Signs). x.goes_on) is ∙ after-goes no_signs 0 ts ∙ goes_from-none ts

-- STATEMENTS
pub seen-order : (s : Seen) (k : ℕ) (ls : List (List ℕ)) → (seen_after s k ls).has_order ≡ (s.has_order || has_order ls)
seen-order s k [] = sym (or_false s.has_order)
seen-order s k (l ∷ ls) = seen-order (seen_with s k l) (suc k) ls ∙ or_assoc s.has_order (list_any is_order (tokens l)) (has_order ls)

-- the last part that says something, by one more line and those that are left
abbrev pub spot_of : ℕ → List (List ℕ) → Bool → Option Spot → Option Spot
spot_of k ls ended seen = if ended then seen else option_or (solid_spot k ls) seen

spots : (k : ℕ) (behind : Option Spot) (at : Option ℕ) (seen : Option Spot) (ended : Bool)
    → (if ended then spot_or k at seen else option_or behind (spot_or k at seen))
    ≡ option_or (option_or (if ended then None else behind) (spot_or k at None)) seen
spots k behind None seen true = refl
spots k behind (Some at) seen true = refl
spots k None None seen false = refl
spots k None (Some at) seen false = refl
spots k (Some s) at seen false = refl

spot-more : (s : Seen) (k : ℕ) (l : List ℕ) (ls : List (List ℕ)) (ended : Bool) → s.has_validations ≡ ended
    → spot_of (suc k) ls (ended || has_validations l) (if ended then s.last else spot_or k (solid_in l) s.last) ≡ spot_of k (l ∷ ls) ended s.last
spot-more s k l ls true e = refl
spot-more s k l ls false e = spots k (solid_spot (suc k) ls) (solid_in l) s.last (has_validations l)

spot-none : (ended : Bool) (seen : Option Spot) → seen ≡ (if ended then seen else option_or None seen)
spot-none true seen = refl
spot-none false seen = refl

pub seen-last : (s : Seen) (k : ℕ) (ls : List (List ℕ)) → (seen_after s k ls).last ≡ spot_of k ls s.has_validations s.last
seen-last s k [] = spot-none s.has_validations s.last
seen-last s k (l ∷ ls) = seen-last (seen_with s k l) (suc k) ls ∙ spot-more s k l ls s.has_validations refl

or-none : (o : Option Spot) → option_or o None ≡ o
or-none None = refl
or-none (Some s) = refl

-- what was seen of a whole statement says the place
pub place-read : (k : ℕ) (ls : List (List ℕ)) (s : Seen) → s ≡ seen_after unseen k ls → put_at s.has_order s.last ≡ place_in k ls
place-read k ls s is =
    let r = seen_after unseen k ls in
    ap (λ (x : Seen). put_at x.has_order x.last) is
    ∙ ap (λ o. put_at o r.last) (seen-order unseen k ls)
    ∙ ap (λ o. put_at (has_order ls) o) (seen-last unseen k ls ∙ or-none (solid_spot k ls))

-- one more line of a statement
pub statement-more : (s : Seen) (k : ℕ) (l : List ℕ) (ls : List (List ℕ)) → goes_on (tokens l) ≡ true
    → seen_after s k (statement (l ∷ ls)) ≡ seen_after (seen_with s k l) (suc k) (statement ls)
statement-more s k l ls more = ap (λ b. seen_after s k (if b then l ∷ statement ls else l ∷ [])) more

-- and the last
pub statement-last : (s : Seen) (k : ℕ) (l : List ℕ) (ls : List (List ℕ)) → goes_on (tokens l) ≡ false
    → seen_after s k (statement (l ∷ ls)) ≡ seen_with s k l
statement-last s k l ls last = ap (λ b. seen_after s k (if b then l ∷ statement ls else l ∷ [])) last

lines-next : (s : Seen) (k : ℕ) (rows : List Row) (i : ℕ) (d : Row) → i < length rows
    → seen_after s k (statement (texts_of (map line_of (drop i rows))))
    ≡ seen_after s k (statement ((get_or rows i d).old.now ∷ texts_of (map line_of (drop (i + 1) rows))))
lines-next s k rows i d within = ap (λ (rs : List Row). seen_after s k (statement (texts_of (map line_of rs)))) (drop_more rows i d within)

-- the statement ends with the next line
pub place-last : (s : Seen) (k : ℕ) (rows : List Row) (i : ℕ) (d : Row) (seen : Seen) → i < length rows
    → seen ≡ seen_with s k (get_or rows i d).old.now → seen.goes_on ≡ false
    → seen_after s k (statement (texts_of (map line_of (drop i rows)))) ≡ seen
place-last s k rows i d seen within is last =
    let l = (get_or rows i d).old.now in
    let end : goes_on (tokens l) ≡ false = sym (ap (λ (x : Seen). x.goes_on) is) ∙ last in
    lines-next s k rows i d within ∙ statement-last s k l (texts_of (map line_of (drop (i + 1) rows))) end ∙ sym is

-- or it goes on behind it
pub place-more : (s : Seen) (k : ℕ) (rows : List Row) (i : ℕ) (d : Row) (seen : Seen) → i < length rows
    → seen ≡ seen_with s k (get_or rows i d).old.now → seen.goes_on ≡ true
    → seen_after s k (statement (texts_of (map line_of (drop i rows)))) ≡ seen_after seen (suc k) (statement (texts_of (map line_of (drop (i + 1) rows))))
place-more s k rows i d seen within is more =
    let l = (get_or rows i d).old.now in
    let rest = texts_of (map line_of (drop (i + 1) rows)) in
    let on : goes_on (tokens l) ≡ true = sym (ap (λ (x : Seen). x.goes_on) is) ∙ more in
    lines-next s k rows i d within ∙ statement-more s k l rest on ∙ ap (λ (x : Seen). seen_after x (suc k) (statement rest)) (sym is)

pub texts-drop : (n : ℕ) (rows : List Row) → texts_of (map line_of (drop n rows)) ≡ drop n (texts_of (map line_of rows))
texts-drop zero rows = refl
texts-drop (suc n) [] = refl
texts-drop (suc n) (r ∷ rs) = texts-drop n rs
