-- Rows of marks, from the end of a part to its beginning.
use Rattle.std.proofs.Common.{◌≡◌, ℕ, suc, ◌+◌, ◌-◌, ◌<◌, ◌≤◌, ◌==◌, Bool, true, false, ◌||◌, ◌&&◌, if◌then◌else◌, List, [], ◌∷◌, ◌++◌, length, get_or, set, drop, take, map, slice_get, Some, None, inl, inr, refl, sym, ap, subst, ◌∙◌, arith, add-one, true≢false}
use Rattle.std.specs.Prelude.{replicate, Result, Ok, Err, IfOk}
use Rattle.std.specs.List.{list_any}
use Rattle.std.specs.Global.{Vec}
use Rattle.std.proofs.Math.Seq.{drop-cons, drop-length}
use Rattle.std.proofs.Math.ListN.{drop_of_length-le}
use Rattle.std.proofs.lemmas.Bool.{cases_eq, eq-eqb, eqb-true, false_from_ne_true}
use Rattle.std.proofs.lemmas.List.{get_or-set_same, get_or-set_other, length-set, get_or-replicate, length-replicate, length-drop, map-append, take_all, take_more}
use Rattle.std.proofs.lemmas.Option.{get_or_from_slice_get, slice_get_cases}
use Rattle.rev_fields.specs.Lines.{is_blank}
use Rattle.rev_fields.specs.Parts.{vectors_of}
use Rattle.rev_filters.specs.Patterns.{after, begins, matches, some_end}
use Rattle.rev_filters.specs.Rows.{IsRow}

-- a test that gives the same
pub row-by : (p q : List ℕ → Bool) (bytes : List ℕ) (row : List Bool) → ((x : List ℕ) → p x ≡ q x) → IsRow p bytes row → IsRow q bytes row
row-by p q bytes row same is = record { each = is.each; at = λ k within. is.at k within ∙ same (drop k bytes) }

-- what stands behind a place
cons : (bytes : List ℕ) (k : ℕ) → k < length bytes → drop k bytes ≡ get_or bytes k 0 ∷ drop (k + 1) bytes
cons bytes k within = drop-cons bytes k 0 within ∙ ap (λ n. get_or bytes k 0 ∷ drop n bytes) (sym (add-one k))

-- THE END OF A PART
pub last-row : (bytes : List ℕ) (row : List Bool) → row ≡ set (replicate (length bytes + 1) false) (length bytes) true → IsRow is_blank bytes row
last-row bytes row is = record {
  each = ap length is ∙ length-set (replicate (length bytes + 1) false) (length bytes) true ∙ length-replicate (length bytes + 1) false;
  at = λ k within. ap (λ (r : List Bool). get_or r k false) is ∙ at k within;
}
  where
    many : length (replicate (length bytes + 1) false) ≡ length bytes + 1
    many = length-replicate (length bytes + 1) false

    at : (k : ℕ) → k ≤ length bytes → get_or (set (replicate (length bytes + 1) false) (length bytes) true) k false ≡ is_blank (drop k bytes)
    at k within = elim (cases_eq k (length bytes)) [
      | inl same ↦
          ap (λ n. get_or (set (replicate (length bytes + 1) false) (length bytes) true) n false) same
          ∙ get_or-set_same (replicate (length bytes + 1) false) (length bytes) true false (omega (arith, many))
          ∙ sym (ap (λ n. is_blank (drop n bytes)) same ∙ ap is_blank (drop-length bytes))
      | inr other ↦
          get_or-set_other (replicate (length bytes + 1) false) (length bytes) k true false other
          ∙ get_or-replicate (length bytes + 1) k false false (omega (arith, within))
          ∙ sym (ap is_blank (cons bytes k (omega (arith, within, other))))
    ]

-- A STAR
pub record IsSpread (passes : List ℕ → Bool) (bytes : List ℕ) (row : List Bool) (place : ℕ) (any : Bool) : Type 0 where
  pub each : length row ≡ length bytes + 1
  pub within : place ≤ length bytes + 1
  pub before : (k : ℕ) → k < place → get_or row k false ≡ passes (drop k bytes)
  pub behind : (k : ℕ) → place ≤ k → k ≤ length bytes → get_or row k false ≡ some_end passes (drop k bytes)
  pub none : place ≡ length bytes + 1 → any ≡ false
  pub some : place ≤ length bytes → any ≡ some_end passes (drop place bytes)

pub spread-start : (passes : List ℕ → Bool) (bytes : List ℕ) (row : List Bool) → IsRow passes bytes row → IsSpread passes bytes row (length row) false
spread-start passes bytes row is =
    let each = is.each in
    record {
      each = each;
      within = omega (arith, each);
      before = λ k below. is.at k (omega (arith, below, each));
      behind = λ k from to. absurd (omega (arith, from, to, each));
      none = λ all. refl;
      some = λ le. absurd (omega (arith, le, each));
    }

or-false : (b : Bool) → (b || false) ≡ b
or-false true = refl
or-false false = refl

pub spread-more : (passes : List ℕ → Bool) (bytes : List ℕ) (row row2 : List Bool) (place : ℕ) (any any2 : Bool) → IsSpread passes bytes row (place + 1) any → any2 ≡ (get_or row place false || any)
    → row2 ≡ set row place any2 → IsSpread passes bytes row2 place any2
spread-more passes bytes row row2 place any any2 is now written = record {
  each = ap length written ∙ length-set row place any2 ∙ is.each;
  within = let w = is.within in omega (arith, w);
  before = λ k below.
      let other : k ≡ place → ⊥ = λ e. omega (arith, e, below) in
      ap (λ (r : List Bool). get_or r k false) written ∙ get_or-set_other row place k any2 false other ∙ is.before k (omega (arith, below));
  behind = λ k from to. elim (cases_eq k place) [
    | inl same ↦ ap (λ (r : List Bool). get_or r k false) written ∙ ap (λ n. get_or (set row place any2) n false) same ∙ get_or-set_same row place any2 false inside ∙ here ∙ ap (λ n. some_end passes (drop n bytes)) (sym same)
    | inr other ↦ ap (λ (r : List Bool). get_or r k false) written ∙ get_or-set_other row place k any2 false other ∙ is.behind k (omega (arith, from, other)) to
  ];
  none = λ all. let w = is.within in absurd (omega (arith, all, w));
  some = λ le. here;
}
  where
    inside : place < length row
    inside = let w = is.within in let e = is.each in omega (arith, w, e)

    less : place ≤ length bytes
    less = let w = is.within in omega (arith, w)

    here : any2 ≡ some_end passes (drop place bytes)
    here = elim (cases_eq place (length bytes)) [
      | inl same ↦
          let left : drop place bytes ≡ [] = ap (λ n. drop n bytes) same ∙ drop-length bytes in
          now ∙ ap (λ a. get_or row place false || a) (is.none (omega (arith, same))) ∙ or-false (get_or row place false) ∙ is.before place (omega arith)
          ∙ ap passes left ∙ sym (ap (some_end passes) left)
      | inr other ↦
          let below : place < length bytes = omega (arith, less, other) in
          let left = cons bytes place below in
          now ∙ ap (λ a. get_or row place false || a) (is.some (omega (arith, below))) ∙ ap (λ a. a || some_end passes (drop (place + 1) bytes)) (is.before place (omega arith) ∙ ap passes left)
          ∙ sym (ap (some_end passes) left)
    ]

pub spread-all : (passes : List ℕ → Bool) (bytes : List ℕ) (row : List Bool) (place : ℕ) (any : Bool) → place ≡ 0 → IsSpread passes bytes row place any → IsRow (some_end passes) bytes row
spread-all passes bytes row place any all is = record { each = is.each; at = λ k within. is.behind k (omega (arith, all)) within }

-- ANOTHER BYTE
pub record IsStepped (passes : List ℕ → Bool) (bytes : List ℕ) (byte : ℕ) (row : List Bool) (place : ℕ) : Type 0 where
  pub each : length row ≡ length bytes + 1
  pub done : (k : ℕ) → k < place → get_or row k false ≡ after byte passes (drop k bytes)
  pub rest : (k : ℕ) → place ≤ k → k ≤ length bytes → get_or row k false ≡ passes (drop k bytes)

pub step-start : (passes : List ℕ → Bool) (bytes : List ℕ) (byte : ℕ) (row : List Bool) → IsRow passes bytes row → IsStepped passes bytes byte row 0
step-start passes bytes byte row is = record {
  each = is.each;
  done = λ k below. absurd (omega (arith, below));
  rest = λ k from to. is.at k to;
}

pub step-more : (passes : List ℕ → Bool) (bytes : List ℕ) (byte : ℕ) (row row2 : List Bool) (place : ℕ) (mark : Bool) → place < length bytes → IsStepped passes bytes byte row place
    → mark ≡ ((get_or bytes place 0 == byte) && get_or row (place + 1) false) → row2 ≡ set row place mark → IsStepped passes bytes byte row2 (place + 1)
step-more passes bytes byte row row2 place mark within is now written = record {
  each = ap length written ∙ length-set row place mark ∙ is.each;
  done = λ k below. elim (cases_eq k place) [
    | inl same ↦ ap (λ (r : List Bool). get_or r k false) written ∙ ap (λ n. get_or (set row place mark) n false) same ∙ get_or-set_same row place mark false inside ∙ here ∙ ap (λ n. after byte passes (drop n bytes)) (sym same)
    | inr other ↦ ap (λ (r : List Bool). get_or r k false) written ∙ get_or-set_other row place k mark false other ∙ is.done k (omega (arith, below, other))
  ];
  rest = λ k from to.
      let other : k ≡ place → ⊥ = λ e. omega (arith, e, from) in
      ap (λ (r : List Bool). get_or r k false) written ∙ get_or-set_other row place k mark false other ∙ is.rest k (omega (arith, from)) to;
}
  where
    inside : place < length row
    inside = let e = is.each in omega (arith, within, e)

    here : mark ≡ after byte passes (drop place bytes)
    here = now ∙ ap (λ m. (get_or bytes place 0 == byte) && m) (is.rest (place + 1) (omega arith) (omega (arith, within))) ∙ sym (ap (after byte passes) (cons bytes place within))

pub step-all : (passes : List ℕ → Bool) (bytes : List ℕ) (byte : ℕ) (row row2 : List Bool) (place : ℕ) → place ≡ length bytes → IsStepped passes bytes byte row place → row2 ≡ set row (length bytes) false
    → IsRow (after byte passes) bytes row2
step-all passes bytes byte row row2 place all is written = record {
  each = ap length written ∙ length-set row (length bytes) false ∙ is.each;
  at = λ k within. elim (cases_eq k (length bytes)) [
    | inl same ↦
        ap (λ (r : List Bool). get_or r k false) written ∙ ap (λ n. get_or (set row (length bytes) false) n false) same ∙ get_or-set_same row (length bytes) false false (let e = is.each in omega (arith, e))
        ∙ sym (ap (λ n. after byte passes (drop n bytes)) same ∙ ap (after byte passes) (drop-length bytes))
    | inr other ↦ ap (λ (r : List Bool). get_or r k false) written ∙ get_or-set_other row (length bytes) k false false other ∙ is.done k (omega (arith, within, other, all))
  ];
}

-- ALL BYTES OF A PART
pub row-star : (part bytes : List ℕ) (row : List Bool) (place : ℕ) → place < length part → (get_or part place 0 == 42) ≡ true → IsRow (some_end (matches (drop (place + 1) part))) bytes row
    → IsRow (matches (drop place part)) bytes row
row-star part bytes row place within star is = row-by (some_end (matches (drop (place + 1) part))) (matches (drop place part)) bytes row (λ x.
    sym (ap (λ (p : List ℕ). matches p x) (cons part place within) ∙ ap (λ b. if b then some_end (matches (drop (place + 1) part)) x else after (get_or part place 0) (matches (drop (place + 1) part)) x) star)) is

pub row-byte : (part bytes : List ℕ) (row : List Bool) (place : ℕ) → place < length part → (get_or part place 0 == 42) ≡ false → IsRow (after (get_or part place 0) (matches (drop (place + 1) part))) bytes row
    → IsRow (matches (drop place part)) bytes row
row-byte part bytes row place within other is = row-by (after (get_or part place 0) (matches (drop (place + 1) part))) (matches (drop place part)) bytes row (λ x.
    sym (ap (λ (p : List ℕ). matches p x) (cons part place within) ∙ ap (λ b. if b then some_end (matches (drop (place + 1) part)) x else after (get_or part place 0) (matches (drop (place + 1) part)) x) other)) is

-- WHAT STANDS BEFORE THE FIRST STAR
-- a byte that stands for itself
pub match-more : (part bytes : List ℕ) (place : ℕ) → place < length part → (get_or part place 0 == 42) ≡ false → place < length bytes → (get_or bytes place 0 == get_or part place 0) ≡ true
    → matches (drop place part) (drop place bytes) ≡ matches (drop (place + 1) part) (drop (place + 1) bytes)
match-more part bytes place within other inside same =
    ap (λ (p : List ℕ). matches p (drop place bytes)) (cons part place within)
    ∙ ap (λ b. if b then some_end (matches (drop (place + 1) part)) (drop place bytes) else after (get_or part place 0) (matches (drop (place + 1) part)) (drop place bytes)) other
    ∙ ap (after (get_or part place 0) (matches (drop (place + 1) part))) (cons bytes place inside) ∙ ap (λ b. b && matches (drop (place + 1) part) (drop (place + 1) bytes)) same

pub match-other : (part bytes : List ℕ) (place : ℕ) → place < length part → (get_or part place 0 == 42) ≡ false → place < length bytes → (get_or bytes place 0 == get_or part place 0) ≡ false
    → matches (drop place part) (drop place bytes) ≡ false
match-other part bytes place within other inside apart =
    ap (λ (p : List ℕ). matches p (drop place bytes)) (cons part place within)
    ∙ ap (λ b. if b then some_end (matches (drop (place + 1) part)) (drop place bytes) else after (get_or part place 0) (matches (drop (place + 1) part)) (drop place bytes)) other
    ∙ ap (after (get_or part place 0) (matches (drop (place + 1) part))) (cons bytes place inside) ∙ ap (λ b. b && matches (drop (place + 1) part) (drop (place + 1) bytes)) apart

pub match-short : (part bytes : List ℕ) (place : ℕ) → place < length part → (get_or part place 0 == 42) ≡ false → place ≡ length bytes → matches (drop place part) (drop place bytes) ≡ false
match-short part bytes place within other all =
    ap (λ (p : List ℕ). matches p (drop place bytes)) (cons part place within)
    ∙ ap (λ b. if b then some_end (matches (drop (place + 1) part)) (drop place bytes) else after (get_or part place 0) (matches (drop (place + 1) part)) (drop place bytes)) other
    ∙ ap (after (get_or part place 0) (matches (drop (place + 1) part))) (ap (λ n. drop n bytes) all ∙ drop-length bytes)

pub ne-eqb : (a b : ℕ) → (a ≡ b → ⊥) → (a == b) ≡ false
ne-eqb a b other = false_from_ne_true (a == b) (λ e. other (eqb-true a b e))

pub match-end : (part bytes : List ℕ) (place : ℕ) → place ≡ length part → place ≤ length bytes → matches (drop place part) (drop place bytes) ≡ (length bytes == length part)
match-end part bytes place all within =
    ap (λ (p : List ℕ). matches p (drop place bytes)) (ap (λ n. drop n part) all ∙ drop-length part) ∙ blank
  where
    blank : is_blank (drop place bytes) ≡ (length bytes == length part)
    blank = elim (cases_eq place (length bytes)) [
      | inl same ↦ ap is_blank (ap (λ n. drop n bytes) same ∙ drop-length bytes) ∙ sym (eq-eqb (length bytes) (length part) (sym same ∙ all))
      | inr other ↦ ap is_blank (cons bytes place (omega (arith, within, other))) ∙ sym (ne-eqb (length bytes) (length part) (λ e. other (omega (arith, e, all))))
    ]

-- PARTS BEYOND THE COMPONENTS
pub begins-short : (parts components : List (List ℕ)) (n : ℕ) → n < length parts → length components ≤ n → begins (drop n parts) (drop n components) ≡ false
begins-short parts components n within past =
    ap (λ (ps : List (List ℕ)). begins ps (drop n components)) (drop-cons parts n [] within) ∙ ap (begins (get_or parts n [] ∷ drop (suc n) parts)) (drop_of_length-le components past)

-- what holds of what a call gives
pub ok-more : {A E : Type 0} (P Q : A → Type 0) → ((x : A) → P x → Q x) → (r : Result A E) → IfOk r P → IfOk r Q
ok-more P Q f (Ok x) h = f x h
ok-more P Q f (Err e) h = h

-- PATTERNS, ONE AFTER THE OTHER
pub any-more : (f : List ℕ → Bool) (patterns : List (Vec ℕ)) (n : ℕ) (v : Vec ℕ) → n < length patterns → v ≡ get_or patterns n v
    → list_any f (vectors_of (drop n patterns)) ≡ (f v.items || list_any f (vectors_of (drop (n + 1) patterns)))
any-more f patterns n v within is =
    ap (λ (vs : List (Vec ℕ)). list_any f (vectors_of vs)) (drop-cons patterns n v within ∙ ap (λ (w : Vec ℕ). w ∷ drop (suc n) patterns) (sym is)) ∙ ap (λ k. f v.items || list_any f (vectors_of (drop k patterns))) (sym (add-one n))

-- PATHS, ONE AFTER THE OTHER
slice_get-within : (paths : List (List ℕ)) (n : ℕ) (path : List ℕ) → slice_get paths n ≡ Some path → n < length paths
slice_get-within paths n path at = elim (slice_get_cases paths n).1 [
  | inl found ↦ found.1
  | inr past ↦ let no : None ≡ Some path = sym past.1 ∙ at in absurd (true≢false cc)
]

pub marks-more : (f : List ℕ → Bool) (paths : List (List ℕ)) (n : ℕ) (path : List ℕ) (marks all : List Bool) (mark : Bool) → slice_get paths n ≡ Some path → marks ≡ map f (take n paths)
    → all ≡ marks ++ mark ∷ [] → mark ≡ f path → all ≡ map f (take (n + 1) paths)
marks-more f paths n path marks all mark at before pushed is =
    pushed ∙ ap (λ (ms : List Bool). ms ++ mark ∷ []) before ∙ ap (λ b. map f (take n paths) ++ b ∷ []) (is ∙ ap f (sym (get_or_from_slice_get paths n path [] at))) ∙ sym (ap (map f) (take_more paths n [] (slice_get-within paths n path at)) ∙ map-append f (take n paths) (get_or paths n [] ∷ []))

-- what stands from a place on
pub tail-is : (xs : List ℕ) (n : ℕ) → take (length xs - n) (drop n xs) ≡ drop n xs
tail-is xs n = take_all (length xs - n) (drop n xs) (omega (arith, length-drop n xs))
