-- What is left of a room when bytes are made one after another.
use Rattle.std.proofs.Common.{◌≡◌, ℕ, ◌+◌, ◌-◌, ◌<◌, ◌≤◌, nat_lt, Bool, true, false, List, [], ◌∷◌, ◌++◌, length, sum, map, drop, get_or, Option, length-append, Some, None, refl, sym, ap, ◌∙◌, arith, if◌then◌else◌}
use Rattle.std.proofs.lemmas.Bool.{ltb-true, ltb-false, lt-ltb}
use Rattle.std.proofs.lemmas.Grind.{flat_map-append}
use Rattle.std.proofs.lemmas.List.Sums.{sum_by-drop_more}
use Rattle.rev_syntax.specs.Texts.{PieceValue, Byte}
use Rattle.rev_scopes.specs.Expansion.{piece_value, expanded}
use Rattle.rev_manifest.specs.Made.{is_variable, left_of}

below : (room bytes : ℕ) → bytes ≤ room → nat_lt room bytes ≡ false
below room bytes h = by (nat_lt room bytes) refl
  where
    by : (b : Bool) → nat_lt room bytes ≡ b → b ≡ false
    by true e = let more : room < bytes = ltb-true room bytes e in absurd (omega arith)
    by false e = refl

-- as many may be made as are
pub left-some : (room bytes : ℕ) → bytes ≤ room → left_of room bytes ≡ Some (room - bytes)
left-some room bytes h = ap (λ b. if b then None else Some (room - bytes)) (below room bytes h)

pub left-none : (room bytes : ℕ) → room < bytes → left_of room bytes ≡ None
left-none room bytes h = ap (λ b. if b then None else Some (room - bytes)) (lt-ltb room bytes h)

-- what is left says that as many may be made
pub left-fits : (room bytes left : ℕ) → left_of room bytes ≡ Some left → (bytes ≤ room) × (left ≡ room - bytes)
left-fits room bytes left e = by (nat_lt room bytes) refl e
  where
    by : (b : Bool) → nat_lt room bytes ≡ b → (if b then None else Some (room - bytes)) ≡ Some left → (bytes ≤ room) × (left ≡ room - bytes)
    by true t e = cc
    by false t e = let fits : bytes ≤ room = ltb-false room bytes t in let same : left ≡ room - bytes = cc in (fits, same)

pub left-passes : (room bytes : ℕ) → left_of room bytes ≡ None → room < bytes
left-passes room bytes e = by (nat_lt room bytes) refl e
  where
    by : (b : Bool) → nat_lt room bytes ≡ b → (if b then None else Some (room - bytes)) ≡ None → room < bytes
    by true t e = ltb-true room bytes t
    by false t e = cc

-- bytes that are made after others
pub left-after : (room first second : ℕ) → first ≤ room → left_of room (first + second) ≡ left_of (room - first) second
left-after room first second h = by (nat_lt (room - first) second) refl
  where
    by : (b : Bool) → nat_lt (room - first) second ≡ b → left_of room (first + second) ≡ left_of (room - first) second
    by true t =
        let more : room - first < second = ltb-true (room - first) second t in
        left-none room (first + second) (omega arith) ∙ sym (left-none (room - first) second more)
    by false t =
        let fits : second ≤ room - first = ltb-false (room - first) second t in
        let same : room - (first + second) ≡ room - first - second = omega arith in
        left-some room (first + second) (omega arith) ∙ ap Some same ∙ sym (left-some (room - first) second fits)

pub left-over : (room first second : ℕ) → room < first → left_of room (first + second) ≡ None
left-over room first second h = left-none room (first + second) (omega arith)

pub not-le : (a b : ℕ) → (a ≤ b → ⊥) → b < a
not-le a b h = by (nat_lt b a) refl
  where
    by : (t : Bool) → nat_lt b a ≡ t → b < a
    by true e = ltb-true b a e
    by false e = absurd (h (ltb-false b a e))

pub left-all : (left : ℕ) → Some left ≡ left_of left 0
left-all left = let same : left - 0 ≡ left = omega arith in sym (left-some left 0 (omega arith) ∙ ap Some same)

-- numbers one after another
module _ (room left : ℕ) (xs : List ℕ) (i : ℕ) (so_far : left_of left (sum (drop i xs)) ≡ left_of room (sum xs)) (there : i < length xs) where
  abbrev x : ℕ
  x = get_or xs i 0

  abbrev rest : ℕ
  rest = sum (drop (i + 1) xs)

  split : left_of left (x + rest) ≡ left_of room (sum xs)
  split = sym (ap (left_of left) (sum_by-drop_more (λ (y : ℕ). y) xs i 0 there)) ∙ so_far

  pub sum-over : (x ≤ left → ⊥) → None ≡ left_of room (sum xs)
  sum-over h = sym (left-over left x rest (not-le x left h)) ∙ split

  pub sum-more : (after : ℕ) → x ≤ left → after ≡ left - x → left_of after rest ≡ left_of room (sum xs)
  sum-more after h e = ap (λ (n : ℕ). left_of n rest) e ∙ sym (left-after left x rest h) ∙ split

-- the pieces of a text one after another
module _ (look_up : List ℕ → List ℕ) (whole : Option ℕ) (left : ℕ) (text piece others : List PieceValue) (bytes : List ℕ)
    (so_far : left_of left (length (expanded look_up text)) ≡ whole) (is : text ≡ piece ++ others) (stands : bytes ≡ expanded look_up piece) where
  text_split : left_of left (length bytes + length (expanded look_up others)) ≡ whole
  text_split =
      ap (left_of left)
      (sym (length-append bytes (expanded look_up others)) ∙ ap (λ (b : List ℕ). length (b ++ expanded look_up others)) stands
      ∙ ap length (sym (flat_map-append (piece_value look_up) piece others)) ∙ ap (λ (t : List PieceValue). length (expanded look_up t)) (sym is))
      ∙ so_far

  pub text-over : (length bytes ≤ left → ⊥) → None ≡ whole
  text-over h = sym (left-over left (length bytes) (length (expanded look_up others)) (not-le (length bytes) left h)) ∙ text_split

  pub text-more : (after : ℕ) → length bytes ≤ left → after ≡ left - length bytes → left_of after (length (expanded look_up others)) ≡ whole
  text-more after h e =
      ap (λ (n : ℕ). left_of n (length (expanded look_up others))) e ∙ sym (left-after left (length bytes) (length (expanded look_up others)) h) ∙ text_split

-- what is left after one of several
pub several-more : (whole : Option ℕ) (left first others after : ℕ) → left_of left (first + others) ≡ whole → Some after ≡ left_of left first
    → left_of after others ≡ whole
several-more whole left first others after so_far e =
    let fits = left-fits left first after (sym e) in
    ap (λ (n : ℕ). left_of n others) fits.1 ∙ sym (left-after left first others fits.0) ∙ so_far

pub several-over : (whole : Option ℕ) (left first others : ℕ) → left_of left (first + others) ≡ whole → None ≡ left_of left first → None ≡ whole
several-over whole left first others so_far e = sym (left-over left first others (left-passes left first (sym e))) ∙ so_far

-- a text that begins with bytes is no variable
pub byte-first : (bytes : List ℕ) (others text : List PieceValue) → (map Byte bytes ≡ [] → ⊥) → text ≡ map Byte bytes ++ others → false ≡ is_variable text
byte-first [] others text some is = absurd (some refl)
byte-first (b ∷ bytes) others text some is = sym (ap is_variable is)
