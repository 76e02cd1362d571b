-- Depths, piece by piece.
use Rattle.std.proofs.Common.{◌≡◌, ℕ, ◌+◌, ◌-◌, ◌*◌, Bool, true, false, not, ◌&&◌, ◌||◌, ◌≤◌, ◌<◌, List, [], ◌∷◌, ◌++◌, Option, Some, None, Ok, Err, nat_le, nat_lt, refl, sym, ap, ◌∙◌, arith, if◌then◌else◌}
use Rattle.std.specs.List.{list_all}
use Rattle.std.proofs.lemmas.Bool.{lt-ltb, ltb-true, leb-true, leb-false}
use Rattle.std.proofs.Math.Bool.{or-true}
use Rattle.std.specs.Char.{is_ascii_digit}
use Rattle.rev_syntax.specs.Texts.{PieceValue}
use Rattle.rev_syntax.specs.Statements.{BindingValue}
use Rattle.rev_scopes.specs.Expansion.{piece_value, expanded, is_too_large}
use Rattle.rev_manifest.specs.declared.fault.FaultKind.TheVariants.{BadDepth, TooLarge}
use Rattle.rev_manifest.specs.declared.fault.ReadFault.{ReadFault}
use Rattle.rev_manifest.specs.declared.fault.ReadFault.TheVariants.{Memory, Manifest}
use Rattle.rev_manifest.specs.declared.fault.Place.{Place}
use Rattle.rev_manifest.specs.Answers.{refused, unless, IsFault}
use Rattle.rev_manifest.specs.Blocks.{last_text}
use Rattle.rev_manifest.specs.Statements.{depth_read, depth_given, value_limited}
use Rattle.std.proofs.lemmas.Grind.{flat_map-append}
use Rattle.rev_manifest.specs.Names.{is_empty}
use Rattle.rev_manifest.specs.Depths.{depth_from}
use Rattle.rev_manifest.specs.Pools.{decimal_from, depth_of}

-- a number does not become less by further digits
at_least : (n : ℕ) (bs : List ℕ) → n ≤ decimal_from n bs
at_least n [] = omega arith
at_least n (b ∷ bs) = omega (arith, at_least (n * 10 + (b - 48)) bs)

-- what the digits say after a number, as a whole
abbrev whole : ℕ → List ℕ → Option ℕ
whole n bs = if not (list_all is_ascii_digit bs) || nat_lt 1000000 (decimal_from n bs) then None else Some (decimal_from n bs)

too_much : (n : ℕ) (bs : List ℕ) → 1000000 < n → whole n bs ≡ None
too_much n bs more =
    ap (λ t. if not (list_all is_ascii_digit bs) || t then None else Some (decimal_from n bs)) (lt-ltb 1000000 (decimal_from n bs) (omega (arith, at_least n bs)))
    ∙ ap (λ t. if t then None else Some (decimal_from n bs)) (or-true (not (list_all is_ascii_digit bs)))

digits_are : (n : ℕ) (bs : List ℕ) → n ≤ 1000000 → depth_from n bs ≡ whole n bs
digits_are n [] few = by (nat_lt 1000000 n) refl
  where
    by : (t : Bool) → nat_lt 1000000 n ≡ t → Some n ≡ (if t then None else Some n)
    by true more = let over : 1000000 < n = ltb-true 1000000 n more in absurd (omega arith)
    by false more = refl
digits_are n (b ∷ bs) few = by (is_ascii_digit b) (nat_le (n * 10 + (b - 48)) 1000000) refl (digits_are (n * 10 + (b - 48)) bs)
  where
    by : (d t : Bool) → nat_le (n * 10 + (b - 48)) 1000000 ≡ t
        → (n * 10 + (b - 48) ≤ 1000000 → depth_from (n * 10 + (b - 48)) bs ≡ whole (n * 10 + (b - 48)) bs)
        → (if d && t then depth_from (n * 10 + (b - 48)) bs else None)
        ≡ (if not (d && list_all is_ascii_digit bs) || nat_lt 1000000 (decimal_from (n * 10 + (b - 48)) bs) then None else Some (decimal_from (n * 10 + (b - 48)) bs))
    by false t e later = refl
    by true true e later = later (leb-true (n * 10 + (b - 48)) 1000000 e)
    by true false e later = sym (too_much (n * 10 + (b - 48)) bs (leb-false (n * 10 + (b - 48)) 1000000 e))

-- a depth is read digit by digit
depth_is : (text : List ℕ) → depth_of text ≡ (if is_empty text then None else depth_from 0 text)
depth_is [] = refl
depth_is (b ∷ bs) = sym (digits_are 0 (b ∷ bs) (omega arith))

some_more : (n : ℕ) (xs ys : List ℕ) (m : ℕ) → depth_from n xs ≡ Some m → depth_from n (xs ++ ys) ≡ depth_from m ys
some_more n [] ys m e = let same : n ≡ m = cc in ap (λ k. depth_from k ys) same
some_more n (b ∷ xs) ys m e = by (is_ascii_digit b && nat_le (n * 10 + (b - 48)) 1000000) (some_more (n * 10 + (b - 48)) xs ys m) e
  where
    by : (t : Bool) → (depth_from (n * 10 + (b - 48)) xs ≡ Some m → depth_from (n * 10 + (b - 48)) (xs ++ ys) ≡ depth_from m ys)
        → (if t then depth_from (n * 10 + (b - 48)) xs else None) ≡ Some m → (if t then depth_from (n * 10 + (b - 48)) (xs ++ ys) else None) ≡ depth_from m ys
    by true later e = later e
    by false later e = cc

none_more : (n : ℕ) (xs ys : List ℕ) → depth_from n xs ≡ None → depth_from n (xs ++ ys) ≡ None
none_more n [] ys e = cc
none_more n (b ∷ xs) ys e = by (is_ascii_digit b && nat_le (n * 10 + (b - 48)) 1000000) (none_more (n * 10 + (b - 48)) xs ys) e
  where
    by : (t : Bool) → (depth_from (n * 10 + (b - 48)) xs ≡ None → depth_from (n * 10 + (b - 48)) (xs ++ ys) ≡ None)
        → (if t then depth_from (n * 10 + (b - 48)) xs else None) ≡ None → (if t then depth_from (n * 10 + (b - 48)) (xs ++ ys) else None) ≡ None
    by true later e = later e
    by false later e = refl

-- a piece that says a number, and one that says none
pub piece_some : (look_up : List ℕ → List ℕ) (n m : ℕ) (text first rest : List PieceValue) (bytes : List ℕ) → text ≡ first ++ rest → bytes ≡ expanded look_up first
    → Some m ≡ depth_from n bytes → depth_from m (expanded look_up rest) ≡ depth_from n (expanded look_up text)
piece_some look_up n m text first rest bytes split is e =
    sym (some_more n (expanded look_up first) (expanded look_up rest) m (ap (depth_from n) (sym is) ∙ sym e))
    ∙ ap (depth_from n) (sym (flat_map-append (piece_value look_up) first rest) ∙ ap (expanded look_up) (sym split))

pub piece_none : (look_up : List ℕ → List ℕ) (n : ℕ) (text first rest : List PieceValue) (bytes : List ℕ) → text ≡ first ++ rest → bytes ≡ expanded look_up first
    → None ≡ depth_from n bytes → None ≡ depth_from n (expanded look_up text)
piece_none look_up n text first rest bytes split is e =
    sym (none_more n (expanded look_up first) (expanded look_up rest) (ap (depth_from n) (sym is) ∙ sym e))
    ∙ ap (depth_from n) (sym (flat_map-append (piece_value look_up) first rest) ∙ ap (expanded look_up) (sym split))

pub none_either : (b : Bool) (o : Option ℕ) → None ≡ o → None ≡ (if b then None else o)
none_either true o e = refl
none_either false o e = e

pub some_text : (text first rest : List PieceValue) → text ≡ first ++ rest → (first ≡ [] → ⊥) → is_empty text ≡ false
some_text text [] rest e some = absurd (some refl)
some_text text (piece ∷ first) rest e some = ap is_empty e

small : (value : List ℕ) → is_empty value ≡ true → is_too_large value ≡ false
small [] e = refl
small (b ∷ bs) e = cc

module _ (place : Place) (look_up : List ℕ → List ℕ) (text : List PieceValue) where
  -- what is found of a text, and whether its value is empty
  found : (r : Option ℕ) → r ≡ (if is_empty text then None else depth_from 0 (expanded look_up text)) → is_empty (expanded look_up text) ≡ false
      → depth_of (expanded look_up text) ≡ r
  found r e some = by text e some
    where
      by : (t : List PieceValue) → r ≡ (if is_empty t then None else depth_from 0 (expanded look_up t)) → is_empty (expanded look_up t) ≡ false → depth_of (expanded look_up t) ≡ r
      by [] e some = cc
      by (piece ∷ pieces) e some = depth_is (expanded look_up (piece ∷ pieces)) ∙ ap (λ b. if b then None else depth_from 0 (expanded look_up (piece ∷ pieces))) some ∙ sym e

  pub depth_empty : is_empty (expanded look_up text) ≡ true → depth_given place look_up (Some text) ≡ refused place BadDepth
  depth_empty e = ap (depth_read place (expanded look_up text)) (depth_is (expanded look_up text)) ∙ ap (λ b. depth_read place (expanded look_up text) (if b then None else depth_from 0 (expanded look_up text))) e

  pub depth_none : None ≡ (if is_empty text then None else depth_from 0 (expanded look_up text)) → depth_given place look_up (Some text) ≡ refused place BadDepth
  depth_none e = by (is_empty (expanded look_up text)) refl
    where
      by : (b : Bool) → is_empty (expanded look_up text) ≡ b → depth_given place look_up (Some text) ≡ refused place BadDepth
      by true h = depth_empty h
      by false h = ap (depth_read place (expanded look_up text)) (found None e h)

  pub depth_some : (depth : ℕ) → Some depth ≡ (if is_empty text then None else depth_from 0 (expanded look_up text)) → is_empty (expanded look_up text) ≡ false
      → depth_given place look_up (Some text) ≡ (if is_too_large (expanded look_up text) then refused place TooLarge else Ok depth)
  depth_some depth e some = ap (depth_read place (expanded look_up text)) (found (Some depth) e some)

  pub depth_fault : (depth : ℕ) (fault : ReadFault) → Some depth ≡ (if is_empty text then None else depth_from 0 (expanded look_up text))
      → IsFault fault (value_limited place (expanded look_up text)) → IsFault fault (depth_given place look_up (Some text))
  depth_fault depth Memory e h = tt
  depth_fault depth (Manifest fault) e h = by (is_too_large (expanded look_up text)) refl (is_empty (expanded look_up text)) refl h
    where
      by : (b : Bool) → is_too_large (expanded look_up text) ≡ b → (n : Bool) → is_empty (expanded look_up text) ≡ n
          → unless place (if b then Some TooLarge else None) (expanded look_up text) ≡ Err fault → depth_given place look_up (Some text) ≡ Err fault
      by true large false some h = depth_some depth e some ∙ ap (λ b. if b then refused place TooLarge else Ok depth) large ∙ cc
      by true large true none h = let no : true ≡ false = sym large ∙ small (expanded look_up text) none in cc
      by false large n none h = cc

  pub depth_ok : (depth : ℕ) (v : List ℕ) → Some depth ≡ (if is_empty text then None else depth_from 0 (expanded look_up text)) → value_limited place (expanded look_up text) ≡ Ok v
      → is_empty v ≡ false → depth_given place look_up (Some text) ≡ Ok depth
  depth_ok depth v e h some = by (is_too_large (expanded look_up text)) refl h
    where
      by : (b : Bool) → is_too_large (expanded look_up text) ≡ b → unless place (if b then Some TooLarge else None) (expanded look_up text) ≡ Ok v
          → depth_given place look_up (Some text) ≡ Ok depth
      by true large h = cc
      by false large h =
          let same : expanded look_up text ≡ v = cc in
          depth_some depth e (ap is_empty same ∙ some) ∙ ap (λ b. if b then refused place TooLarge else Ok depth) large

  pub value_is : (v : List ℕ) → value_limited place (expanded look_up text) ≡ Ok v → expanded look_up text ≡ v
  value_is v h = by (is_too_large (expanded look_up text)) h
    where
      by : (b : Bool) → unless place (if b then Some TooLarge else None) (expanded look_up text) ≡ Ok v → expanded look_up text ≡ v
      by true h = cc
      by false h = cc

-- the last binding
pub last_is : (front : List BindingValue) (x : BindingValue) → last_text (front ++ x ∷ []) ≡ Some x.value
last_is [] x = refl
last_is (a ∷ []) x = refl
last_is (a ∷ b ∷ front) x = last_is (b ∷ front) x
