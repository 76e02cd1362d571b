-- What is needed by all paths, and where each was last left.
use Rattle.std.proofs.Common.{◌≡◌, ℕ, ◌+◌, ◌-◌, ◌<◌, Bool, true, false, List, [], ◌∷◌, ◌++◌, length, get_or, take, reverse, Option, Some, None, refl, sym, ap, ◌∙◌, arith}
use Rattle.std.specs.Prelude.{filter, find, if◌then◌else◌}
use Rattle.std.specs.List.{cons_option, filter_map, range_with_len}
use Rattle.std.specs.Option.{option_or, option_to_list}
use Rattle.std.proofs.lemmas.List.{get_or-reverse, length-reverse, take_more}
use Rattle.std.proofs.lemmas.List.Elements.{filter-append, filter_map-append}
use Rattle.std.proofs.lemmas.List.Folds.{find-append}
use Rattle.rev_events.proofs.AddsLemmas.{range-next}
use Rattle.rev_observed.specs.declared.kind.Kind.TheVariants.{Reads, Stats, Misses}
use Rattle.rev_looked.specs.Ranges.{noted}

-- THE LAST OF THOSE THAT PASS
or-none : {T : Type 0} (o : Option T) → option_or o None ≡ o
or-none None = refl
or-none (Some x) = refl

noted-more : (q : ℕ → Bool) (x : ℕ) (o : Option ℕ) → noted (q x) x o ≡ option_or o (find q (x ∷ []))
noted-more q x o = by (q x)
  where
    by : (b : Bool) → noted b x o ≡ option_or o (if b then Some x else None)
    by true = refl
    by false = sym (or-none o)

-- of a list that is gone through from its end
pub found-next : (q : ℕ → Bool) (xs : List ℕ) (i x : ℕ) (old new : Option ℕ) → i < length xs
    → x ≡ get_or xs (length xs - 1 - i) 0 → old ≡ find q (take i (reverse xs)) → new ≡ noted (q x) x old
    → new ≡ find q (take (i + 1) (reverse xs))
found-next q xs i x old new within is so now =
    let there : i < length (reverse xs) = omega (arith, length-reverse xs) in
    let at : get_or (reverse xs) i 0 ≡ x = get_or-reverse xs i 0 within ∙ sym is in
    now ∙ noted-more q x old ∙ ap (λ o. option_or o (find q (x ∷ []))) so
    ∙ sym (ap (find q) (take_more (reverse xs) i 0 there ∙ ap (λ y. take i (reverse xs) ++ y ∷ []) at)
    ∙ find-append q (take i (reverse xs)) (x ∷ []))

-- of a list that is gone through from its front
pub found-after : (q : ℕ → Bool) (xs : List ℕ) (i x : ℕ) (old new : Option ℕ) → i < length xs
    → x ≡ get_or xs i 0 → old ≡ find q (take i xs) → new ≡ noted (q x) x old → new ≡ find q (take (i + 1) xs)
found-after q xs i x old new within is so now =
    now ∙ noted-more q x old ∙ ap (λ o. option_or o (find q (x ∷ []))) so
    ∙ sym (ap (find q) (take_more xs i 0 within ∙ ap (λ y. take i xs ++ y ∷ []) (sym is)) ∙ find-append q (take i xs) (x ∷ []))

-- ALL PATHS
pub one-more : {X : Type 0} (o : Option X) → cons_option o [] ≡ option_to_list o
one-more None = refl
one-more (Some x) = refl

pub mapped-next : {X : Type 0} (f : ℕ → Option X) (n : ℕ)
    → filter_map f (range_with_len 0 (n + 1)) ≡ filter_map f (range_with_len 0 n) ++ option_to_list (f n)
mapped-next f n =
    ap (filter_map f) (range-next n) ∙ filter_map-append f (range_with_len 0 n) (n ∷ [])
    ∙ ap (λ ys. filter_map f (range_with_len 0 n) ++ ys) (one-more (f n))

pub filtered-next : (q : ℕ → Bool) (n : ℕ)
    → filter q (range_with_len 0 (n + 1)) ≡ filter q (range_with_len 0 n) ++ (if q n then n ∷ [] else [])
filtered-next q n = ap (filter q) (range-next n) ∙ filter-append q (range_with_len 0 n) (n ∷ [])

-- HOW A COMMAND LOOKS
pub look-noted : (reads misses stats : Bool)
    → noted stats Stats (noted misses Misses (noted reads Reads None))
    ≡ (if reads then Some Reads else if misses then Some Misses else if stats then Some Stats else None)
look-noted true true true = refl
look-noted true true false = refl
look-noted true false true = refl
look-noted true false false = refl
look-noted false true true = refl
look-noted false true false = refl
look-noted false false true = refl
look-noted false false false = refl
