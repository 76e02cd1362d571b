-- Later commands that look at what an event left, one by one.
use Rattle.std.proofs.Common.{◌≡◌, ℕ, zero, suc, ◌+◌, ◌<◌, ◌≤◌, Bool, true, false, List, [], ◌∷◌, ◌++◌, length, get_or, take, Option, None, refl, sym, ap, ◌∙◌, arith}
use Rattle.std.specs.Prelude.{filter, is_some, if◌then◌else◌}
use Rattle.std.specs.List.{filter_map, flat_map, range_with_len}
use Rattle.std.specs.Option.{option_to_list}
use Rattle.std.proofs.lemmas.List.{append-nil, append_assoc, take_more}
use Rattle.std.proofs.lemmas.List.Elements.{filter_map-append}
use Rattle.std.proofs.lemmas.Grind.{flat_map-append}
use Rattle.rev_looked.specs.Ranges.{noted}
use Rattle.rev_looked.proofs.NeedLemmas.{one-more}

-- those of paths, and one more
pub seen-more : {X : Type 0} (f : ℕ → Option X) (xs : List ℕ) (i x : ℕ) (first old new : List X) (o : Option X) → i < length xs
    → x ≡ get_or xs i 0 → old ≡ first ++ filter_map f (take i xs) → o ≡ f x → new ≡ old ++ option_to_list o
    → new ≡ first ++ filter_map f (take (i + 1) xs)
seen-more f xs i x first old new o within is so seen now =
    let next : take (i + 1) xs ≡ take i xs ++ x ∷ [] =
    take_more xs i 0 within ∙ ap (λ y. take i xs ++ y ∷ []) (sym is) in
    now ∙ ap (λ us. us ++ option_to_list o) so ∙ append_assoc first (filter_map f (take i xs)) (option_to_list o)
    ∙ ap (λ us. first ++ us)
    (ap (λ q. filter_map f (take i xs) ++ option_to_list q) seen
    ∙ sym (ap (filter_map f) next ∙ filter_map-append f (take i xs) (x ∷ [])
    ∙ ap (λ ys. filter_map f (take i xs) ++ ys) (one-more (f x))))

-- those of all numbers, and of one more
pub flat-more : {X : Type 0} (f : ℕ → List X) (xs : List ℕ) (i x : ℕ) (old new : List X) → i < length xs
    → x ≡ get_or xs i 0 → old ≡ flat_map f (take i xs) → new ≡ old ++ f x → new ≡ flat_map f (take (i + 1) xs)
flat-more f xs i x old new within is so now =
    let next : take (i + 1) xs ≡ take i xs ++ x ∷ [] =
    take_more xs i 0 within ∙ ap (λ y. take i xs ++ y ∷ []) (sym is) in
    now ∙ ap (λ us. us ++ f x) so
    ∙ sym (ap (flat_map f) next ∙ flat_map-append f (take i xs) (x ∷ [])
    ∙ ap (λ us. flat_map f (take i xs) ++ us) (append-nil (f x)))

-- a note where nothing was noted
pub is-noted : (b : Bool) (n : ℕ) → is_some (noted b n None) ≡ b
is-noted true n = refl
is-noted false n = refl

-- two tests that agree below a number
pub filters-agree : (p q : ℕ → Bool) (a n : ℕ) → ((k : ℕ) → a ≤ k → k < a + n → p k ≡ q k)
    → filter p (range_with_len a n) ≡ filter q (range_with_len a n)
filters-agree p q a zero agree = refl
filters-agree p q a (suc n) agree =
    (λ j. if agree a (omega arith) (omega arith) j
    then a ∷ filters-agree p q (a + 1) n (λ k low high. agree k (omega arith) (omega arith)) j
    else filters-agree p q (a + 1) n (λ k low high. agree k (omega arith) (omega arith)) j)
