-- What is told, one after the other.
use Rattle.std.proofs.Common.{◌≡◌, ℕ, zero, suc, ◌+◌, ◌<◌, Bool, true, false, cond, List, [], ◌∷◌, ◌++◌, length, get_or, take, Option, Some, None, refl, sym, ap, ◌∙◌, arith, append_assoc, append-nil}
use Rattle.std.specs.List.{cons_option, filter, filter_map, flat_map, range_with_len}
use Rattle.std.proofs.lemmas.List.{length_push, take_more}
use Rattle.std.proofs.lemmas.List.Elements.{filter-append}
use Rattle.std.proofs.lemmas.Grind.{flat_map-append}
use Rattle.rev_entry_conflicts.specs.declared.conflict.Conflict.{Conflict}
use Rattle.rev_entry_conflicts.specs.declared.conflict.Kind.{Kind}
use Rattle.rev_entry_conflicts.specs.declared.deed.Command.{Command}
use Rattle.rev_entry_conflicts.specs.Conflicts.{is_kind, kind_at, places, told}
use Rattle.rev_entry_conflicts.specs.Deeds.{Scene}
use Rattle.rev_entry_conflicts.specs.Orders.{AreEnough}

-- one more entry that passes, or does not
pub filter-more : (p : ℕ → Bool) (xs : List ℕ) (i x : ℕ) → i < length xs → x ≡ get_or xs i x → filter p (take (i + 1) xs) ≡ filter p (take i xs) ++ cond (p x) (x ∷ []) []
filter-more p xs i x within is = ap (filter p) (take_more xs i x within) ∙ filter-append p (take i xs) (get_or xs i x ∷ []) ∙ ap (λ y. filter p (take i xs) ++ cond (p y) (y ∷ []) []) (sym is)

pub filter-passes : (p : ℕ → Bool) (xs : List ℕ) (i x : ℕ) → i < length xs → x ≡ get_or xs i x → p x ≡ true → filter p (take i xs) ++ x ∷ [] ≡ filter p (take (i + 1) xs)
filter-passes p xs i x within is h = sym (filter-more p xs i x within is ∙ ap (λ b. filter p (take i xs) ++ cond b (x ∷ []) []) h)

pub filter-skips : (p : ℕ → Bool) (xs : List ℕ) (i x : ℕ) → i < length xs → x ≡ get_or xs i x → p x ≡ false → filter p (take i xs) ≡ filter p (take (i + 1) xs)
filter-skips p xs i x within is h = sym (filter-more p xs i x within is ∙ ap (λ b. filter p (take i xs) ++ cond b (x ∷ []) []) h ∙ append-nil (filter p (take i xs)))

-- one more entry of an answer
pub told-none : (made_by used_by : ℕ) (kind : Kind) (xs : List ℕ) (entry : ℕ) → None ≡ told made_by used_by kind xs
    → Some (record { kind = kind; made_by = made_by; used_by = used_by; entry = entry; others = 0 }) ≡ told made_by used_by kind (xs ++ entry ∷ [])
told-none made_by used_by kind [] entry h = refl
told-none made_by used_by kind (x ∷ xs) entry h = cc

pub told-more : (made_by used_by : ℕ) (kind : Kind) (xs : List ℕ) (entry : ℕ) (c : Conflict) → Some c ≡ told made_by used_by kind xs
    → Some (record { kind = c.kind; made_by = c.made_by; used_by = c.used_by; entry = c.entry; others = c.others + 1 }) ≡ told made_by used_by kind (xs ++ entry ∷ [])
told-more made_by used_by kind [] entry c h = cc
told-more made_by used_by kind (x ∷ xs) entry c h =
    let same : c ≡ record { kind = kind; made_by = made_by; used_by = used_by; entry = x; others = length xs } = cc in
    ap (λ (d : Conflict). Some (record { kind = d.kind; made_by = d.made_by; used_by = d.used_by; entry = d.entry; others = d.others + 1 })) same
    ∙ ap (λ n. Some (record { kind = kind; made_by = made_by; used_by = used_by; entry = x; others = n })) (sym (length_push xs entry))

-- what was added, one after the other
abbrev pub Chain : List Conflict → List (Option Conflict) → List Conflict → Type 0
Chain old [] new = old ≡ new
Chain old (o ∷ os) new = (next : List Conflict) × ((next ≡ old ++ cons_option o []) × Chain next os new)

before-rest : (o : Option Conflict) (xs : List Conflict) → cons_option o [] ++ xs ≡ cons_option o xs
before-rest None xs = refl
before-rest (Some c) xs = refl

pub chain-all : (os : List (Option Conflict)) (old new : List Conflict) → Chain old os new → new ≡ old ++ filter_map (λ o. o) os
chain-all [] old new same = sym same ∙ sym (append-nil old)
chain-all (o ∷ os) old new (next, (e, rest)) =
    chain-all os next new rest ∙ ap (λ xs. xs ++ filter_map (λ o. o) os) e ∙ append_assoc old (cons_option o []) (filter_map (λ o. o) os)
    ∙ ap (λ xs. old ++ xs) (before-rest o (filter_map (λ o. o) os))

-- ONE NUMBER AFTER THE OTHER
range-more : (a n : ℕ) → range_with_len a (suc n) ≡ range_with_len a n ++ (a + n) ∷ []
range-more a zero = ap (λ x. x ∷ []) (omega arith)
range-more a (suc n) = ap (λ xs. a ∷ xs) (range-more (a + 1) n ∙ ap (λ x. range_with_len (a + 1) n ++ x ∷ []) (omega arith))

pub flat-more : (f : ℕ → List Conflict) (n : ℕ) (first old new : List Conflict) → old ≡ first ++ flat_map f (range_with_len 0 n) → new ≡ old ++ f n → new ≡ first ++ flat_map f (range_with_len 0 (n + 1))
flat-more f n first old new before added =
    let next : n + 1 ≡ suc n = omega arith in
    let here : 0 + n ≡ n = omega arith in
    added ∙ ap (λ xs. xs ++ f n) before ∙ append_assoc first (flat_map f (range_with_len 0 n)) (f n)
    ∙ ap (λ xs. first ++ xs)
    (sym (ap (λ m. flat_map f (range_with_len 0 m)) next ∙ ap (flat_map f) (range-more 0 n ∙ ap (λ x. range_with_len 0 n ++ x ∷ []) here)
    ∙ flat_map-append f (range_with_len 0 n) (n ∷ []) ∙ ap (λ xs. flat_map f (range_with_len 0 n) ++ xs) (append-nil (f n))))

-- a kind that was added, where the list has each entry
pub kind-added : (s : Scene) (made used : Command) (made_by used_by : ℕ) (numbers : List ℕ) (kind : Kind) (old new : List Conflict) → AreEnough s made used numbers
    → new ≡ old ++ cons_option (told made_by used_by kind (filter (λ n. is_kind kind (kind_at s made used n)) numbers)) [] → new ≡ old ++ cons_option (told made_by used_by kind (places s made used kind)) []
kind-added s made used made_by used_by numbers kind old new enough added = added ∙ ap (λ ps. old ++ cons_option (told made_by used_by kind ps) []) (enough kind)

-- one more number that passes, or does not
pub range-filter : (p : ℕ → Bool) (n : ℕ) (old new : List ℕ) → old ≡ filter p (range_with_len 0 n) → new ≡ old ++ cond (p n) (n ∷ []) [] → new ≡ filter p (range_with_len 0 (n + 1))
range-filter p n old new before added =
    let next : n + 1 ≡ suc n = omega arith in
    let here : 0 + n ≡ n = omega arith in
    added ∙ ap (λ xs. xs ++ cond (p n) (n ∷ []) []) before
    ∙ sym (ap (λ m. filter p (range_with_len 0 m)) next ∙ ap (filter p) (range-more 0 n ∙ ap (λ x. range_with_len 0 n ++ x ∷ []) here) ∙ filter-append p (range_with_len 0 n) (n ∷ []))
